use Rattle.naga_naming.specs.Keys.{names_in}
use Rattle.naga_spelling.specs.Contexts.{names_context}
use Rattle.naga_spelling.specs.Spelling.{resolution_segments}
use Rattle.naga_wgsl_fns.specs.Types.{resolution_text}
use Rattle.naga_wgsl_fns.proofs.ModuleTexts.{can_of}
use Rattle.naga_wgsl_shared.proofs.TypeRows.{in_order, known_wrote}
use Rattle.naga_wgsl_fns.proofs.TypeRows.{resolution_known}
use Rattle.naga_wgsl_shared.proofs.TypeRows.{resolution_within}
use Rattle.naga_wgsl_fns.proofs.functions.FunctionText.write_type_of.Goals as goal

pub write_resolution_in-requires-clause-order : goal.write_resolution_in-requires-clause-order
write_resolution_in-requires-clause-order g c =
    in_order c.args.self.now.known.shader.now (can_of c.args.self.now c.requires.can)
    (names_in c.args.self.now.known.names.now)

pub write_resolution_in-requires-clause-fits : goal.write_resolution_in-requires-clause-fits
write_resolution_in-requires-clause-fits g c =
    resolution_within c.args.self.now.known.shader.now (can_of c.args.self.now c.requires.can)
    (names_in c.args.self.now.known.names.now) c.args.ty.now c.requires.fits

pub returns : goal.returns
returns g c =
    let self = c.args.self.now in
    let context = names_context self.known.shader.now.types (names_in self.known.names.now) in
    known_wrote (resolution_segments context c.args.ty.now) (resolution_text self c.args.ty.now)
    (resolution_known self c.requires.can c.args.ty.now c.requires.formed c.requires.fits)
    c.write_resolution_in.ensures
