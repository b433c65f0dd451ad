use Rattle.naga_naming.specs.Keys.{names_in}
use Rattle.naga_spelling.specs.Contexts.{names_context}
use Rattle.naga_spelling.specs.Spelling.{type_segments}
use Rattle.naga_wgsl_shared.specs.Types.{spelled_text}
use Rattle.naga_wgsl_shared.proofs.TypeRows.{formed_within, in_order, known_wrote, type_known}
use Rattle.naga_wgsl_shared.proofs.module_text.ModuleText.write_type.Goals as goal

pub write_type_in-requires-clause-order : goal.write_type_in-requires-clause-order
write_type_in-requires-clause-order g c = in_order c.args.self.now.shader.now c.requires.can.of_module
    (names_in c.args.self.now.names.now)

pub write_type_in-requires-clause-in_range : goal.write_type_in-requires-clause-in_range
write_type_in-requires-clause-in_range g c =
    formed_within c.args.self.now.shader.now.types c.args.ty c.requires.formed

pub returns : goal.returns
returns g c =
    let self = c.args.self.now in
    let context = names_context self.shader.now.types (names_in self.names.now) in
    known_wrote (type_segments context c.args.ty) (spelled_text self.shader.now c.args.ty)
    (type_known self.shader.now c.requires.can.of_module (names_in self.names.now)
    c.requires.can.named c.args.ty c.requires.formed)
    c.write_type_in.ensures
