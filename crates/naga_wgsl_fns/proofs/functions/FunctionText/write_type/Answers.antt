use Rattle.std.proofs.Common.{◌∙◌, ap}
use Rattle.module_semantics.specs.AlikeTypes.{has_type_form}
use Rattle.naga_info.specs.declared.info.TypeResolution.TheVariants.{Handle}
use Rattle.naga_words.proofs.Writing.{writes_as}
use Rattle.naga_wgsl_fns.proofs.ModuleTexts.{can_in}
use Rattle.naga_wgsl_fns.proofs.TypeRows.{type_same}
use Rattle.naga_wgsl_shared.specs.Types.{spelled_text}
use Rattle.naga_wgsl_fns.proofs.functions.FunctionText.write_type.Goals as goal

pub write_type-requires-clause-can : goal.write_type-requires-clause-can
write_type-requires-clause-can g c =
    can_in c.args.self.now c.requires.can c.of_module.result c.of_module.ensures.shader
    c.of_module.ensures.tables c.of_module.ensures.names

pub write_type-requires-clause-formed : goal.write_type-requires-clause-formed
write_type-requires-clause-formed g c =
    ap (λ m. has_type_form m.types (Handle c.args.ty)) c.of_module.ensures.shader ∙ c.requires.formed

pub returns : goal.returns
returns g c =
    writes_as
    (ap (λ m. spelled_text m c.args.ty) c.of_module.ensures.shader ∙ type_same c.args.self.now c.args.ty)
    c.write_type.ensures
