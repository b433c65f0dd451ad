use Rattle.std.proofs.Common.{ap, ◌∙◌}
use Rattle.module_semantics.specs.ExpressionForms.{constant_has_form}
use Rattle.naga_words.proofs.Writing.{writes_as}
use Rattle.naga_wgsl_fns.proofs.ModuleTexts.{can_in}
use Rattle.naga_wgsl_shared.specs.Constants.{constant_text}
use Rattle.naga_wgsl_fns.proofs.functions.FunctionText.write_constant.Goals as goal

pub write_constant-requires-clause-can : goal.write_constant-requires-clause-can
write_constant-requires-clause-can g c =
    can_in c.args.self.now c.requires.can c.of_module.result c.of_module.ensures.shader
    c.of_module.ensures.tables c.of_module.ensures.names

pub write_constant-requires-clause-has_form : goal.write_constant-requires-clause-has_form
write_constant-requires-clause-has_form g c =
    ap (λ m. constant_has_form m c.args.constant) c.of_module.ensures.shader ∙ c.requires.has_form

pub returns : goal.returns
returns g c =
    writes_as (ap (λ m. constant_text m c.args.constant) c.of_module.ensures.shader)
    c.write_constant.ensures
