use Rattle.std.proofs.Common.{ap, ◌∙◌}
use Rattle.naga_ir.specs.declared.module.Module.{Module}
use Rattle.module_semantics.specs.ModuleShapes.{module_shape}
use Rattle.module_semantics.specs.Names.{module_names}
use Rattle.decimal_semantics.proofs.DecimalNames.{names_same}
use Rattle.decimal_semantics.proofs.DecimalShapes.{shape_of_module_same}
use Rattle.decimal_semantics.proofs.laws.decimal_modules_have_their_shapes.Goals as goal

pub returns : goal.returns
returns c = record {
  names = λ old new decimal.
      ap (λ (m : Module). module_names m) decimal.rest ∙ names_same old new decimal;
  shapes = λ old new decimal info.
      ap (λ (m : Module). module_shape m info) decimal.rest
      ∙ shape_of_module_same old new decimal info;
}
