use Rattle.naga_ir.specs.Operands.{expression_operands}
use Rattle.module_limits.specs.Nesting.{global_parts, type_parts}
use Rattle.module_limits.proofs.Deeper.{are_one_deeper}
use Rattle.module_limits.proofs.laws.depths_are_structural.Goals as goal

pub returns : goal.returns
returns c = record {
  operands = are_one_deeper expression_operands;
  globals = λ constants. are_one_deeper (global_parts constants);
  types = are_one_deeper (λ t. type_parts t.inner);
}
