use Rattle.std.proofs.Common.{◌≡◌}
use Rattle.naga_ir.specs.Operands.{expression_operands}
use Rattle.module_semantics.specs.acceptance.Ranges.{all_below}
use Rattle.naga_acceptance.proofs.ranges.expressions.operands_before.Given as goal

abbrev pub invariant-loop-operand : goal.invariant-loop-operand
invariant-loop-operand l =
    all_below l.expressions l.operand-iterator ≡ all_below l.expressions (expression_operands l.expression)
