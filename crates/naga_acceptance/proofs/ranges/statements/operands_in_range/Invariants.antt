use Rattle.std.proofs.Common.{◌≡◌}
use Rattle.naga_ir.specs.Operands.{own_operands}
use Rattle.naga_ir.specs.StatementViews.{tree_of}
use Rattle.module_semantics.specs.acceptance.Ranges.{all_below}
use Rattle.naga_acceptance.proofs.ranges.statements.operands_in_range.Given as goal

abbrev pub invariant-loop-operand : goal.invariant-loop-operand
invariant-loop-operand l =
    all_below l.expressions l.operand-iterator ≡ all_below l.expressions (own_operands (tree_of l.statement))
