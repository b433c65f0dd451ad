use Rattle.std.proofs.Common.{◌≡◌, ◌≤◌, fold, map}
use Rattle.naga_ir.specs.Operands.{expression_operands}
use Rattle.module_limits.specs.Depths.{depths_of, greatest, with_depth}
use Rattle.module_limits.proofs.depths.operands_are_within.Given as goal

abbrev pub invariant-loop-expression : goal.invariant-loop-expression
invariant-loop-expression l = record {
  left : fold (with_depth expression_operands) l.depths.items (map (λ p. p.1) l.expression-iterator)
      ≡ depths_of expression_operands l.expressions;
  within : greatest l.depths.items ≤ l.levels;
}
