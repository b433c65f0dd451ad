use Rattle.std.proofs.Common.{◌≡◌, ◌≤◌, fold, map}
use Rattle.module_limits.specs.Depths.{depths_of, greatest, with_depth}
use Rattle.module_limits.specs.Nesting.{global_parts}
use Rattle.module_limits.proofs.depths.globals_are_within.Given as goal

abbrev pub invariant-loop-expression : goal.invariant-loop-expression
invariant-loop-expression l = record {
  left : fold (with_depth (global_parts l.constants)) l.depths.items (map (λ p. p.1) l.expression-iterator)
      ≡ depths_of (global_parts l.constants) l.expressions;
  within : greatest l.depths.items ≤ l.levels;
}
