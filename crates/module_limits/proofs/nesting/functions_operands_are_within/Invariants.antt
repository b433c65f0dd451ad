use Rattle.std.proofs.Common.{◌≡◌, map, nat_le}
use Rattle.module_limits.specs.Depths.{greatest}
use Rattle.module_limits.specs.Nesting.{operands_depth}
use Rattle.module_limits.proofs.nesting.functions_operands_are_within.Given as goal

abbrev pub invariant-loop-function : goal.invariant-loop-function
invariant-loop-function l =
    nat_le (greatest (map operands_depth (map (λ p. p.1) l.function-iterator))) l.levels
    ≡ nat_le (greatest (map operands_depth l.functions)) l.levels
