use Rattle.std.proofs.Common.{◌≡◌, drop, map, nat_le}
use Rattle.module_limits.specs.Depths.{greatest}
use Rattle.module_limits.specs.Nesting.{operands_depth}
use Rattle.module_limits.proofs.nesting.entry_points_operands_are_within.Given as goal

abbrev pub invariant-loop-point : goal.invariant-loop-point
invariant-loop-point l =
    nat_le (greatest (map (λ p. operands_depth p.function) (drop l.point-index l.points))) l.levels
    ≡ nat_le (greatest (map (λ p. operands_depth p.function) l.points)) l.levels
