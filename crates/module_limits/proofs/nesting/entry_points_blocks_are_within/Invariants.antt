use Rattle.std.proofs.Common.{◌≡◌, drop, map, nat_le}
use Rattle.module_limits.specs.Blocks.{block_depth}
use Rattle.module_limits.specs.Depths.{greatest}
use Rattle.module_limits.proofs.nesting.entry_points_blocks_are_within.Given as goal

abbrev pub invariant-loop-point : goal.invariant-loop-point
invariant-loop-point l =
    nat_le (greatest (map (λ p. block_depth p.function.body) (drop l.point-index l.points))) l.levels
    ≡ nat_le (greatest (map (λ p. block_depth p.function.body) l.points)) l.levels
