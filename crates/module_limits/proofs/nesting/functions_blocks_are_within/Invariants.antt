use Rattle.std.proofs.Common.{◌≡◌, map, nat_le}
use Rattle.module_limits.specs.Blocks.{block_depth}
use Rattle.module_limits.specs.Depths.{greatest}
use Rattle.module_limits.proofs.nesting.functions_blocks_are_within.Given as goal

abbrev pub invariant-loop-function : goal.invariant-loop-function
invariant-loop-function l =
    nat_le (greatest (map (λ f. block_depth f.body) (map (λ p. p.1) l.function-iterator))) l.levels
    ≡ nat_le (greatest (map (λ f. block_depth f.body) l.functions)) l.levels
