use Rattle.std.proofs.Common.{◌∙◌, ap, map, nat_le}
use Rattle.module_limits.specs.Blocks.{block_depth}
use Rattle.module_limits.specs.Depths.{greatest}
use Rattle.module_limits.proofs.Levels.{items_of_pairs}
use Rattle.module_limits.proofs.nesting.functions_blocks_are_within.Goals as goal

pub loop-function-init : goal.loop-function-init
loop-function-init c =
    ap (λ ps. nat_le (greatest (map (λ f. block_depth f.body) (map (λ p. p.1) ps))) c.args.levels)
    (c.into_iter-function-iterator.ensures.into_iter_gives ∙ c.iter-function-items.ensures)
    ∙ ap (λ fs. nat_le (greatest (map (λ f. block_depth f.body) fs)) c.args.levels)
    (items_of_pairs 0 c.args.functions.now)
