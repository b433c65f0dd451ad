-- what all say is what those to come say
use Rattle.std.proofs.Common.{◌≡◌, drop}
use Rattle.json.specs.Value.{items_view}
use Rattle.naga_json.specs.Diagnostics.{each_item, without_own}
use Rattle.naga_json.proofs.diagnostics.expect_leaves.Given as goal

abbrev pub invariant-loop-index : goal.invariant-loop-index
invariant-loop-index l =
    each_item (without_own l.leaf) (items_view (drop l.index l.function-items))
    ≡ each_item (without_own l.leaf) (items_view l.function-items)
