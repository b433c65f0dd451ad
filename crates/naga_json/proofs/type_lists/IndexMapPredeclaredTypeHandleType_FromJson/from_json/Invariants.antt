-- the pairs that were read, with those to come, are what all say
use Rattle.std.proofs.Common.{◌≡◌, [], drop}
use Rattle.json.specs.Value.{items_view}
use Rattle.naga_json.specs.TypeLists.{pairs_after}
use Rattle.naga_json.proofs.type_lists.IndexMapPredeclaredTypeHandleType_FromJson.from_json.Given as goal

abbrev pub invariant-loop-index : goal.invariant-loop-index
invariant-loop-index l = pairs_after l.read.entries (items_view (drop l.index l.pair-items))
    ≡ pairs_after [] (items_view l.pair-items)
