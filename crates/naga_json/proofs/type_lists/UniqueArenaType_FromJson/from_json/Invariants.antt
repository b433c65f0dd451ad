-- so many types were read, and with those to come they are what all say
use Rattle.std.proofs.Common.{◌≡◌, [], drop, length, map}
use Rattle.json.specs.Value.{items_view}
use Rattle.naga_json.specs.Seen.{seen_type}
use Rattle.naga_json.specs.TypeLists.{types_after}
use Rattle.naga_json.proofs.type_lists.UniqueArenaType_FromJson.from_json.Given as goal

abbrev pub invariant-loop-index : goal.invariant-loop-index
invariant-loop-index l = (length l.read ≡ l.index)
    × (types_after (map seen_type l.read) (items_view (drop l.index l.item-items))
    ≡ types_after [] (items_view l.item-items))
