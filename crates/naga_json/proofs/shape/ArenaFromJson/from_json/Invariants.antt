-- what was read, and what the rest says, is what all say
use Rattle.std.proofs.Common.{◌≡◌, ◌++◌, drop, map, Some}
use Rattle.json.specs.Value.{items_view}
use Rattle.naga_json.specs.Said.{◌>>=◌, items_said}
use Rattle.naga_json.proofs.shape.ArenaFromJson.from_json.Given as goal

abbrev pub invariant-loop-index : goal.invariant-loop-index
invariant-loop-index g l =
    (items_said g.T.FromJson.said (items_view (drop l.index l.item-items)) >>= λ xs. Some (map g.T.FromJson.seen l.read ++ xs))
    ≡ items_said g.T.FromJson.said (items_view l.item-items)
