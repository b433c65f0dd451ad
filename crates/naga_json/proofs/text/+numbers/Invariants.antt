-- The tokens of what is looked at, and what the front of a list has to do with the whole.
use Rattle.std.proofs.Common.{◌≡◌, drop, length}
use Rattle.json.specs.Tree.{json_tokens, items_tokens, members_tokens}
use Rattle.json.specs.Value.{value_view, items_view, members_view}
use Rattle.naga_json.specs.Text.{items_fit, members_fit}
use Rattle.naga_json.proofs.text.+numbers.Given as goal

abbrev pub decreases-numbers_fit : goal.decreases-numbers_fit
decreases-numbers_fit l = length (json_tokens (value_view l.value.now))

abbrev pub decreases-items_fit : goal.decreases-items_fit
decreases-items_fit l = length (items_tokens (items_view l.items.now.items))

abbrev pub decreases-members_fit : goal.decreases-members_fit
decreases-members_fit l = length (members_tokens (members_view l.members.now.items))

abbrev pub invariant-items_fit-loop-item : goal.invariant-items_fit-loop-item
invariant-items_fit-loop-item l = items_fit (items_view (drop l.item-index l.item-items))
    ≡ items_fit (items_view l.item-items)

abbrev pub invariant-members_fit-loop-member : goal.invariant-members_fit-loop-member
invariant-members_fit-loop-member l = members_fit (members_view (drop l.member-index l.member-items))
    ≡ members_fit (members_view l.member-items)
