-- each member that was seen has one of the names
use Rattle.std.proofs.Common.{◌≡◌, drop}
use Rattle.json.specs.Value.{members_view}
use Rattle.naga_json.specs.Said.{texts, members_among}
use Rattle.naga_json.proofs.shape.expect_members_beside.Given as goal

abbrev pub invariant-loop-member : goal.invariant-loop-member
invariant-loop-member l = members_among (texts l.names) (texts l.let_be) (members_view (drop l.member-index l.member-items))
    ≡ members_among (texts l.names) (texts l.let_be) (members_view l.member-items)
