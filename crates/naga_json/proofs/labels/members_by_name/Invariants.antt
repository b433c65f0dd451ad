-- what was found, with those to come, is what all give
use Rattle.std.proofs.Common.{◌≡◌, [], drop}
use Rattle.json.specs.Value.{members_view}
use Rattle.naga_json.specs.Labels.{by_name, seen_by_name}
use Rattle.naga_json.proofs.labels.members_by_name.Given as goal

abbrev pub invariant-loop-member : goal.invariant-loop-member
invariant-loop-member l =
    by_name (seen_by_name l.found.entries) (members_view (drop l.member-index l.member-items))
    ≡ by_name [] (members_view l.member-items)
