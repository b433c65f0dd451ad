-- whether all have the name is whether the rest have it
use Rattle.std.proofs.Common.{◌≡◌, drop}
use Rattle.json.specs.Value.{members_view}
use Rattle.naga_json.specs.Said.{all_named}
use Rattle.naga_json.proofs.shape.all_named.Given as goal

abbrev pub invariant-loop-member : goal.invariant-loop-member
invariant-loop-member l = all_named l.name (members_view (drop l.member-index l.member-items))
    ≡ all_named l.name (members_view l.member-items)
