use Rattle.std.proofs.Common.{◌≡◌, drop, nat_lt}
use Rattle.std.specs.List.{list_all}
use Rattle.naga_acceptance.proofs.ranges.types.members_before.Given as goal

abbrev pub invariant-loop-member : goal.invariant-loop-member
invariant-loop-member l = list_all (λ k. nat_lt k.ty l.types) (drop l.member-index l.members)
    ≡ list_all (λ k. nat_lt k.ty l.types) l.members
