use Rattle.std.proofs.Common.{◌≡◌, max, drop, map}
use Rattle.module_limits.specs.Depths.{deepest}
use Rattle.module_limits.proofs.depths.deepest_member.Given as goal

abbrev pub invariant-loop-member : goal.invariant-loop-member
invariant-loop-member l = max l.deepest (deepest l.depths (map (λ k. k.ty) (drop l.member-index l.members)))
    ≡ deepest l.depths (map (λ k. k.ty) l.members)
