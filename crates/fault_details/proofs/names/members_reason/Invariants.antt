use Rattle.std.proofs.Common.{◌≡◌, drop, []}
use Rattle.fault_details.specs.Demands.{OfEach, before, unmet}
use Rattle.module_semantics.specs.declared.named.ListName.TheVariants.{Types}
use Rattle.fault_details.proofs.names.members_reason.Given as goal

abbrev pub invariant-loop-member : goal.invariant-loop-member
invariant-loop-member l =
    unmet [] (OfEach (λ member. before Types l.here l.count member.ty) (drop l.member-index l.members))
    ≡ unmet [] (OfEach (λ member. before Types l.here l.count member.ty) l.members)
