use Rattle.std.proofs.Common.{◌≡◌, None}
use Rattle.naga_tables.proofs.Searching.{Passed}
use Rattle.naga_tables.specs.Declarations.{member_refusal}
use Rattle.naga_tables.proofs.declarations.unsupported_in_members.Given as goal

abbrev pub invariant-loop-member : goal.invariant-loop-member
invariant-loop-member l =
    Passed (λ i s. member_refusal l.module s ≡ None) l.members l.member-index
