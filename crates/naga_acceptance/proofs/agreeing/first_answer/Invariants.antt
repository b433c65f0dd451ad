use Rattle.std.proofs.Common.{◌≡◌, None}
use Rattle.naga_acceptance.specs.Uses.{first_answer, first_uses, group_of, operation}
use Rattle.naga_acceptance.proofs.agreeing.first_answer.Given as goal

abbrev pub invariant-loop-index : goal.invariant-loop-index
invariant-loop-index l =
    first_answer (first_uses l.types (group_of l.group) l.index) (operation l.types l.used) ≡ None
