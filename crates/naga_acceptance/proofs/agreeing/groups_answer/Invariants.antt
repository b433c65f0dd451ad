use Rattle.std.proofs.Common.{◌≡◌, None}
use Rattle.module_semantics.specs.acceptance.AgreeingOperators.{groups_of}
use Rattle.naga_acceptance.specs.Uses.{first_answer, group_uses, operation}
use Rattle.naga_acceptance.proofs.agreeing.groups_answer.Given as goal

abbrev pub invariant-loop-position : goal.invariant-loop-position
invariant-loop-position l =
    first_answer (group_uses l.module.types (groups_of l.module l.info) l.position)
    (operation l.module.types l.used) ≡ None
