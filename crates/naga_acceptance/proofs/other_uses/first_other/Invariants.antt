use Rattle.std.proofs.Common.{◌≡◌, ◌≤◌, ◌-◌, length, None}
use Rattle.module_semantics.specs.acceptance.AgreeingOperators.{groups_of}
use Rattle.naga_acceptance.specs.FirstUses.{first_below, first_other_at}
use Rattle.naga_acceptance.specs.Uses.{operation}
use Rattle.naga_acceptance.proofs.other_uses.first_other.Given as goal

abbrev pub invariant-loop-group : goal.invariant-loop-group
invariant-loop-group l = record {
  none : first_below (first_other_at l.module.types l.here (groups_of l.module l.info)
      (operation l.module.types l.used)) l.number ≡ None;
  within : l.number ≤ length (groups_of l.module l.info);
}

abbrev pub decreases-loop-group : goal.decreases-loop-group
decreases-loop-group l = length (groups_of l.module l.info) - l.number
