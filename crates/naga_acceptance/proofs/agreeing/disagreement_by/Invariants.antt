use Rattle.std.proofs.Common.{◌≡◌, ◌≤◌, ◌-◌, true, length}
use Rattle.module_semantics.specs.acceptance.AgreeingOperators.{groups_of}
use Rattle.module_semantics.specs.acceptance.Operations.{all_agree}
use Rattle.naga_acceptance.specs.Uses.{Remembers, group_uses, share_uses}
use Rattle.naga_acceptance.proofs.agreeing.disagreement_by.Given as goal

abbrev pub invariant-loop-group : goal.invariant-loop-group
invariant-loop-group l = record {
  agree : all_agree (share_uses l.share (group_uses l.module.types (groups_of l.module l.info) l.number)) ≡ true;
  remembered : Remembers l.module.types (groups_of l.module l.info)
      (share_uses l.share (group_uses l.module.types (groups_of l.module l.info) l.number)) l.slots l.table;
  within : l.number ≤ length (groups_of l.module l.info);
}

abbrev pub decreases-loop-group : goal.decreases-loop-group
decreases-loop-group l = length (groups_of l.module l.info) - l.number
