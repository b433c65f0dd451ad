use Rattle.std.proofs.Common.{◌≡◌, true}
use Rattle.module_semantics.specs.acceptance.AgreeingOperators.{groups_of}
use Rattle.module_semantics.specs.acceptance.Operations.{all_agree}
use Rattle.naga_acceptance.specs.Uses.{Remembers, earlier_uses, group_of, share_uses}
use Rattle.naga_acceptance.proofs.agreeing.first_disagreeing.Given as goal

abbrev pub invariant-loop-index : goal.invariant-loop-index
invariant-loop-index l = record {
  agree : all_agree (share_uses l.share
      (earlier_uses l.module.types (groups_of l.module l.info) l.number (group_of l.group) l.index)) ≡ true;
  remembered : Remembers l.module.types (groups_of l.module l.info) (share_uses l.share
      (earlier_uses l.module.types (groups_of l.module l.info) l.number (group_of l.group) l.index))
      l.slots l.table;
}
