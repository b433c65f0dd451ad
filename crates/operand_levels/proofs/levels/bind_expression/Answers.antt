use Rattle.std.proofs.Common.{sym, subst, ◌∙◌}
use Rattle.operand_levels.specs.Raised.{AreRaised}
use Rattle.operand_levels.proofs.Raising.{are_raised_still, with_raised_are}
use Rattle.operand_levels.proofs.levels.bind_expression.Goals as goal
use Rattle.operand_levels.proofs.levels.bind_expression.Goals.{then-is_deep, else-is_deep}

pub returns-then-is_bound-clause-raised : goal.returns-then-is_bound-clause-raised
returns-then-is_bound-clause-raised c =
    elim c.if-is_deep.branch [
      | then-is_deep w ↦
          subst (AreRaised c.args.infos.now) (sym (w.infos-is ∙ w.raise_uses.ensures))
          (with_raised_are c.args.infos.now c.args.handle)
      | else-is_deep w ↦ subst (AreRaised c.args.infos.now) (sym w.infos-is) (are_raised_still c.args.infos.now)
    ]

pub returns-else-is_bound-clause-raised : goal.returns-else-is_bound-clause-raised
returns-else-is_bound-clause-raised c =
    elim c.if-is_deep.branch [
      | then-is_deep w ↦
          subst (AreRaised c.args.infos.now) (sym (w.infos-is ∙ w.raise_uses.ensures))
          (with_raised_are c.args.infos.now c.args.handle)
      | else-is_deep w ↦ subst (AreRaised c.args.infos.now) (sym w.infos-is) (are_raised_still c.args.infos.now)
    ]
