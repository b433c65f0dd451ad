use Rattle.std.proofs.Common.{arith, refl, sym, ap, ◌∙◌}
use Rattle.naga_scope.specs.Availabilities.{TextPoint}
use Rattle.naga_scope.proofs.Logs.{back_done, back_named, back_log, back_more, restored}
use Rattle.naga_scope.proofs.points.Scope.back_to.Goals as goal

pub loop-self-smaller : goal.loop-self-smaller
loop-self-smaller c = omega (arith, back_log _ _ _ c.undo_last.ensures)

pub loop-self-preserved : goal.loop-self-preserved
loop-self-preserved c = record {
  leads = back_more c.args.mark c.args.self.now c.loop-self.self c.undo_last.new.self
      c.loop-self.invariant.leads (omega arith) c.undo_last.ensures;
  above = omega (arith, back_log _ _ _ c.undo_last.ensures);
}

pub returns-clause-named : goal.returns-clause-named
returns-clause-named c =
    sym (back_named c.args.mark c.loop-self.self _ refl)
    ∙ ap (λ (s : TextPoint). s.named) c.loop-self.invariant.leads ∙ back_named c.args.mark c.args.self.now _ refl

pub returns-clause-restores : goal.returns-clause-restores
returns-clause-restores c before at reverts =
    restored _ _ _ _ (back_done c.args.mark c.loop-self.self (omega arith) ∙ c.loop-self.invariant.leads) at reverts
