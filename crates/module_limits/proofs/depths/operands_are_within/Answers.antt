use Rattle.module_limits.specs.Depths.{deepest}
use Rattle.naga_ir.specs.Operands.{expression_operands}
use Rattle.std.proofs.Common.{◌∙◌, ap}
use Rattle.module_limits.proofs.Tables.{begins, begins_within, goes_on, goes_on_within, stops}
use Rattle.module_limits.proofs.depths.operands_are_within.Goals as goal

pub loop-expression-init : goal.loop-expression-init
loop-expression-init c = record {
  left = begins expression_operands _ _ _ c.in_ok-depths.ensures.items
      (c.into_iter-expression-iterator.ensures.into_iter_gives ∙ c.iter-expression-items.ensures);
  within = begins_within _ _ c.in_ok-depths.ensures.items;
}

pub loop-expression-preserved : goal.loop-expression-preserved
loop-expression-preserved c = record {
  left = goes_on expression_operands _ _ _ _ _ _ _ _ c.in_ok-push.ensures.items
      (c.deepest_operand-deepest.ensures ∙ ap (λ ds. deepest ds (expression_operands c.in-Some.expression.now))
      c.deref.ensures.value) c.in-Some.ensures.steps c.loop-expression.invariant.left;
  within = goes_on_within _ _ _ _ c.in_ok-push.ensures.items
      c.if-deepest-levels.false c.loop-expression.invariant.within;
}

pub returns-then-deepest-levels : goal.returns-then-deepest-levels
returns-then-deepest-levels c =
    stops expression_operands _ _ _ _ _ _ _ _
    (c.deepest_operand-deepest.ensures
    ∙ ap (λ ds. deepest ds (expression_operands c.in-Some.expression.now)) c.deref.ensures.value)
    c.in-Some.ensures.steps c.loop-expression.invariant.left c.if-deepest-levels.true
