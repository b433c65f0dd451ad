use Rattle.module_limits.specs.Depths.{deepest}
use Rattle.module_limits.specs.Nesting.{type_parts}
use Rattle.std.proofs.Common.{◌∙◌, ap}
use Rattle.module_limits.proofs.Tables.{begins, begins_within, goes_on, goes_on_within, stops}
use Rattle.module_limits.proofs.depths.types_are_within.Goals as goal

pub loop-ty-init : goal.loop-ty-init
loop-ty-init c = record {
  left = begins (λ t. type_parts t.inner) _ _ _ c.in_ok-depths.ensures.items
      (c.into_iter-ty-iterator.ensures.into_iter_gives ∙ c.iter-ty-items.ensures);
  within = begins_within _ _ c.in_ok-depths.ensures.items;
}

pub loop-ty-preserved : goal.loop-ty-preserved
loop-ty-preserved c = record {
  left = goes_on (λ t. type_parts t.inner) _ _ _ _ _ _ _ _ c.in_ok-push.ensures.items
      (c.deepest_type_part-deepest.ensures ∙ ap (λ ds. deepest ds (type_parts c.in-Some.ty.now.inner))
      c.deref.ensures.value) c.in-Some.ensures.steps c.loop-ty.invariant.left;
  within = goes_on_within _ _ _ _ c.in_ok-push.ensures.items c.if-deepest-levels.false c.loop-ty.invariant.within;
}

pub returns-then-deepest-levels : goal.returns-then-deepest-levels
returns-then-deepest-levels c =
    stops (λ t. type_parts t.inner) _ _ _ _ _ _ _ _
    (c.deepest_type_part-deepest.ensures ∙ ap (λ ds. deepest ds (type_parts c.in-Some.ty.now.inner))
    c.deref.ensures.value) c.in-Some.ensures.steps c.loop-ty.invariant.left c.if-deepest-levels.true
