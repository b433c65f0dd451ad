use Rattle.std.proofs.Common.{◌≡◌, Some, ap, ◌∙◌}
use Rattle.std.specs.Prelude.{slice_get}
use Rattle.module_positions.specs.Roots.{first_value}
use Rattle.module_positions.proofs.Walking.{first_more}
use Rattle.module_positions.proofs.roots.first_values.Goals as goal

pub loop-index-preserved : goal.loop-index-preserved
loop-index-preserved c =
    let es = c.args.function.now.expressions in
    let i = c.loop-index.index in
    let e = c.index-expression.result.now in
    let here : slice_get es i ≡ Some e = rw (← c.from_index.ensures) c.index-expression.ensures in
    let is = c.first_value-value.ensures ∙ ap (λ vs. first_value vs e) c.deref.ensures.value in
    first_more es i e c.loop-index.values.items _ _ here is c.in_ok-push.ensures.items
    ∙ c.loop-index.invariant
