use Rattle.std.proofs.Common.{sym, ap, ◌∙◌, ◌&&◌, [], unwrap_or}
use Rattle.std.specs.Str.{bytes_eq}
use Rattle.naga_acceptance.specs.Views.{over_key}
use Rattle.naga_acceptance.proofs.Views.{both_go_on, over_goes_on}
use Rattle.naga_acceptance.proofs.alike.is_over_same.Goals as goal

pub returns-then-not-is_same_level : goal.returns-then-not-is_same_level
returns-then-not-is_same_level c =
    let types = c.args.types.now in
    sym (sym c.loop-x.invariant.2
    ∙ (both_go_on types _ _ c.in-Some.x c.in-Some-next.y c.in-Some.ensures.rank c.in-Some.ensures.form
    c.in-Some-next.ensures.rank c.in-Some-next.ensures.form
    c.loop-x.invariant.0 c.loop-x.invariant.1
    ∙ ap (λ same. same && bytes_eq (unwrap_or (over_key types c.in-Some.x.over) [])
    (unwrap_or (over_key types c.in-Some-next.y.over) []))
    (sym c.is_same_level.ensures ∙ c.if-not-is_same_level.true)))

pub loop-x-preserved : goal.loop-x-preserved
loop-x-preserved c =
    let types = c.args.types.now in (
      over_goes_on types _ c.in-Some.x c.in-Some.ensures.rank c.in-Some.ensures.form c.loop-x.invariant.0,
      over_goes_on types _ c.in-Some-next.y c.in-Some-next.ensures.rank
          c.in-Some-next.ensures.form c.loop-x.invariant.1,
      sym (both_go_on types _ _ c.in-Some.x c.in-Some-next.y c.in-Some.ensures.rank c.in-Some.ensures.form
          c.in-Some-next.ensures.rank c.in-Some-next.ensures.form
          c.loop-x.invariant.0 c.loop-x.invariant.1
          ∙ ap (λ same. same && bytes_eq (unwrap_or (over_key types c.in-Some.x.over) [])
          (unwrap_or (over_key types c.in-Some-next.y.over) []))
          (sym c.is_same_level.ensures ∙ c.if-not-is_same_level.false))
          ∙ c.loop-x.invariant.2,
    )
