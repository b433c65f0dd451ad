use Rattle.std.proofs.Common.{ap, sym, subst, ◌≡◌, ◌∙◌, length, slice_set}
use Rattle.std.proofs.lemmas.Result.{on_ok_weaker}
use Rattle.operand_levels.specs.Levels.{bound_where_deep, with_bound}
use Rattle.operand_levels.specs.Raised.{AllRaised, AreRaised}
use Rattle.operand_levels.proofs.Raising.{set_raised, taken_back, with_bound_set}
use Rattle.operand_levels.proofs.levels.bind_at.Goals as goal

pub returns-then-index-infos-clause-raised : goal.returns-then-index-infos-clause-raised
returns-then-index-infos-clause-raised c =
    let old = c.as_mut_slice.ensures.value ∙ c.info.view_is in
    let count = c.info.inside.expressions.ok.0 ∙ ap length (sym c.as_mut_slice.ensures.value) in
    let raised = c.bind_in_function.ensures.raised in
    subst (λ ks. AllRaised c.args.infos.now (slice_set c.args.infos.now c.args.index ks))
    (sym (taken_back c.as_mut_slice.result.now c.bind_in_function.new.infos _ _ count raised))
    (set_raised c.args.infos.now c.args.index c.bind_in_function.new.infos c.index-infos-index.result
    c.if-index-infos.true (subst (λ ks. AreRaised ks c.bind_in_function.new.infos) old raised))

pub returns-then-index-infos-clause-bound : goal.returns-then-index-infos-clause-bound
returns-then-index-infos-clause-bound c =
    let old = c.as_mut_slice.ensures.value ∙ c.info.view_is in
    let count = c.info.inside.expressions.ok.0 ∙ ap length (sym c.as_mut_slice.ensures.value) in
    on_ok_weaker c.bind_in_function.result
    (λ bound. ap (slice_set c.args.infos.now c.args.index)
    (taken_back c.as_mut_slice.result.now c.bind_in_function.new.infos _ _ count c.bind_in_function.ensures.raised)
    ∙ with_bound_set c.args.infos.now c.args.index c.args.function.now c.bind_in_function.new.infos
    c.index-infos-index.result
    (bound ∙ ap (bound_where_deep c.args.function.now) old) c.if-index-infos.true)
    c.bind_in_function.ensures.bound
