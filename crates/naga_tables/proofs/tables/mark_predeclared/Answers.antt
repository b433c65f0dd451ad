use Rattle.std.proofs.Common.{[], ◌∷◌, ◌∙◌, subst, sym}
use Rattle.indexmap.specs.IndexMap.{values}
use Rattle.naga_tables.proofs.Marking.{MarkedSoFar, so_far_all, so_far_more, so_far_none}
use Rattle.naga_tables.proofs.tables.mark_predeclared.Goals as goal

pub loop-known-init : goal.loop-known-init
loop-known-init c =
    subst
    (λ hs. MarkedSoFar c.args.marks.now (values c.args.special_types.now.predeclared_types) hs
    c.args.marks.now)
    (sym (c.into_iter-known-iterator.ensures.into_iter_gives ∙ c.values-known-items.ensures.rest))
    (so_far_none c.args.marks.now _)

pub loop-known-preserved : goal.loop-known-preserved
loop-known-preserved c =
    so_far_more (c.in-Some.known.now ∷ []) c.next.new.self c.loop-known.invariant
    c.in-Some.ensures.steps c.mark.ensures

pub returns : goal.returns
returns c = so_far_all c.loop-known.invariant c.in-None.ensures.steps.0
