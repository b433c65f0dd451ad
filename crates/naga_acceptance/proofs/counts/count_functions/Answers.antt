use Rattle.std.proofs.Common.{◌≡◌, ◌≤◌, ap, ◌∙◌, arith, length, slice_get, Some}
use Rattle.std.proofs.lemmas.List.{set-get_or}
use Rattle.naga_acceptance.specs.Counts.{with_counts, all_with_counts}
use Rattle.naga_acceptance.proofs.Counting.{length-all_with_counts, get_or-all_with_counts}
use Rattle.naga_acceptance.proofs.Counting.{get_or-all_with_counts_past}
use Rattle.naga_acceptance.proofs.Writing.{IsFilled-start, IsFilled-more, IsFilled-kept}
use Rattle.naga_acceptance.proofs.Writing.{IsFilled-read}
use Rattle.naga_acceptance.proofs.counts.count_functions.Goals as goal
use Rattle.naga_acceptance.proofs.counts.count_functions.Goals.{then-index-len, else-index-len}

pub loop-index-init : goal.loop-index-init
loop-index-init c = IsFilled-start (all_with_counts c.args.functions.now c.args.infos.now) c.args.infos.now
    (length-all_with_counts c.args.functions.now c.args.infos.now)

pub loop-index-preserved : goal.loop-index-preserved
loop-index-preserved c =
    elim c.if-index-len.branch [
      | then-index-len w ↦
          let here : slice_get c.args.functions.now c.loop-index.index ≡ Some w.index.result.now =
          rw (← w.from_index.ensures) w.index.ensures
          in rw w.infos-is
          (IsFilled-more (all_with_counts c.args.functions.now c.args.infos.now)
          c.args.infos.now c.loop-index.infos c.loop-index.index _ c.loop-index-test.true
          c.loop-index.invariant
          (w.count_function.ensures
          ∙ ap (λ es. with_counts w.index.result.now es)
          (IsFilled-read (all_with_counts c.args.functions.now c.args.infos.now)
          c.args.infos.now c.loop-index.infos c.loop-index.index c.index-infos-index.result
          c.loop-index.invariant)
          ∙ get_or-all_with_counts c.args.functions.now c.args.infos.now c.loop-index.index w.index.result.now
          c.index-infos-index.result _ here c.loop-index-test.true))
      | else-index-len w ↦
          let past : length c.args.functions.now ≤ c.loop-index.index =
          omega (arith, w.if-index-len.false, c.len.ensures)
          in rw (w.infos-is, set-get_or)
          (IsFilled-kept (all_with_counts c.args.functions.now c.args.infos.now)
          c.args.infos.now c.loop-index.infos c.loop-index.index c.index-infos-index.result
          c.loop-index-test.true c.loop-index.invariant
          (get_or-all_with_counts_past c.args.functions.now c.args.infos.now c.loop-index.index
          c.index-infos-index.result past))
    ]
