use Rattle.std.proofs.Common.{◌≡◌, ◌≤◌, ap, ◌∙◌, arith, length, slice_get, slice_index_or, Some}
use Rattle.std.proofs.lemmas.List.{set-get_or}
use Rattle.std.proofs.lemmas.Option.{slice_get-get_or}
use Rattle.naga_acceptance.specs.Counts.{with_counts, all_with_counts, functions_of}
use Rattle.naga_acceptance.proofs.Counting.{slice_get-functions_of, length-functions_of}
use Rattle.naga_acceptance.proofs.Counting.{length-all_with_counts, get_or-all_with_counts}
use Rattle.naga_acceptance.proofs.Counting.{get_or-all_with_counts_past}
use Rattle.naga_acceptance.proofs.Writing.{IsFilled-start, IsFilled-more, IsFilled-kept}
use Rattle.naga_acceptance.proofs.Writing.{IsFilled-read}
use Rattle.naga_acceptance.proofs.counts.count_entry_points.Goals as goal
use Rattle.naga_acceptance.proofs.counts.count_entry_points.Goals.{then-index-entry_points}
use Rattle.naga_acceptance.proofs.counts.count_entry_points.Goals.{else-index-entry_points}

pub loop-index-init : goal.loop-index-init
loop-index-init c =
    IsFilled-start (all_with_counts (functions_of c.args.entry_points.now) c.args.infos.now)
    c.args.infos.now
    (length-all_with_counts (functions_of c.args.entry_points.now) c.args.infos.now)

pub loop-index-preserved : goal.loop-index-preserved
loop-index-preserved c =
    elim c.if-index-entry_points.branch [
      | then-index-entry_points w ↦
          let here : slice_get (functions_of c.args.entry_points.now) c.loop-index.index
          ≡ Some (slice_index_or c.args.entry_points.now
          c.loop-index.index w.index-entry_points-index.result).function =
          slice_get-functions_of c.args.entry_points.now c.loop-index.index
          (slice_index_or c.args.entry_points.now c.loop-index.index
          w.index-entry_points-index.result)
          (slice_get-get_or c.args.entry_points.now c.loop-index.index
          w.index-entry_points-index.result w.if-index-entry_points.true)
          in rw w.infos-is
          (IsFilled-more
          (all_with_counts (functions_of c.args.entry_points.now) c.args.infos.now)
          c.args.infos.now c.loop-index.infos c.loop-index.index _ c.loop-index-test.true
          c.loop-index.invariant
          (w.count_function.ensures
          ∙ ap (λ es. with_counts
          (slice_index_or c.args.entry_points.now c.loop-index.index
          w.index-entry_points-index.result).function es)
          (IsFilled-read
          (all_with_counts (functions_of c.args.entry_points.now) c.args.infos.now)
          c.args.infos.now c.loop-index.infos c.loop-index.index c.index-infos-index.result
          c.loop-index.invariant)
          ∙ get_or-all_with_counts (functions_of c.args.entry_points.now) c.args.infos.now
          c.loop-index.index
          (slice_index_or c.args.entry_points.now c.loop-index.index
          w.index-entry_points-index.result).function c.index-infos-index.result _ here
          c.loop-index-test.true))
      | else-index-entry_points w ↦
          let past : length (functions_of c.args.entry_points.now) ≤ c.loop-index.index =
          omega (arith, length-functions_of c.args.entry_points.now, w.if-index-entry_points.false)
          in rw (w.infos-is, set-get_or)
          (IsFilled-kept
          (all_with_counts (functions_of c.args.entry_points.now) c.args.infos.now)
          c.args.infos.now c.loop-index.infos c.loop-index.index c.index-infos-index.result
          c.loop-index-test.true c.loop-index.invariant
          (get_or-all_with_counts_past (functions_of c.args.entry_points.now) c.args.infos.now
          c.loop-index.index c.index-infos-index.result past))
    ]
