use Rattle.naga_acceptance.specs.Counts.{all_with_counts, functions_of}
use Rattle.naga_acceptance.proofs.Writing.{IsFilled}
use Rattle.naga_acceptance.proofs.counts.count_entry_points.Given as goal

abbrev pub invariant-loop-index : goal.invariant-loop-index
invariant-loop-index l = IsFilled (all_with_counts (functions_of l.entry_points) l.initial.infos)
    l.initial.infos l.infos l.index
