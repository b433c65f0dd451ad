use Rattle.naga_acceptance.specs.Counts.{all_with_counts}
use Rattle.naga_acceptance.proofs.Writing.{IsFilled}
use Rattle.naga_acceptance.proofs.counts.count_functions.Given as goal

abbrev pub invariant-loop-index : goal.invariant-loop-index
invariant-loop-index l = IsFilled (all_with_counts l.functions l.initial.infos) l.initial.infos l.infos l.index
