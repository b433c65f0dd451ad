use Rattle.naga_acceptance.specs.Counts.{without_uses}
use Rattle.naga_acceptance.proofs.Writing.{IsFilled}
use Rattle.naga_acceptance.proofs.counts.clear_counts.Given as goal

abbrev pub invariant-loop-info : goal.invariant-loop-info
invariant-loop-info l = IsFilled (without_uses l.initial.infos) l.initial.infos l.infos l.info-index
