use Rattle.std.proofs.Common.{◌-◌}
use Rattle.naga_acceptance.proofs.agreeing.+first_disagreement.Given as goal

abbrev pub decreases-first_disagreement : goal.decreases-first_disagreement
decreases-first_disagreement l = l.share.last - l.share.first
