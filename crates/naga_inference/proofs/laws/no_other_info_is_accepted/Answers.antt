use Rattle.naga_inference.proofs.Refusals.{none_accepted}
use Rattle.naga_inference.proofs.laws.no_other_info_is_accepted.Goals as goal

pub returns : goal.returns
returns c = none_accepted
