use Rattle.fault_details.proofs.UsesBefore.{uses_before}
use Rattle.fault_details.proofs.laws.other_uses_stand_before.Goals as goal

pub returns : goal.returns
returns c = uses_before
