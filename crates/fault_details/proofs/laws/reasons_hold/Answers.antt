use Rattle.fault_details.proofs.Holding.{fault_holds}
use Rattle.fault_details.proofs.laws.reasons_hold.Goals as goal

pub returns : goal.returns
returns c = fault_holds
