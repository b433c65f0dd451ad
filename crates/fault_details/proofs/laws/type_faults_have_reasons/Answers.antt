use Rattle.fault_details.proofs.Completing.{has_reason}
use Rattle.fault_details.proofs.laws.type_faults_have_reasons.Goals as goal

pub returns : goal.returns
returns c = has_reason
