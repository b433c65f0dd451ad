use Rattle.fault_details.proofs.NameReasons.{has_reason}
use Rattle.fault_details.proofs.laws.name_faults_have_reasons.Goals as goal

pub returns : goal.returns
returns c = has_reason
