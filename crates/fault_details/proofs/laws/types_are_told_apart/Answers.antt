use Rattle.fault_details.proofs.Apart.{told_apart}
use Rattle.fault_details.proofs.laws.types_are_told_apart.Goals as goal

pub returns : goal.returns
returns c = told_apart
