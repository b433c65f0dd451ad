use Rattle.decimal_semantics.proofs.DecimalFaithfully.{interface_of_both, runs_of_both}
use Rattle.decimal_semantics.proofs.laws.programs_are_faithful_to_both.Goals as goal

pub returns : goal.returns
returns c = record { interface = interface_of_both; runs = runs_of_both }
