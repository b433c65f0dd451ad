use Rattle.naga_form.proofs.declarations.GlobalValues.{initialisers_have_values}
use Rattle.naga_form.proofs.initialisers_have_values.Goals as goal

pub returns : goal.returns
returns c = initialisers_have_values
