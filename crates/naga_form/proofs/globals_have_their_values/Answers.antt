use Rattle.naga_form.proofs.declarations.GlobalValues.{has_value_of}
use Rattle.naga_form.proofs.globals_have_their_values.Goals as goal

pub returns : goal.returns
returns c = λ m info flags named accepted. has_value_of m info accepted flags named
