use Rattle.naga_form.proofs.operators.Literals.{values_apart}
use Rattle.naga_form.proofs.tells_literals_apart.Goals as goal

pub returns : goal.returns
returns c = values_apart
