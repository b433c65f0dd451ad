use Rattle.naga_form.proofs.operators.OperatorEvents.{asks_as_distinguished}
use Rattle.naga_form.proofs.tells_requests_apart.Goals as goal

pub returns : goal.returns
returns c = asks_as_distinguished
