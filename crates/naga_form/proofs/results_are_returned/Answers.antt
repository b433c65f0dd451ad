use Rattle.naga_form.proofs.FreeModules.{gives_results}
use Rattle.naga_form.proofs.names.DistinguishedItems.{types_are_distinguished}
use Rattle.naga_form.proofs.results_are_returned.Goals as goal

pub returns : goal.returns
returns c = λ m info accepted. gives_results m info accepted (types_are_distinguished m)
