use Rattle.naga_form.proofs.FreeModules.{has_world}
use Rattle.naga_form.proofs.names.DistinguishedItems.{types_are_distinguished}
use Rattle.naga_form.proofs.has_a_typed_world.Goals as goal

pub returns : goal.returns
returns c = λ m info accepted scopes. has_world m info accepted (types_are_distinguished m) scopes
