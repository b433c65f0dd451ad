use Rattle.naga_form.proofs.declarations.Interface.{has_interface_under}
use Rattle.naga_form.proofs.has_the_interface.Goals as goal

pub returns : goal.returns
returns c = has_interface_under
