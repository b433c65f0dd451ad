use Rattle.naga_naming.proofs.NameShapes.{name_after_no_digits}
use Rattle.naga_naming.proofs.laws.names_are_not_numbered.Goals as goal

pub returns : goal.returns
returns c = name_after_no_digits
