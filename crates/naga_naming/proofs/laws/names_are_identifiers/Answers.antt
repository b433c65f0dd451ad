use Rattle.naga_naming.proofs.NameShapes.{name_after_is_identifier}
use Rattle.naga_naming.proofs.laws.names_are_identifiers.Goals as goal

pub returns : goal.returns
returns c = name_after_is_identifier
