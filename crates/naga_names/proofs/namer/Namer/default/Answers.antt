use Rattle.naga_naming.proofs.Naming.{has_named_nothing}
use Rattle.naga_names.proofs.namer.Namer.default.Goals as goal

pub returns-clause-history : goal.returns-clause-history
returns-clause-history c = has_named_nothing _ c.new.ensures
