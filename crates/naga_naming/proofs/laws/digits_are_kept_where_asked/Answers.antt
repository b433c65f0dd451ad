use Rattle.naga_naming.proofs.NameShapes.{first_keeps}
use Rattle.naga_naming.proofs.laws.digits_are_kept_where_asked.Goals as goal

pub returns-clause-asked : goal.returns-clause-asked
returns-clause-asked c = first_keeps
