use Rattle.naga_naming.proofs.NameShapes.{name_after_no_naga}
use Rattle.naga_naming.proofs.laws.names_keep_off_prefixes.Goals as goal

pub returns : goal.returns
returns c = name_after_no_naga
