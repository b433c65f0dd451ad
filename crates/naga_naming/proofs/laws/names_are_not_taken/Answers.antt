use Rattle.naga_naming.proofs.NameShapes.{name_after_no_keyword, name_after_no_builtin}
use Rattle.naga_naming.proofs.NameShapes.{name_after_no_caseless}
use Rattle.naga_naming.proofs.laws.names_are_not_taken.Goals as goal

pub returns-clause-keywords : goal.returns-clause-keywords
returns-clause-keywords c = name_after_no_keyword

pub returns-clause-builtins : goal.returns-clause-builtins
returns-clause-builtins c = name_after_no_builtin

pub returns-clause-caseless : goal.returns-clause-caseless
returns-clause-caseless c = name_after_no_caseless
