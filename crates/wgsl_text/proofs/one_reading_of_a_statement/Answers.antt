use Rattle.wgsl_text.proofs.Reading.{statement_has_one_reading, statement_unique}
use Rattle.wgsl_text.proofs.one_reading_of_a_statement.Goals as goal

pub returns-clause-printed : goal.returns-clause-printed
returns-clause-printed c = statement_has_one_reading

pub returns-clause-unique : goal.returns-clause-unique
returns-clause-unique c = statement_unique
