use Rattle.wgsl_text.proofs.Reading.{expression_has_one_reading, expression_unique}
use Rattle.wgsl_text.proofs.one_reading_of_an_expression.Goals as goal

pub returns-clause-printed : goal.returns-clause-printed
returns-clause-printed c = expression_has_one_reading

pub returns-clause-unique : goal.returns-clause-unique
returns-clause-unique c = expression_unique
