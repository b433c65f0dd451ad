use Rattle.wgsl_text.proofs.Reading.{function_has_one_reading, function_unique}
use Rattle.wgsl_text.proofs.one_reading_of_a_function.Goals as goal

pub returns-clause-printed : goal.returns-clause-printed
returns-clause-printed c = function_has_one_reading

pub returns-clause-unique : goal.returns-clause-unique
returns-clause-unique c = function_unique
