use Rattle.wgsl_text.proofs.Reading.{type_has_one_reading, type_unique}
use Rattle.wgsl_text.proofs.one_reading_of_a_type.Goals as goal

pub returns-clause-printed : goal.returns-clause-printed
returns-clause-printed c = type_has_one_reading

pub returns-clause-unique : goal.returns-clause-unique
returns-clause-unique c = type_unique
