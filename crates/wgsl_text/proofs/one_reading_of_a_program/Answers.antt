use Rattle.wgsl_text.proofs.Reading.{program_has_one_reading, program_unique}
use Rattle.wgsl_text.proofs.one_reading_of_a_program.Goals as goal

pub returns-clause-printed : goal.returns-clause-printed
returns-clause-printed c = program_has_one_reading

pub returns-clause-unique : goal.returns-clause-unique
returns-clause-unique c = program_unique
