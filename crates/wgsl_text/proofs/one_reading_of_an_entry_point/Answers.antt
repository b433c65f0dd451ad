use Rattle.wgsl_text.proofs.Reading.{entry_point_has_one_reading, entry_point_unique}
use Rattle.wgsl_text.proofs.one_reading_of_an_entry_point.Goals as goal

pub returns-clause-printed : goal.returns-clause-printed
returns-clause-printed c = entry_point_has_one_reading

pub returns-clause-unique : goal.returns-clause-unique
returns-clause-unique c = entry_point_unique
