use Rattle.wgsl_text.proofs.Examples.{worked_programs}
use Rattle.wgsl_text.proofs.LargeExamples.{large_programs}
use Rattle.wgsl_text.proofs.worked_programs.Goals as goal

pub returns-clause-texts : goal.returns-clause-texts
returns-clause-texts c = worked_programs

pub returns-clause-large : goal.returns-clause-large
returns-clause-large c = large_programs
