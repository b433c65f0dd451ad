use Rattle.std.proofs.Common.{refl}
use Rattle.module_answers.proofs.Wants.{want}
use Rattle.module_answers.proofs.writing.write_ready.Goals as goal

-- nothing is written
pub returns-in-Err-clause-written : goal.returns-in-Err-clause-written
returns-in-Err-clause-written g c = want _ _ _ _ _ _ _ _ refl
