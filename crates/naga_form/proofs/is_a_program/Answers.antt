use Rattle.naga_form.proofs.Programs.{is_program_under}
use Rattle.naga_form.proofs.is_a_program.Goals as goal

pub returns : goal.returns
returns c = is_program_under
