use Rattle.naga_wgsl_fns.proofs.MeantFunctions.{functions_shown}
use Rattle.naga_wgsl_fns.proofs.items.answers_tell_of_those_before.Goals as goal

pub returns : goal.returns
returns c = functions_shown
