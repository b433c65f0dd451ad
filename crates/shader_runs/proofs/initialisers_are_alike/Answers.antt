use Rattle.shader_runs.proofs.OneRun.{initialisers_are_alike}
use Rattle.shader_runs.proofs.initialisers_are_alike.Goals as goal

pub returns : goal.returns
returns c = initialisers_are_alike
