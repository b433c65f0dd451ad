use Rattle.shader_runs.proofs.Constants.{constants_are_computed}
use Rattle.shader_runs.proofs.constants_are_computed.Goals as goal

pub returns : goal.returns
returns c = constants_are_computed
