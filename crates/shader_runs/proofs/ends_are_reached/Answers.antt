use Rattle.shader_runs.proofs.Ends.{ends_are_reached}
use Rattle.shader_runs.proofs.ends_are_reached.Goals as goal

pub returns : goal.returns
returns c = ends_are_reached
