use Rattle.shader_runs.proofs.OneWorld.{has_typed_world}
use Rattle.shader_runs.proofs.has_typed_world.Goals as goal

pub returns : goal.returns
returns c = has_typed_world
