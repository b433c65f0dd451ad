use Rattle.shader_runs.proofs.Typing.{has_typed_meaning}
use Rattle.shader_runs.proofs.has_typed_meaning.Goals as goal

pub returns : goal.returns
returns c = has_typed_meaning
