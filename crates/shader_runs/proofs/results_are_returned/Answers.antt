use Rattle.shader_runs.proofs.Results.{results_are_returned}
use Rattle.shader_runs.proofs.results_are_returned.Goals as goal

pub returns : goal.returns
returns c = results_are_returned
