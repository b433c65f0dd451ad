use Rattle.shader_runs.proofs.Progress.{runs_are_not_stuck}
use Rattle.shader_runs.proofs.runs_are_not_stuck.Goals as goal

pub returns : goal.returns
returns c = runs_are_not_stuck
