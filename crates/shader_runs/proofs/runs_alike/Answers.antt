use Rattle.shader_runs.proofs.OneRun.{one_runs_alike, runs_alike}
use Rattle.shader_runs.proofs.runs_alike.Goals as goal

pub returns-clause-whole : goal.returns-clause-whole
returns-clause-whole c = runs_alike

pub returns-clause-one : goal.returns-clause-one
returns-clause-one c = one_runs_alike
