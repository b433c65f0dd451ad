use Rattle.naga_form.proofs.statements.OneFunction.{numbered_runs_at}
use Rattle.naga_form.proofs.Runs.{runs_as_under}
use Rattle.naga_form.proofs.runs_as_the_module.Goals as goal

pub returns-clause-whole : goal.returns-clause-whole
returns-clause-whole c = runs_as_under

pub returns-clause-one : goal.returns-clause-one
returns-clause-one c = numbered_runs_at
