use Rattle.shader_runs.proofs.VariableRows.{variable_rows_hold}
use Rattle.shader_runs.proofs.variable_rows_hold.Goals as goal

pub returns : goal.returns
returns c = variable_rows_hold
