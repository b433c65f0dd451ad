use Rattle.shader_runs.proofs.Rows.{rows_hold}
use Rattle.shader_runs.proofs.rows_hold.Goals as goal

pub returns : goal.returns
returns c = rows_hold
