use Rattle.shader_runs.proofs.ConstantRows.{constant_rows_hold}
use Rattle.shader_runs.proofs.constant_rows_hold.Goals as goal

pub returns : goal.returns
returns c = constant_rows_hold
