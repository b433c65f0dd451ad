use Rattle.shader_runs.proofs.StatementRows.{statement_rows_hold}
use Rattle.shader_runs.proofs.statement_rows_hold.Goals as goal

pub returns : goal.returns
returns c = statement_rows_hold
