use Rattle.shader_runs.proofs.PlaceRows.{place_rows_hold}
use Rattle.shader_runs.proofs.place_rows_hold.Goals as goal

pub returns : goal.returns
returns c = place_rows_hold
