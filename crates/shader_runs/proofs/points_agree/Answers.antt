use Rattle.shader_runs.proofs.Points.{points_agree}
use Rattle.shader_runs.proofs.points_agree.Goals as goal

pub returns : goal.returns
returns c = points_agree
