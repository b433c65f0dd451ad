use Rattle.naga_wgsl_out.proofs.FirstRefusals.{refuses}
use Rattle.naga_wgsl_out.proofs.laws.refusals_refuse.Goals as goal

pub returns : goal.returns
returns c = λ explicit m info one. refuses explicit m info one.position one.construct
