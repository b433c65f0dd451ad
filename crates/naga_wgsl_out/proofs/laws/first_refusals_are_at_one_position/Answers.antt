use Rattle.naga_wgsl_out.proofs.FirstRefusals.{one_position}
use Rattle.naga_wgsl_out.proofs.laws.first_refusals_are_at_one_position.Goals as goal

pub returns : goal.returns
returns c =
    λ explicit m info one other stands first stood second.
    one_position explicit m info one.position other.position one.construct other.construct stands first
    stood second
