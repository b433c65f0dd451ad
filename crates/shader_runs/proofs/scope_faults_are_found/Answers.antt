use Rattle.shader_runs.proofs.ScopeFaults.{scope_faults_are_found}
use Rattle.shader_runs.proofs.scope_faults_are_found.Goals as goal

pub returns : goal.returns
returns c = scope_faults_are_found
