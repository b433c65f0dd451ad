use Rattle.shader_runs.proofs.NamedLets.{binds_as_meant, function_binds_as_meant}
use Rattle.shader_runs.proofs.binds_as_meant.Goals as goal

pub returns-clause-whole : goal.returns-clause-whole
returns-clause-whole c = binds_as_meant

pub returns-clause-one : goal.returns-clause-one
returns-clause-one c = function_binds_as_meant
