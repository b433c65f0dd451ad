use Rattle.shader_runs.proofs.Resolution.{function_resolves_as_meant, resolves_as_meant}
use Rattle.shader_runs.proofs.resolves_as_meant.Goals as goal

pub returns-clause-whole : goal.returns-clause-whole
returns-clause-whole c = resolves_as_meant

pub returns-clause-one : goal.returns-clause-one
returns-clause-one c = function_resolves_as_meant
