use Rattle.shader_runs.proofs.ScopeRules.{scope_check_is_the_rules}
use Rattle.shader_runs.proofs.scope_check_is_the_rules.Goals as goal

pub returns : goal.returns
returns c = scope_check_is_the_rules
