use Rattle.naga_form.proofs.statements.ScopeRules.{scopes_are_checked}
use Rattle.naga_form.proofs.scopes_are_checked.Goals as goal

pub returns : goal.returns
returns c = λ m info accepted. scopes_are_checked m info accepted
