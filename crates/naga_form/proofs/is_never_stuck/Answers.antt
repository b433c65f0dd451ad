use Rattle.naga_form.proofs.FreeModules as every
use Rattle.naga_form.proofs.Meanings.{never_stuck}
use Rattle.naga_form.proofs.names.DistinguishedItems.{types_are_distinguished}
use Rattle.naga_form.proofs.is_never_stuck.Goals as goal

pub returns-clause-written : goal.returns-clause-written
returns-clause-written c = λ m info flags named are accepted declarations have scopes.
    never_stuck m info flags accepted declarations have scopes named are

pub returns-clause-every : goal.returns-clause-every
returns-clause-every c = λ m info accepted scopes.
    every.never_stuck m info accepted (types_are_distinguished m) scopes
