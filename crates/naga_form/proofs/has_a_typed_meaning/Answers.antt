use Rattle.naga_form.proofs.operators.ConsistentModules.{consistent, has_meaning}
use Rattle.naga_form.proofs.names.DistinguishedItems.{items_are_distinguished}
use Rattle.naga_form.proofs.has_a_typed_meaning.Goals as goal

pub returns-clause-consistent : goal.returns-clause-consistent
returns-clause-consistent c =
    λ m info accepted. consistent m info accepted (items_are_distinguished m)

pub returns-clause-meaning : goal.returns-clause-meaning
returns-clause-meaning c =
    λ m info accepted. has_meaning m info accepted (items_are_distinguished m)

pub returns-clause-distinguished : goal.returns-clause-distinguished
returns-clause-distinguished c = items_are_distinguished
