use Rattle.naga_form.proofs.types.TypeIdentity.{alike_distinguished, unspelled_apart}
use Rattle.naga_form.proofs.names.DistinguishedItems.{types_are_distinguished}
use Rattle.naga_form.proofs.tells_types_apart.Goals as goal

pub returns-clause-alike : goal.returns-clause-alike
returns-clause-alike c = λ m info accepted. alike_distinguished m info accepted
    (types_are_distinguished m)

pub returns-clause-unspelled : goal.returns-clause-unspelled
returns-clause-unspelled c = unspelled_apart
