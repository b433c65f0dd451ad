use Rattle.naga_naming.proofs.NamedItems.{named_at, distinguished_at}
use Rattle.naga_naming.proofs.laws.items_have_their_names.Goals as goal

pub returns-clause-named : goal.returns-clause-named
returns-clause-named c = λ start before now m names has. named_at start before m names now has

pub returns-clause-distinguished : goal.returns-clause-distinguished
returns-clause-distinguished c =
    λ start before now m names has. distinguished_at start before m names now has
