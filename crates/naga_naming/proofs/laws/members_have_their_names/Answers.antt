use Rattle.naga_naming.proofs.Members.{member_named, member_not_reserved, members_distinguished}
use Rattle.naga_naming.proofs.laws.members_have_their_names.Goals as goal

pub returns-clause-named : goal.returns-clause-named
returns-clause-named c = λ start before now m names has t ty found n member there. member_named start m t ty
    found n member there before now names has

pub returns-clause-distinguished : goal.returns-clause-distinguished
returns-clause-distinguished c =
    λ start before now m names has. members_distinguished start m before now names has

pub returns-clause-free : goal.returns-clause-free
returns-clause-free c = λ start before now m names has reserved t ty found n member there. member_not_reserved
    start m t ty found n member there before now names has reserved
