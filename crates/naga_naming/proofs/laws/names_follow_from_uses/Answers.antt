use Rattle.naga_naming.specs.Naming.{name_of}
use Rattle.naga_naming.proofs.Assigned.{assigned_follow, follow_assigned, next_is_new}
use Rattle.naga_naming.proofs.laws.names_follow_from_uses.Goals as goal

pub returns-clause-assigned : goal.returns-clause-assigned
returns-clause-assigned c = λ names labels has word. (
  assigned_follow names labels has word,
  follow_assigned names labels has word,
)

pub returns-clause-new : goal.returns-clause-new
returns-clause-new c = λ names labels has label was. next_is_new names labels has label
    (assigned_follow names labels has (name_of names label) was)
