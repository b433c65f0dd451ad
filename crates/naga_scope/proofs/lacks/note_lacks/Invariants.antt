use Rattle.naga_scope.proofs.Lowest.{LacksBelow}
use Rattle.naga_scope.specs.KnownFunctions.{expressions_of, has_form_in}
use Rattle.naga_scope.proofs.lacks.note_lacks.Given as goal

abbrev pub invariant-loop-index : goal.invariant-loop-index
invariant-loop-index l = LacksBelow (has_form_in l.known) (expressions_of l.known) l.lacks l.index
