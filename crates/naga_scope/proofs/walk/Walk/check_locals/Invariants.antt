use Rattle.std.proofs.Common.{◌≡◌}
use Rattle.naga_scope.proofs.Walking.{listed_lack}
use Rattle.naga_scope.specs.FirstLack.{locals_lack}
use Rattle.naga_scope.specs.Walked.{walked}
use Rattle.naga_scope.proofs.walk.Walk.check_locals.Given as goal

abbrev pub invariant-loop-handle : goal.invariant-loop-handle
invariant-loop-handle l =
    listed_lack (walked l.self) l.handle-iterator
    ≡ locals_lack (walked l.self) 0 l.self.known.function.now.local_variables
