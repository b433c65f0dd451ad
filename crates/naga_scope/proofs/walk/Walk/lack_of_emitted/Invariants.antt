use Rattle.std.proofs.Common.{◌≡◌, ◌-◌}
use Rattle.std.specs.List.{filter}
use Rattle.naga_scope.specs.FirstLack.{lowest_in}
use Rattle.naga_scope.specs.KnownFunctions.{bound_in}
use Rattle.naga_scope.specs.Lacks.{lower, lowest_of}
use Rattle.naga_scope.specs.Walked.{walked}
use Rattle.shader_runs.specs.Program.{from}
use Rattle.naga_scope.proofs.walk.Walk.lack_of_emitted.Given as goal

abbrev pub invariant-loop-index : goal.invariant-loop-index
invariant-loop-index l =
    lower l.found (lowest_of (lowest_in (walked l.self))
    (filter (bound_in l.self.known) (from l.index (l.fn.range.end - l.index))))
    ≡ lowest_of (lowest_in (walked l.self))
    (filter (bound_in l.self.known) (from l.fn.range.first (l.fn.range.end - l.fn.range.first)))
