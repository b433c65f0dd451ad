use Rattle.std.proofs.Common.{◌≡◌}
use Rattle.module_semantics.specs.LackingScalars.{handle_lacks, lacks_within}
use Rattle.naga_tables.proofs.lacking.handle_lacks.Given as goal

abbrev pub invariant-loop-levels : goal.invariant-loop-levels
invariant-loop-levels l = lacks_within l.levels l.types l.at ≡ handle_lacks l.types l.fn.handle

abbrev pub decreases-loop-levels : goal.decreases-loop-levels
decreases-loop-levels l = l.levels
