use Rattle.std.proofs.Common.{◌≡◌, ◌+◌, drop}
use Rattle.std.specs.Prelude.{sum_by}
use Rattle.naga_ir.specs.InOrder.{trees_of}
use Rattle.naga_scope.specs.InOrder.{own_changes}
use Rattle.naga_scope.proofs.changes.count_changes.Given as goal

abbrev pub invariant-loop-statement : goal.invariant-loop-statement
invariant-loop-statement l =
    l.count + sum_by own_changes (trees_of (drop l.statement-index l.statements))
    ≡ sum_by own_changes (trees_of l.statements)
