use Rattle.std.proofs.Common.{◌-◌, ◌≡◌, ◌≤◌, length}
use Rattle.naga_scope.specs.Log.{forget_from}
use Rattle.naga_scope.proofs.points.Scope.forget_from.Given as goal

abbrev pub invariant-loop-left : goal.invariant-loop-left
invariant-loop-left l = record {
  so_far : l.self ≡ forget_from l.left l.initial.self;
  above : l.mark ≤ l.left;
  below : l.left ≤ length l.initial.self.log;
}

abbrev pub decreases-loop-left : goal.decreases-loop-left
decreases-loop-left l = l.left - l.mark
