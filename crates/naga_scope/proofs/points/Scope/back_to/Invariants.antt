use Rattle.std.proofs.Common.{◌-◌, ◌≡◌, ◌≤◌, length}
use Rattle.naga_scope.specs.Log.{back_to}
use Rattle.naga_scope.proofs.points.Scope.back_to.Given as goal

abbrev pub invariant-loop-self : goal.invariant-loop-self
invariant-loop-self l = record {
  leads : back_to l.mark l.self ≡ back_to l.mark l.initial.self;
  above : l.mark ≤ length l.self.log;
}

abbrev pub decreases-loop-self : goal.decreases-loop-self
decreases-loop-self l = length l.self.log - l.mark
