use Rattle.std.proofs.Common.{◌≡◌, ◌+◌, ◌-◌, ◌≤◌, length}
use Rattle.naga_scope.specs.KnownFunctions.{IsPointOf, handles_at, naming_of, shape_of}
use Rattle.naga_scope.specs.Log.{Extends}
use Rattle.shader_runs.specs.Program.{from}
use Rattle.shader_runs.specs.Scope.{after_emit, named_after_all}
use Rattle.naga_scope.specs.ScopeChecks.{check_emit}
use Rattle.naga_scope.proofs.check.check_emit.Given as goal

abbrev pub invariant-loop-index : goal.invariant-loop-index
invariant-loop-index l = record {
  check : check_emit (naming_of l.known) l.scope.named l.number (from l.index (l.fn.range.end - l.index))
      (handles_at l.scope)
      ≡ check_emit (naming_of l.known) l.initial.scope.named l.number
      (from l.fn.range.first (l.fn.range.end - l.fn.range.first)) (handles_at l.initial.scope);
  following : after_emit (naming_of l.known) l.scope.named (from l.index (l.fn.range.end - l.index))
      (handles_at l.scope)
      ≡ after_emit (naming_of l.known) l.initial.scope.named
      (from l.fn.range.first (l.fn.range.end - l.fn.range.first)) (handles_at l.initial.scope);
  named : named_after_all (shape_of l.known) (from l.index (l.fn.range.end - l.index)) l.scope.named
      ≡ named_after_all (shape_of l.known)
      (from l.fn.range.first (l.fn.range.end - l.fn.range.first)) l.initial.scope.named;
  at : IsPointOf l.known l.scope;
  kept : Extends l.initial.scope l.scope;
  counted : length l.scope.log + (l.fn.range.end - l.index) ≤ length l.initial.scope.log
      + (l.fn.range.end - l.fn.range.first);
  names : l.scope.named + (l.fn.range.end - l.index) ≤ l.initial.scope.named + (l.fn.range.end - l.fn.range.first);
}
