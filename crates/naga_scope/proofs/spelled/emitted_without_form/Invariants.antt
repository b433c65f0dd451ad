use Rattle.std.proofs.Common.{◌≡◌, ◌-◌}
use Rattle.std.specs.List.{filter, find}
use Rattle.naga_scope.specs.KnownFunctions.{bound_in}
use Rattle.naga_scope.specs.SpelledTypes.{is_unsupported_let}
use Rattle.shader_runs.specs.Program.{from}
use Rattle.naga_scope.proofs.spelled.emitted_without_form.Given as goal

abbrev pub invariant-loop-index : goal.invariant-loop-index
invariant-loop-index l =
    find (is_unsupported_let l.known.whole.shader.now l.known.info.now)
    (filter (bound_in l.known) (from l.index (l.fn.range.end - l.index)))
    ≡ find (is_unsupported_let l.known.whole.shader.now l.known.info.now)
    (filter (bound_in l.known) (from l.fn.range.first (l.fn.range.end - l.fn.range.first)))
