-- whether all stand after their parents is whether those to come do
use Rattle.std.proofs.Common.{◌≡◌}
use Rattle.std.specs.List.{enumerate_from, list_all}
use Rattle.naga_json.specs.Diagnostics.{follows}
use Rattle.naga_json.proofs.diagnostics.expect_parents.Given as goal

abbrev pub invariant-loop-handle : goal.invariant-loop-handle
invariant-loop-handle l =
    list_all (λ p. follows p.0 p.1.parent) l.handle-iterator
    ≡ list_all (λ p. follows p.0 p.1.parent) (enumerate_from 0 l.filters)
