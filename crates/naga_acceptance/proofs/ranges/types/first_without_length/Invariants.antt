use Rattle.std.proofs.Common.{◌≡◌}
use Rattle.std.specs.List.{enumerate_from}
use Rattle.naga_acceptance.specs.Searching.{first_unfit}
use Rattle.module_semantics.specs.acceptance.Ranges.{numbers_in_range}
use Rattle.naga_acceptance.proofs.ranges.types.first_without_length.Given as goal

abbrev pub invariant-loop-handle : goal.invariant-loop-handle
invariant-loop-handle l =
    first_unfit (λ _ t. numbers_in_range l.overrides t.inner) (l.handle-iterator)
    ≡ first_unfit (λ _ t. numbers_in_range l.overrides t.inner) (enumerate_from 0 l.types)
