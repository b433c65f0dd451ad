use Rattle.std.proofs.Common.{◌≡◌}
use Rattle.std.specs.List.{enumerate_from}
use Rattle.naga_acceptance.specs.Searching.{first_unfit}
use Rattle.module_semantics.specs.acceptance.Ranges.{constant_in_range}
use Rattle.naga_acceptance.proofs.ranges.first_constant_out_of_range.Given as goal

abbrev pub invariant-loop-handle : goal.invariant-loop-handle
invariant-loop-handle l =
    first_unfit (λ _. constant_in_range l.types l.expressions) (l.handle-iterator)
    ≡ first_unfit (λ _. constant_in_range l.types l.expressions) (enumerate_from 0 l.constants)
