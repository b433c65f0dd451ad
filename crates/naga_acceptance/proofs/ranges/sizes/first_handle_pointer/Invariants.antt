use Rattle.std.proofs.Common.{◌≡◌}
use Rattle.std.specs.List.{enumerate_from}
use Rattle.naga_acceptance.specs.Searching.{first_unfit}
use Rattle.module_semantics.specs.acceptance.InfoSizes.{type_is_fit}
use Rattle.naga_acceptance.proofs.ranges.sizes.first_handle_pointer.Given as goal

abbrev pub invariant-loop-handle : goal.invariant-loop-handle
invariant-loop-handle l =
    first_unfit (λ _. type_is_fit) (l.handle-iterator)
    ≡ first_unfit (λ _. type_is_fit) (enumerate_from 0 l.types)
