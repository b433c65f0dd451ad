use Rattle.std.proofs.Common.{◌≡◌, drop}
use Rattle.std.specs.List.{enumerate_from, zip}
use Rattle.naga_acceptance.specs.Searching.{first_unfit}
use Rattle.module_semantics.specs.acceptance.InfoSizes.{function_size_fits}
use Rattle.naga_acceptance.proofs.ranges.sizes.function_sizes_fault.Given as goal

abbrev pub invariant-loop-index : goal.invariant-loop-index
invariant-loop-index l =
    first_unfit (λ _ p. function_size_fits p.0 p.1)
    (enumerate_from l.index (zip (drop l.index l.functions) (drop l.index l.infos)))
    ≡ first_unfit (λ _ p. function_size_fits p.0 p.1) (enumerate_from 0 (zip l.functions l.infos))
