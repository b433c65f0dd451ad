use Rattle.std.proofs.Common.{◌≡◌, drop}
use Rattle.std.specs.List.{enumerate_from}
use Rattle.naga_acceptance.specs.Searching.{first_unfit}
use Rattle.module_semantics.specs.acceptance.Ranges.{resolution_fits}
use Rattle.naga_acceptance.proofs.ranges.first_unknown_global.Given as goal

abbrev pub invariant-loop-index : goal.invariant-loop-index
invariant-loop-index l =
    first_unfit (λ _. resolution_fits l.overrides l.types) (enumerate_from l.index (drop l.index l.infos))
    ≡ first_unfit (λ _. resolution_fits l.overrides l.types) (enumerate_from 0 l.infos)
