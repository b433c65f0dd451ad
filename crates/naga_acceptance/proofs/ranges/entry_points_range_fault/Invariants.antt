use Rattle.std.proofs.Common.{◌≡◌, drop}
use Rattle.std.specs.List.{enumerate_from}
use Rattle.naga_acceptance.specs.Searching.{first_faulty}
use Rattle.naga_acceptance.specs.FirstFaults.{entry_point_range_fault}
use Rattle.naga_acceptance.proofs.ranges.entry_points_range_fault.Given as goal

abbrev pub invariant-loop-index : goal.invariant-loop-index
invariant-loop-index l =
    first_faulty (λ _. entry_point_range_fault l.module)
    (enumerate_from l.index (drop l.index l.module.entry_points.items))
    ≡ first_faulty (λ _. entry_point_range_fault l.module) (enumerate_from 0 l.module.entry_points.items)
