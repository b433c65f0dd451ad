use Rattle.std.proofs.Common.{◌≡◌, drop}
use Rattle.std.specs.List.{enumerate_from}
use Rattle.naga_acceptance.specs.Searching.{first_faulty}
use Rattle.naga_acceptance.specs.FirstFaults.{known_fault}
use Rattle.naga_acceptance.proofs.ranges.first_known_fault.Given as goal

abbrev pub invariant-loop-index : goal.invariant-loop-index
invariant-loop-index l =
    first_faulty (known_fault l.overrides l.types) (enumerate_from l.index (drop l.index l.infos))
    ≡ first_faulty (known_fault l.overrides l.types) (enumerate_from 0 l.infos)
