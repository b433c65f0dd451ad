use Rattle.std.proofs.Common.{◌≡◌}
use Rattle.std.specs.List.{enumerate_from}
use Rattle.naga_acceptance.specs.Searching.{first_faulty}
use Rattle.naga_acceptance.specs.FirstFaults.{function_range_fault}
use Rattle.naga_acceptance.proofs.ranges.functions_range_fault.Given as goal

abbrev pub invariant-loop-handle : goal.invariant-loop-handle
invariant-loop-handle l =
    first_faulty (function_range_fault l.module) (l.handle-iterator)
    ≡ first_faulty (function_range_fault l.module) (enumerate_from 0 l.module.functions)
