use Rattle.std.proofs.Common.{◌≡◌}
use Rattle.std.specs.List.{enumerate_from}
use Rattle.naga_acceptance.specs.Searching.{first_faulty}
use Rattle.naga_acceptance.specs.FirstFaults.{expression_range_fault}
use Rattle.naga_acceptance.proofs.ranges.expressions.first_expression_out_of_range.Given as goal

abbrev pub invariant-loop-handle : goal.invariant-loop-handle
invariant-loop-handle l =
    first_faulty (expression_range_fault l.module l.arguments l.locals) (l.handle-iterator)
    ≡ first_faulty (expression_range_fault l.module l.arguments l.locals) (enumerate_from 0 l.function.expressions)
