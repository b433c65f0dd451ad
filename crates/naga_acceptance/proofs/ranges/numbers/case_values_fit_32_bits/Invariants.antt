use Rattle.std.proofs.Common.{◌≡◌, drop}
use Rattle.naga_ir.specs.StatementViews.{cases_of}
use Rattle.naga_acceptance.specs.TextOrder.{case_values_fit_32_bits}
use Rattle.naga_acceptance.proofs.ranges.numbers.case_values_fit_32_bits.Given as goal

abbrev pub invariant-loop-case : goal.invariant-loop-case
invariant-loop-case l = case_values_fit_32_bits (cases_of (drop l.case-index l.cases))
    ≡ case_values_fit_32_bits (cases_of l.cases)
