use Rattle.std.proofs.Common.{◌≡◌, drop}
use Rattle.naga_ir.specs.StatementViews.{cases_of}
use Rattle.naga_acceptance.specs.CaseValues.{numbers_of, has_common}
use Rattle.naga_acceptance.proofs.case_value_numbers.any_among.Given as goal

abbrev pub invariant-loop-case : goal.invariant-loop-case
invariant-loop-case l =
    has_common l.numbers (numbers_of (cases_of (drop l.case-index l.cases))) ≡
    has_common l.numbers (numbers_of (cases_of l.cases))
