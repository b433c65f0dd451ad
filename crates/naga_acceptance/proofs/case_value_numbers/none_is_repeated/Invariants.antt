use Rattle.std.proofs.Common.{◌≡◌, length}
use Rattle.naga_ir.specs.StatementViews.{cases_of}
use Rattle.module_semantics.specs.acceptance.StatementsFit.{case_values_differ}
use Rattle.naga_acceptance.proofs.case_value_numbers.none_is_repeated.Given as goal

abbrev pub invariant-loop-rest : goal.invariant-loop-rest
invariant-loop-rest l = case_values_differ (cases_of l.rest) ≡ case_values_differ (cases_of l.cases)

abbrev pub decreases-loop-rest : goal.decreases-loop-rest
decreases-loop-rest l = length l.rest
