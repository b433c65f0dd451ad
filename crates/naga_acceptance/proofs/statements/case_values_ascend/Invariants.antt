use Rattle.std.proofs.Common.{◌≡◌, None, drop}
use Rattle.naga_ir.specs.StatementViews.{cases_of}
use Rattle.naga_acceptance.specs.CaseValues.{case_values_ascend}
use Rattle.naga_acceptance.proofs.statements.case_values_ascend.Given as goal

abbrev pub invariant-loop-case : goal.invariant-loop-case
invariant-loop-case l = case_values_ascend l.last (cases_of (drop l.case-index l.cases))
    ≡ case_values_ascend None (cases_of l.cases)
