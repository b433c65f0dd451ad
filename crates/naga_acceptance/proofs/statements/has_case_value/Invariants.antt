use Rattle.std.proofs.Common.{◌≡◌, drop}
use Rattle.naga_ir.specs.StatementViews.{cases_of}
use Rattle.module_semantics.specs.acceptance.StatementsFit.{has_case_value}
use Rattle.naga_acceptance.proofs.statements.has_case_value.Given as goal

abbrev pub invariant-loop-case : goal.invariant-loop-case
invariant-loop-case l = has_case_value l.case_value (cases_of (drop l.case-index l.cases))
    ≡ has_case_value l.case_value (cases_of l.cases)
