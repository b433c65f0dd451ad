use Rattle.std.proofs.Common.{◌∙◌, sym}
use Rattle.naga_ir.specs.StatementViews.{cases_of}
use Rattle.naga_acceptance.proofs.CaseValues.{ascending_differ}
use Rattle.naga_acceptance.proofs.statements.case_values_differ.Goals as goal

pub returns-then-case_values_ascend : goal.returns-then-case_values_ascend
returns-then-case_values_ascend c =
    c.if-case_values_ascend.true
    ∙ sym (ascending_differ (cases_of c.args.cases.now)
    (sym c.case_values_ascend.ensures ∙ c.if-case_values_ascend.true))
