use Rattle.std.proofs.Common.{◌≡◌, drop}
use Rattle.naga_ir.specs.StatementViews.{cases_of}
use Rattle.module_semantics.specs.acceptance.StatementsFit.{case_values_are_of}
use Rattle.naga_acceptance.proofs.statements.case_values_are_of.Given as goal

abbrev pub invariant-loop-case : goal.invariant-loop-case
invariant-loop-case l = case_values_are_of l.scalar (cases_of (drop l.case-index l.cases))
    ≡ case_values_are_of l.scalar (cases_of l.cases)
