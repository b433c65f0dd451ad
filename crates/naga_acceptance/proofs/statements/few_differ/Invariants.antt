use Rattle.std.proofs.Common.{◌≡◌, drop}
use Rattle.naga_ir.specs.StatementViews.{cases_of}
use Rattle.module_semantics.specs.acceptance.StatementsFit.{case_values_differ}
use Rattle.naga_acceptance.proofs.statements.few_differ.Given as goal

abbrev pub invariant-loop-index : goal.invariant-loop-index
invariant-loop-index l = case_values_differ (cases_of (drop l.index l.cases)) ≡ case_values_differ (cases_of l.cases)
