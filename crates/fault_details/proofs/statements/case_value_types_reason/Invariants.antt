use Rattle.std.proofs.Common.{◌≡◌, drop, []}
use Rattle.naga_ir.specs.StatementViews.{cases_of}
use Rattle.fault_details.specs.Demands.{IsCaseOf, OfEach, One, unmet}
use Rattle.fault_details.specs.Reasons.{case_values}
use Rattle.fault_details.proofs.statements.case_value_types_reason.Given as goal

abbrev pub invariant-loop-case : goal.invariant-loop-case
invariant-loop-case l =
    unmet [] (OfEach (λ v. One (IsCaseOf l.scalar v)) (case_values (cases_of (drop l.case-index l.cases))))
    ≡ unmet [] (OfEach (λ v. One (IsCaseOf l.scalar v)) (case_values (cases_of l.cases)))
