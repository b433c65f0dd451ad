use Rattle.std.proofs.Common.{◌≡◌, drop}
use Rattle.naga_ir.specs.StatementViews.{cases_of}
use Rattle.naga_scope.specs.UnsupportedStatements.{unsupported_case}
use Rattle.naga_scope.proofs.statements.unsupported_case.Given as goal

abbrev pub invariant-loop-case : goal.invariant-loop-case
invariant-loop-case l = unsupported_case (cases_of (drop l.case-index l.cases)) ≡ unsupported_case (cases_of l.cases)
