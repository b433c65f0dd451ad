use Rattle.std.proofs.Common.{◌≡◌, drop, false}
use Rattle.naga_ir.specs.StatementViews.{cases_of}
use Rattle.module_semantics.specs.acceptance.StatementsFit.{last_falls_through}
use Rattle.naga_acceptance.proofs.statements.last_falls_through.Given as goal

abbrev pub invariant-loop-case : goal.invariant-loop-case
invariant-loop-case l = last_falls_through l.falls (cases_of (drop l.case-index l.cases))
    ≡ last_falls_through false (cases_of l.cases)
