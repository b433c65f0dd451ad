use Rattle.std.proofs.Common.{◌≡◌, ◌++◌, sym, ap, ◌∙◌, rules}
use Rattle.naga_ir.specs.StatementViews.{cases_of}
use Rattle.module_semantics.specs.acceptance.StatementsFit.{case_values_differ}
use Rattle.naga_acceptance.proofs.CaseValueNumbers.{once_joined}
use Rattle.naga_acceptance.proofs.case_value_numbers.none_is_repeated.Goals as goal

pub loop-rest-preserved : goal.loop-rest-preserved
loop-rest-preserved c =
    let front = c.split_at.result.0.now in
    let back = c.split_at.result.1.now in
    let whole : front ++ back ≡ c.loop-rest.rest.now = search rules in
    sym (once_joined front back c.if-not-first_differ.ensures)
    ∙ (ap (λ xs. case_values_differ (cases_of xs)) whole ∙ c.loop-rest.invariant)
