use Rattle.std.proofs.Common.{sym, ◌∙◌}
use Rattle.naga_acceptance.proofs.CaseValueNumbers.{nothing_common}
use Rattle.naga_acceptance.proofs.case_value_numbers.has_common.Goals as goal

pub returns-then-is_empty : goal.returns-then-is_empty
returns-then-is_empty c =
    nothing_common c.args.numbers.now c.args.cases.now (sym c.is_empty.ensures ∙ c.if-is_empty.true)
