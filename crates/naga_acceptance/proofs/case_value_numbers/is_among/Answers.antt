use Rattle.std.proofs.Common.{ap, sym, ◌∙◌, false, slice_index_or}
use Rattle.naga_acceptance.proofs.CaseValueNumbers.{found_or_not, unmarked}
use Rattle.naga_acceptance.proofs.case_value_numbers.is_among.Goals as goal

pub returns-then-not-marks-cell_of : goal.returns-then-not-marks-cell_of
returns-then-not-marks-cell_of c =
    unmarked c.args.numbers.now c.args.marks.now c.args.number c.requires.marks
    (ap (λ k. slice_index_or c.args.marks.now k false) (sym c.cell_of.ensures.cell) ∙ c.if-not-marks-cell_of.true)

pub returns : goal.returns
returns c =
    c.is_ok.ensures.value
    ∙ found_or_not c.args.numbers.now c.args.number c.binary_search.result
    c.binary_search.ensures.position c.requires.rise
