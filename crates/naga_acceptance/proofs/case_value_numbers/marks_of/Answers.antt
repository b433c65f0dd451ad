use Rattle.std.proofs.Common.{◌∙◌, true, arith}
use Rattle.std.proofs.lemmas.List.{length-set}
use Rattle.naga_acceptance.proofs.CaseValueNumbers.{marked_more}
use Rattle.naga_acceptance.proofs.case_value_numbers.marks_of.Goals as goal

pub loop-number-preserved : goal.loop-number-preserved
loop-number-preserved c =
    record {
      size = length-set c.loop-number.marks c.cell_of.result true ∙ c.loop-number.invariant.size;
      so_far = marked_more c.args.numbers.now c.loop-number.marks c.loop-number.number-index c.cell_of.result
          c.cell_of.ensures.cell
          (omega (arith, c.cell_of.ensures.within, c.loop-number.invariant.size)) c.loop-number.invariant.so_far;
    }
