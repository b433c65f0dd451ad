use Rattle.decimal_floats.specs.Decimals.{IsDecimalThroughout}
use Rattle.module_answers.specs.Counts.{CountsFor}
use Rattle.module_answers.proofs.Wants.{unless_before}
use Rattle.module_answers.proofs.writing.write_decimal.Goals as goal

pub returns-clause-complete : goal.returns-clause-complete
returns-clause-complete g c =
    unless_before c.count_with_decimals-ready.result c.write_ready.result.answer
    (IsDecimalThroughout c.count_with_decimals-ready.new.«module») c.count_with_decimals-ready.ensures.complete
    c.write_ready.ensures.wanting

pub returns-clause-counted : goal.returns-clause-counted
returns-clause-counted g c = record {
  raised = c.count_with_decimals-ready.ensures.raised;
  counted = unless_before c.count_with_decimals-ready.result c.write_ready.result.answer
      (CountsFor c.args.flags c.count_with_decimals-ready.new.«module» c.args.info.now c.count_with_decimals-ready.new.info)
      c.count_with_decimals-ready.ensures.counted c.write_ready.ensures.wanting;
}
