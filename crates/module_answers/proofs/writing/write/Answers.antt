use Rattle.module_answers.specs.Counts.{CountsFor}
use Rattle.module_answers.proofs.Wants.{unless_before}
use Rattle.module_answers.proofs.writing.write.Goals as goal

pub returns-clause-counted : goal.returns-clause-counted
returns-clause-counted g c = record {
  raised = c.count_for-ready.ensures.raised;
  counted = unless_before c.count_for-ready.result c.write_ready.result.answer
      (CountsFor c.args.flags c.args.«module».now c.args.info.now c.count_for-ready.new.info) c.count_for-ready.ensures.counted
      c.write_ready.ensures.wanting;
}
