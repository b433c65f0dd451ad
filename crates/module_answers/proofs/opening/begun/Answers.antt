use Rattle.module_answers.proofs.opening.begun.Goals as goal

pub returns-in-Err-clause-none : goal.returns-in-Err-clause-none
returns-in-Err-clause-none c = c.not_begun.ensures c.args.flags c.in-Err.ensures.none
