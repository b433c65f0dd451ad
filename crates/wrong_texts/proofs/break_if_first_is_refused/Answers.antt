use Rattle.wrong_texts.proofs.BreakIfFirst.{refused}
use Rattle.wrong_texts.proofs.break_if_first_is_refused.Goals as goal

pub returns : goal.returns
returns c = refused
