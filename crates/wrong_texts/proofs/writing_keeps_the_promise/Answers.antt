use Rattle.wrong_texts.proofs.Written.{keeps}
use Rattle.wrong_texts.proofs.writing_keeps_the_promise.Goals as goal

pub returns : goal.returns
returns c = keeps
