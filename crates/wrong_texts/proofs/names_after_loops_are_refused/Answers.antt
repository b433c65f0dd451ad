use Rattle.wrong_texts.proofs.NamesAfterLoops.{refused}
use Rattle.wrong_texts.proofs.names_after_loops_are_refused.Goals as goal

pub returns : goal.returns
returns c = refused
