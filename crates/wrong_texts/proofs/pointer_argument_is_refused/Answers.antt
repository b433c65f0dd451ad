use Rattle.wrong_texts.proofs.PointerArguments.{refused}
use Rattle.wrong_texts.proofs.pointer_argument_is_refused.Goals as goal

pub returns : goal.returns
returns c = refused
