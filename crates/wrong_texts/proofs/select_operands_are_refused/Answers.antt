use Rattle.wrong_texts.proofs.SelectOperands.{refused}
use Rattle.wrong_texts.proofs.select_operands_are_refused.Goals as goal

pub returns : goal.returns
returns c = refused
