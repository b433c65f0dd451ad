use Rattle.wrong_texts.proofs.SiblingNames.{refused}
use Rattle.wrong_texts.proofs.sibling_name_is_refused.Goals as goal

pub returns : goal.returns
returns c = refused
