use Rattle.wrong_texts.proofs.ComponentOfNegation.{refused}
use Rattle.wrong_texts.proofs.component_of_negation_is_refused.Goals as goal

pub returns : goal.returns
returns c = refused
