use Rattle.wgsl_text.proofs.NotInGrammar.{refused}
use Rattle.wgsl_text.proofs.texts_not_in_grammar.Goals as goal

pub returns : goal.returns
returns c = refused
