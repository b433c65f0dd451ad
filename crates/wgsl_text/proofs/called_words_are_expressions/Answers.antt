use Rattle.wgsl_text.proofs.Building.{called_words}
use Rattle.wgsl_text.proofs.called_words_are_expressions.Goals as goal

pub returns : goal.returns
returns c = called_words
