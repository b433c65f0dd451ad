use Rattle.wgsl_text.proofs.ValueWords.{value_words}
use Rattle.wgsl_text.proofs.words_of_values.Goals as goal

pub returns : goal.returns
returns c = value_words
