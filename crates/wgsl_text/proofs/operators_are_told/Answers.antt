use Rattle.wgsl_text.proofs.Operators.{operator_words}
use Rattle.wgsl_text.proofs.operators_are_told.Goals as goal

pub returns : goal.returns
returns c = operator_words
