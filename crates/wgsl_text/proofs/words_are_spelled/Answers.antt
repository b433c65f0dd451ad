use Rattle.wgsl_text.proofs.Spelled.{spelled}
use Rattle.wgsl_text.proofs.words_are_spelled.Goals as goal

pub returns : goal.returns
returns c = spelled
