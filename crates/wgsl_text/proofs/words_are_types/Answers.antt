use Rattle.wgsl_text.proofs.Building.{words_are_types}
use Rattle.wgsl_text.proofs.words_are_types.Goals as goal

pub returns : goal.returns
returns c = words_are_types
