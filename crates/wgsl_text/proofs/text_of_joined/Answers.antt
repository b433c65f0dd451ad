use Rattle.wgsl_text.proofs.Text.{text-append}
use Rattle.wgsl_text.proofs.text_of_joined.Goals as goal

pub returns : goal.returns
returns c = text-append
