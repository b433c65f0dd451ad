use Rattle.wgsl_text.proofs.Expressions.{type_called}
use Rattle.wgsl_text.proofs.types_are_callees.Goals as goal

pub returns : goal.returns
returns c = type_called
