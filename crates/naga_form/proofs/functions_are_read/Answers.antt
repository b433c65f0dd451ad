use Rattle.naga_form.proofs.statements.Abstraction.{function_reads}
use Rattle.naga_form.proofs.functions_are_read.Goals as goal

pub returns : goal.returns
returns c = function_reads
