use Rattle.std.proofs.Common.{rules}
use Rattle.naga_words.specs.Output.{AppendsText}
use Rattle.naga_words.proofs.output.Output.remember.Goals as goal

pub returns-then-is_none-clause-text : goal.returns-then-is_none-clause-text
unfolding AppendsText
returns-then-is_none-clause-text g c = search rules

pub returns-else-is_none-clause-text : goal.returns-else-is_none-clause-text
unfolding AppendsText
returns-else-is_none-clause-text g c = search rules
