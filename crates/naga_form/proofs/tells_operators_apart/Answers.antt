use Rattle.naga_form.proofs.operators.OperatorTable.{counted_apart, keeps_word}
use Rattle.naga_form.proofs.operators.TypedWords.{have_one_word}
use Rattle.naga_form.proofs.tells_operators_apart.Goals as goal

pub returns-clause-words : goal.returns-clause-words
returns-clause-words c = have_one_word

pub returns-clause-kept : goal.returns-clause-kept
returns-clause-kept c = keeps_word

pub returns-clause-counts : goal.returns-clause-counts
returns-clause-counts c = counted_apart
