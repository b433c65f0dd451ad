use Rattle.naga_form.proofs.names.ExpressionNames.{expression_names_are, names_after_are}
use Rattle.naga_form.proofs.names.ExpressionNames.{names_of_each_are}
use Rattle.naga_form.proofs.names_are_of_labels.Goals as goal

pub returns-clause-whole : goal.returns-clause-whole
returns-clause-whole c = expression_names_are

pub returns-clause-following : goal.returns-clause-following
returns-clause-following c = names_after_are

pub returns-clause-each : goal.returns-clause-each
returns-clause-each c = names_of_each_are
