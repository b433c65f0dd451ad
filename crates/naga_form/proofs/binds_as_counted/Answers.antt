use Rattle.naga_form.proofs.statements.OneFunction.{binds_at}
use Rattle.naga_form.proofs.statements.WrittenLets.{binds_as_under}
use Rattle.naga_form.proofs.binds_as_counted.Goals as goal

pub returns-clause-whole : goal.returns-clause-whole
returns-clause-whole c = binds_as_under

pub returns-clause-one : goal.returns-clause-one
returns-clause-one c = binds_at
