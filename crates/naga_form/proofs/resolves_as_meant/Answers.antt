use Rattle.naga_form.proofs.statements.OneFunction.{resolves_at}
use Rattle.naga_form.proofs.names.Resolution.{resolves_under}
use Rattle.naga_form.proofs.resolves_as_meant.Goals as goal

pub returns-clause-whole : goal.returns-clause-whole
returns-clause-whole c = resolves_under

pub returns-clause-one : goal.returns-clause-one
returns-clause-one c = resolves_at
