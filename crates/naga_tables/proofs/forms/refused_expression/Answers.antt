use Rattle.std.proofs.Common.{sym}
use Rattle.naga_tables.proofs.Refusals.{offset_refused}
use Rattle.naga_tables.proofs.forms.refused_expression.Goals as goal

pub returns-in-None : goal.returns-in-None
returns-in-None c es lacks =
    offset_refused c.args.module.now c.args.info.now es c.args.expression.now (sym c.in-None.ensures) lacks
