use Rattle.naga_tables.proofs.FilledTables.{undeclared_marked}
use Rattle.naga_tables.proofs.tables.mark_undeclared.Goals as goal

pub returns : goal.returns
returns c =
    undeclared_marked c.args.module.now c.requires.ordered.special c.args.marks.now _
    c.requires.none c.mark_special.ensures
