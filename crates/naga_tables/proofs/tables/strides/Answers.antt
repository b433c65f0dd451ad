use Rattle.module_semantics.proofs.Layouts.{stand_in_order}
use Rattle.naga_tables.proofs.tables.strides.Goals as goal

pub strides_of-requires-clause-ordered : goal.strides_of-requires-clause-ordered
strides_of-requires-clause-ordered c = stand_in_order c.args.module.now.types c.requires.ordered.types
