use Rattle.module_semantics.proofs.Layouts.{stand_in_order}
use Rattle.naga_tables.proofs.tables.layouts.Goals as goal

pub layouts_of-requires : goal.layouts_of-requires
layouts_of-requires c = record { ordered = stand_in_order c.args.module.now.types c.requires.ordered.types }
