use Rattle.module_semantics.proofs.Layouts.{accepted_in_order}
use Rattle.module_answers.proofs.layouts.layout_table.Goals as goal

pub layouts_under-requires : goal.layouts_under-requires
layouts_under-requires c =
    record { ordered = accepted_in_order c.args.«module».now c.args.info.now c.requires.accepted }
