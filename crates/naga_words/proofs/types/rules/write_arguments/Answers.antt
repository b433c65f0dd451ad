use Rattle.naga_words.proofs.Empties.{no_items}
use Rattle.naga_words.proofs.SegmentWriting.{spells_nothing}
use Rattle.naga_words.proofs.types.rules.write_arguments.Goals as goal

pub returns-in-None : goal.returns-in-None
returns-in-None g c = rw (no_items c.args.arguments.now c.in-None.ensures.cases) (spells_nothing _)
