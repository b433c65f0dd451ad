use Rattle.naga_keywords.proofs.SortedSets.{none_sorted}
use Rattle.naga_keywords.proofs.sorted.SortedWords.new.Goals as goal

pub invariant_of-result : goal.invariant_of-result
invariant_of-result c = none_sorted c.args.case _ c.new.ensures.items
