use Rattle.std.proofs.Common.{◌≤◌}
use Rattle.naga_keywords.specs.SortedWords.{keys_of}
use Rattle.naga_keywords.proofs.Halving.{AscendUpTo}
use Rattle.naga_keywords.proofs.sorted.ascend.Given as goal

abbrev pub invariant-loop-index : goal.invariant-loop-index
invariant-loop-index l = AscendUpTo (keys_of l.fn.case l.words) l.index × (1 ≤ l.index)
