use Rattle.std.proofs.Common.{◌-◌, ◌≡◌, ◌<◌, ◌^◌, length}
use Rattle.naga_keywords.specs.SortedWords.{keys_of, comparison_key}
use Rattle.naga_keywords.proofs.Halving.{IsBetween, HasProbesLeft}
use Rattle.naga_keywords.proofs.sorted.search.Given as goal

abbrev pub invariant-loop-low : goal.invariant-loop-low
invariant-loop-low l =
    IsBetween (keys_of l.initial.counter.case l.members)
    (comparison_key l.initial.counter.case l.initial.counter.wanted.now) l.low l.high
    × HasProbesLeft l.counter.comparisons (l.high - l.low) (length l.members)
    × (length l.members < 2 ^ 64)
    × (l.counter.case ≡ l.initial.counter.case) × (l.counter.wanted.now ≡ l.initial.counter.wanted.now)

abbrev pub decreases-loop-low : goal.decreases-loop-low
decreases-loop-low l = l.high - l.low
