use Rattle.std.proofs.Common.{◌≡◌}
use Rattle.std.specs.FinSet as set
use Rattle.naga_keywords.specs.SortedWords.{comparison_key}
use Rattle.naga_keywords.proofs.SetLemmas.{texts_of}
use Rattle.naga_keywords.proofs.sorted.SortedWords.extend.Given as goal

abbrev pub invariant-loop-word : goal.invariant-loop-word
invariant-loop-word g l =
    (l.self.words ≡ set.union l.initial.self.words (texts_of (λ w. comparison_key l.initial.self.case w.now) l.yielded))
    × (l.self.case ≡ l.initial.self.case)
