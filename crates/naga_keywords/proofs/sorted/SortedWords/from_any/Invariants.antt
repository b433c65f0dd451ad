use Rattle.std.proofs.Common.{◌≡◌, take}
use Rattle.naga_keywords.specs.SortedWords.{comparison_key}
use Rattle.naga_keywords.proofs.SetLemmas.{texts_of}
use Rattle.naga_keywords.proofs.sorted.SortedWords.from_any.Given as goal

abbrev pub invariant-loop-word : goal.invariant-loop-word
invariant-loop-word l =
    (l.sorted.words ≡ texts_of (λ w. comparison_key l.fn.case w.now) (take l.word-index l.words))
    × (l.sorted.case ≡ l.fn.case)
