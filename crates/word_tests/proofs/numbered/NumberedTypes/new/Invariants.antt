use Rattle.std.proofs.Common.{◌≡◌, length}
use Rattle.word_tests.specs.Numbered.{HaveNumbers}
use Rattle.word_tests.proofs.numbered.NumberedTypes.new.Given as goal

abbrev pub invariant-loop-index : goal.invariant-loop-index
invariant-loop-index l = record { own : HaveNumbers l.names.items; count : length l.names.items ≡ l.index-counter }
