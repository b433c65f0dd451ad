use Rattle.std.proofs.Common.{◌≡◌, ℕ, take}
use Rattle.naga_naming.specs.Reset.{output_label}
use Rattle.naga_naming.specs.Outputs.{words_in}
use Rattle.naga_names.proofs.namer.fallback.output_words.Given as goal

abbrev pub invariant-loop-entry_point : goal.invariant-loop-entry_point
invariant-loop-entry_point l = (t : ℕ) → words_in l.words t ≡ output_label t (take l.entry_point-index l.entry_points)
