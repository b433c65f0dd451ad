-- the first row of this name stands in the rest
use Rattle.std.proofs.Common.{◌≡◌, drop}
use Rattle.naga_json.specs.Said.{rows, entry_of}
use Rattle.naga_json.proofs.shape.entry_named.Given as goal

abbrev pub invariant-loop-word : goal.invariant-loop-word
invariant-loop-word g l = entry_of (rows (drop l.word-index l.words)) l.name ≡ entry_of (rows l.words) l.name
