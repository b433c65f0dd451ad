use Rattle.std.proofs.Common.{◌≡◌, drop}
use Rattle.naga_acceptance.specs.Uses.{all_mixed}
use Rattle.naga_acceptance.proofs.type_hash.word_mixed.Given as goal

-- what is left, mixed into what is mixed so far, gives what is wanted
abbrev pub invariant-loop-byte : goal.invariant-loop-byte
invariant-loop-byte l =
    all_mixed l.hash (drop l.byte-index l.byte-items) ≡ all_mixed l.fn.hash l.byte-items
