use Rattle.std.proofs.Common.{◌≡◌, drop}
use Rattle.fault_details.specs.Demands.{HasLetter, OfEach, One, unmet}
use Rattle.fault_details.proofs.types.letters_reason.Given as goal

abbrev pub invariant-loop-letter : goal.invariant-loop-letter
invariant-loop-letter l =
    unmet l.types (OfEach (λ letter. One (HasLetter l.got letter)) (drop l.letter-index l.letters))
    ≡ unmet l.types (OfEach (λ letter. One (HasLetter l.got letter)) l.letters)
