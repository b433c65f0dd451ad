-- The digits that a text ends in, and what stands before them.
use Rattle.std.proofs.Common.{◌≡◌, ℕ, false, not, ◌||◌, List, codes, sym, ap, ◌∙◌}
use Rattle.std.specs.Str.{bytes_eq}
use Rattle.naga_keywords.specs.Plain.{has_plain_end}
use Rattle.naga_naming.specs.Label.{ends_separated}
use Rattle.naga_naming.specs.Naming.{ends_in_digit, is_numbered}
use Rattle.naga_naming.proofs.Ends.{kept_by_front}
use Rattle.naga_names.specs.Ends.{IsFrontOfDigits}

pub separated_by_front : (text front : List ℕ) → IsFrontOfDigits text front → ends_in_digit front ≡ false →
    (ends_separated front || bytes_eq front (codes "_e")) ≡ (not (has_plain_end text) || is_numbered text)
separated_by_front text front of none =
    sym (ap (λ t. not (has_plain_end t) || is_numbered t) of.whole
    ∙ kept_by_front front of.digits of.are none)
