-- Words that no changed name can be.
use Rattle.std.specs.Prelude.{◌≡◌, ℕ, List, [], ◌∷◌, ◌++◌, Bool, true, false, not, ◌&&◌, ◌||◌, ◌==◌}
use Rattle.std.specs.List.{list_all}
use Rattle.std.specs.Char.{is_ascii_digit, is_ascii_alphanumeric}
use Rattle.std.specs.FinSet as set
use Rattle.naga_keywords.specs.Words.{Words}

-- an ASCII letter, a digit or `_`
abbrev pub is_identifier_char : ℕ → Bool
is_identifier_char c = is_ascii_alphanumeric c || c == 95

-- a word has ASCII letters, digits and `_` alone, at least one of them, and begins with no digit
abbrev pub is_word : List ℕ → Bool
is_word [] = false
is_word (c ∷ cs) = list_all is_identifier_char (c ∷ cs) && not (is_ascii_digit c)

-- nothing more, or a `_`
abbrev pub is_empty_or_separated : List ℕ → Bool
is_empty_or_separated [] = true
is_empty_or_separated (c ∷ cs) = c == 95

-- an identifier has ASCII letters, digits and `_` alone, begins with no digit and not with `__`,
-- and is not `_`
abbrev pub is_identifier : List ℕ → Bool
is_identifier [] = false
is_identifier (c ∷ cs) =
    list_all is_identifier_char (c ∷ cs) && not (is_ascii_digit c)
    && not (c == 95 && is_empty_or_separated cs)

-- no `_` has digits alone after it, or nothing
abbrev pub has_plain_end : List ℕ → Bool
has_plain_end [] = true
has_plain_end (c ∷ cs) = not (c == 95 && list_all is_ascii_digit cs) && has_plain_end cs

-- the word is an identifier, and does not end in `_`, or in `_` and digits
pub record IsPlain (word : List ℕ) : Type 0 where
  pub identifier : is_identifier word ≡ true
  pub no_end : (front digits : List ℕ) → list_all is_ascii_digit digits ≡ true →
      word ≡ front ++ 95 ∷ digits → ⊥

-- no word of the set ends in `_`, or in `_` and digits
pub record HasPlainEnds (words : Words) : Type 0 where
  pub no_end : (front digits : List ℕ) → list_all is_ascii_digit digits ≡ true →
      set.contains words (front ++ 95 ∷ digits) ≡ false
