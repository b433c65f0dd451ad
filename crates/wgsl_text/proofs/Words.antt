-- What holds of each word of a table.
use Rattle.std.proofs.Common.{◌≡◌, ℕ, Bool, true, not, ◌&&◌, List, [], ◌∷◌, refl, sym, ap}
use Rattle.std.proofs.Common.{◌∙◌, inl, inr}
use Rattle.std.specs.Str.{bytes_eq}
use Rattle.std.proofs.lemmas.Bool.{false≢true, and_parts, not-true, or_cases}
use Rattle.std.proofs.lemmas.Slice.Eq.{bytes_eq-Decides}
use Rattle.wgsl_text.specs.Words.{stands_in, IsWord, is_word_text, is_reserved}
use Rattle.wgsl_text.specs.Tables.{address_space_words, access_words, builtin_value_words}
use Rattle.wgsl_text.specs.Tables.{interpolation_words, sampling_words, enable_words}

-- each word passes the test
abbrev pub all_words : (List ℕ → Bool) → List (List ℕ) → Bool
all_words p [] = true
all_words p (w ∷ words) = p w && all_words p words

pub passes : (p : List ℕ → Bool) (words : List (List ℕ)) (w : List ℕ) → all_words p words ≡ true →
    stands_in words w ≡ true → p w ≡ true
passes p [] w all at = absurd (false≢true at)
passes p (v ∷ words) w all at =
    elim (or_cases (bytes_eq v w) (stands_in words w) at) [
      | inl same ↦ ap p (sym ((bytes_eq-Decides v w).0 same)) ∙ (and_parts (p v) (all_words p words) all).0
      | inr later ↦ passes p words w (and_parts (p v) (all_words p words) all).1 later
    ]

-- a word outside the reserved ones
abbrev pub is_free : List ℕ → Bool
is_free w = is_word_text w && not (is_reserved w)

pub free_word : (w : List ℕ) → is_free w ≡ true → IsWord w
free_word w e = let h = and_parts (is_word_text w) (not (is_reserved w)) e in
    record { text = h.0; free = not-true (is_reserved w) h.1 }

pub table_word : (words : List (List ℕ)) (w : List ℕ) → all_words is_free words ≡ true → stands_in words w
    ≡ true → IsWord w
table_word words w all at = free_word w (passes is_free words w all at)

pub address_spaces_free : all_words is_free address_space_words ≡ true
unfolding is_reserved
address_spaces_free = refl

pub accesses_free : all_words is_free access_words ≡ true
unfolding is_reserved
accesses_free = refl

pub builtin_values_free : all_words is_free builtin_value_words ≡ true
unfolding is_reserved
builtin_values_free = refl

pub interpolations_free : all_words is_free interpolation_words ≡ true
unfolding is_reserved
interpolations_free = refl

pub samplings_free : all_words is_free sampling_words ≡ true
unfolding is_reserved
samplings_free = refl

pub enables_free : all_words is_free enable_words ≡ true
unfolding is_reserved
enables_free = refl
