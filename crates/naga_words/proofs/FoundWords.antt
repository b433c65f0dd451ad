-- What is found by its word has that word, and what is found by no word is none.
use Rattle.std.proofs.Common.{◌≡◌, ℕ, Bool, true, false, cond, List, [], ◌∷◌, Option, Some, None}
use Rattle.std.proofs.Common.{refl, ap, ◌∙◌}
use Rattle.std.specs.Prelude.{◌≢◌}
use Rattle.std.specs.Str.{bytes_eq}
use Rattle.std.proofs.lemmas.Option.{same_Some}
use Rattle.std.proofs.lemmas.Slice.Eq.{bytes_eq-Decides}
use Rattle.naga_words.specs.Diagnostics.{value_of}

-- it was the first, or is among the others
first_or : {A : Type 0} (same : Bool) (v value : A) (more : Option A) {P : Type 0} → cond same (Some v) more
    ≡ Some value → (same ≡ true → v ≡ value → P) → (more ≡ Some value → P) → P
first_or true v value more e here later = here refl (same_Some v value e)
first_or false v value more e here later = later e

pub found : {A : Type 0} (word : A → List ℕ) (values : List A) (w : List ℕ) (value : A) → value_of word values w
    ≡ Some value → w ≡ word value
found word [] w value e = absurd cc
found word (v ∷ values) w value e =
    first_or (bytes_eq w (word v)) v value (value_of word values w) e
    (λ same is. (bytes_eq-Decides w (word v)).0 same ∙ ap word is)
    (found word values w value)

none_or : {A : Type 0} (found : Option A) → ((value : A) → found ≡ Some value → ⊥) → found ≡ None
none_or None never = refl
none_or (Some value) never = absurd (never value refl)

pub none_of_others : {A : Type 0} (word : A → List ℕ) (values : List A) (w : List ℕ) →
    ((value : A) → w ≢ word value) → value_of word values w ≡ None
none_of_others word values w other =
    none_or (value_of word values w) (λ value e. other value (found word values w value e))
