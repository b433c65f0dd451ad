-- Sets of words, as contracts see them.
use Rattle.std.specs.Prelude.{◌≡◌, ℕ, nat_eq, Bool, true, false, ◌&&◌, List, map, Option}
use Rattle.std.specs.FinSet as set
use Rattle.std.specs.Hash as fed
use Rattle.std.specs.Hash.{HashWrites}
use Rattle.std.specs.Iterator.{Drains, Yields}
use Rattle.std.specs.Ordering.{nat_cmp}
use Rattle.std.specs.Cmp.{IsEquivalence, both_ways}
use Rattle.std.specs.Cmp.Lexicographic.{slice_cmp, pointwise, nat_list_cmp_total}
use Rattle.std.specs.List.{flat_map}
use Rattle.std.specs.Str.{str_to_ascii_lowercase}
use Rattle.std.proofs.Common.{refl, ap, ◌∙◌}
use denote.Ref.{Bor}

-- a finite set of texts, each the list of its bytes
abbrev pub Words : Type 0
Words = set.FinSet (slice_cmp nat_cmp)

-- the text with its ASCII letters in lower case
abbrev pub in_lower_case : List ℕ → List ℕ
in_lower_case word = str_to_ascii_lowercase word

-- the two texts are the same where ASCII case is ignored
abbrev pub same_caseless : List ℕ → List ℕ → Bool
same_caseless a b = pointwise nat_eq (in_lower_case a) (in_lower_case b)

-- what a hasher is given of a text, so that it can't tell case
abbrev pub caseless_writes : List ℕ → HashWrites
caseless_writes word = flat_map fed.u8 (in_lower_case word)

-- the two sets have the same words
abbrev pub same_words : Words → Words → Bool
same_words s t = set.is_subset s t && set.is_subset t s

-- new has the words of old and those that the iterator gives, each put in by way of `kept`
abbrev pub AddsAll : {S : Type 0} → (S → Option (Bor (List ℕ)) → S → Type 0) →
    (kept : List ℕ → List ℕ) → (words : S) → (old new : Words) → Type 0
AddsAll steps kept words old new =
    (given : List (Bor (List ℕ))) × Drains steps words given
    × (new ≡ set.union old (set.from_list (map (λ w. kept w.now) given)))

-- new has the words of old and those of some beginning of what the iterator gives
abbrev pub AddsSome : {S : Type 0} → (S → Option (Bor (List ℕ)) → S → Type 0) →
    (kept : List ℕ → List ℕ) → (words : S) → (old new : Words) → Type 0
AddsSome {S} steps kept words old new =
    (given : List (Bor (List ℕ))) × (left : S) × Yields steps words given left
    × (new ≡ set.union old (set.from_list (map (λ w. kept w.now) given)))

-- sets that answer alike are equal
pub alike_words : (s t : Words) → ((q : List ℕ) → set.contains s q ≡ set.contains t q) → s ≡ t
alike_words =
    set.same_set nat_list_cmp_total (set.slice_cmp-IsAntisymmetric set.nat_cmp-IsAntisymmetric)

both_true : (a b : Bool) → (a && b) ≡ true → (a ≡ true) × (b ≡ true)
both_true true b e = (refl, e)
both_true false b e = absurd (cc)

and_comm : (a b : Bool) → (a && b) ≡ (b && a)
and_comm true true = refl
and_comm true false = refl
and_comm false true = refl
and_comm false false = refl

pub equal_from_same_words : (s t : Words) → same_words s t ≡ true → s ≡ t
equal_from_same_words s t same =
    let parts = both_true (set.is_subset s t) (set.is_subset t s) same in
    alike_words s t (λ q. both_ways (set.contains s q) (set.contains t q)
    (set.is_subset-contains nat_list_cmp_total s t parts.0 q)
    (set.is_subset-contains nat_list_cmp_total t s parts.1 q))

pub same_words_itself : (s : Words) → same_words s s ≡ true
same_words_itself s =
    let sub = set.contains-is_subset nat_list_cmp_total s s (λ q h. h) in
    ap (λ b. b && set.is_subset s s) sub ∙ sub

pub same_words_equiv : IsEquivalence same_words
same_words_equiv = record {
  refl = same_words_itself;
  symm = λ s t. and_comm (set.is_subset s t) (set.is_subset t s);
  congr = λ s t u same. ap (λ v. same_words v u) (equal_from_same_words s t same);
}
