-- Lists of keys that are read as texts, seen as the finite set of those texts.
use Rattle.std.proofs.Common.{◌≡◌, ℕ, Bool, true, false, ◌||◌, List, [], ◌∷◌, ◌++◌, map, length}
use Rattle.std.proofs.Common.{take, get_or, ◌+◌, ◌<◌, refl, sym, ap, ◌∙◌}
use Rattle.std.specs.FinSet as set
use Rattle.std.specs.Cmp.Lexicographic.{slice_cmp, nat_list_cmp_total, bytes_decides}
use Rattle.std.specs.List.{list_any}
use Rattle.std.specs.List.Sorted.{IsPermutation}
use Rattle.std.specs.Ordering.{nat_cmp, eq_by_cmp}
use Rattle.std.specs.Str.{bytes_eq}
use Rattle.std.proofs.lemmas.List.Sorted.{list_any-IsPermutation}
use Rattle.std.proofs.lemmas.List.{take_more}
use Rattle.std.proofs.lemmas.Map.Text.{is_eq-slice_cmp}
use Rattle.naga_keywords.specs.Words.{Words, alike_words, equal_from_same_words, same_words}
use Rattle.naga_keywords.specs.Words.{same_words_itself}

antisymmetric : set.IsAntisymmetric (slice_cmp nat_cmp)
antisymmetric = set.slice_cmp-IsAntisymmetric set.nat_cmp-IsAntisymmetric

pub or_true_right : (a : Bool) → (a || true) ≡ true
or_true_right true = refl
or_true_right false = refl

-- the set of the texts of a list of keys
abbrev pub texts_of : {K : Type 0} → (K → List ℕ) → List K → Words
texts_of read ks = set.from_list (map read ks)

module _ {K : Type 0} (read : K → List ℕ) where
  pub contains-texts_of : (ks : List K) (q : List ℕ) →
      set.contains (texts_of read ks) q ≡ list_any (λ k. bytes_eq q (read k)) ks
  contains-texts_of ks q = set.contains-from_list nat_list_cmp_total (map read ks) q ∙ each ks
    where
      each : (ks : List K) → list_any (eq_by_cmp (slice_cmp nat_cmp) q) (map read ks)
          ≡ list_any (λ k. bytes_eq q (read k)) ks
      each [] = refl
      each (k ∷ ks) =
          ap (λ b. b || list_any (eq_by_cmp (slice_cmp nat_cmp) q) (map read ks))
          (is_eq-slice_cmp q (read k))
          ∙ ap (λ b. bytes_eq q (read k) || b) (each ks)

  -- one more key is one more text
  pub texts_of-push : (ks : List K) (k : K) →
      texts_of read (ks ++ k ∷ []) ≡ set.insert (texts_of read ks) (read k)
  texts_of-push ks k =
      ap set.from_list (mapped ks)
      ∙ set.from_list_push nat_list_cmp_total antisymmetric (map read ks) (read k)
    where
      mapped : (ks : List K) → map read (ks ++ k ∷ []) ≡ map read ks ++ read k ∷ []
      mapped [] = refl
      mapped (x ∷ ks) = ap (λ xs. read x ∷ xs) (mapped ks)

  -- a key at the front, in whatever order the keys then stand
  pub texts_of-permuted : (old new : List K) (k : K) → IsPermutation (k ∷ old) new →
      texts_of read new ≡ set.insert (texts_of read old) (read k)
  texts_of-permuted old new k moved =
      alike_words (texts_of read new) (set.insert (texts_of read old) (read k)) (λ q.
      contains-texts_of new q
      ∙ sym (list_any-IsPermutation (λ x. bytes_eq q (read x)) (k ∷ old) new moved)
      ∙ sym (set.contains-insert nat_list_cmp_total (texts_of read old) (read k) q
      ∙ ap (λ b. b || set.contains (texts_of read old) q) (is_eq-slice_cmp q (read k))
      ∙ ap (λ b. bytes_eq q (read k) || b) (contains-texts_of old q)))

  -- a text that is there already changes nothing
  pub texts_of-again : (ks : List K) (word : List ℕ) →
      set.contains (texts_of read ks) word ≡ true →
      texts_of read ks ≡ set.insert (texts_of read ks) word
  texts_of-again ks word had =
      alike_words (texts_of read ks) (set.insert (texts_of read ks) word) (λ q.
      sym (set.contains-insert nat_list_cmp_total (texts_of read ks) word q
      ∙ ap (λ b. b || set.contains (texts_of read ks) q) (is_eq-slice_cmp q word)
      ∙ either q (bytes_eq q word) refl))
    where
      either : (q : List ℕ) (b : Bool) → bytes_eq q word ≡ b →
          (b || set.contains (texts_of read ks) q) ≡ set.contains (texts_of read ks) q
      either q true same =
          sym (ap (set.contains (texts_of read ks)) ((bytes_decides q word).0 same) ∙ had)
      either q false differs = refl

-- the test decides whether two sets are equal
pub same_words_decides : (s t : Words) (answer : Bool) → answer ≡ same_words s t →
    (answer ≡ true → s ≡ t) × (s ≡ t → answer ≡ true)
same_words_decides s t answer is = (
  λ yes. equal_from_same_words s t (sym is ∙ yes),
  λ equal. is ∙ sym (ap (same_words s) equal) ∙ same_words_itself s,
)

-- ---- one word after another
pub union-empty : (s : Words) → s ≡ set.union s (set.from_list [])
union-empty s = alike_words s (set.union s set.empty) (λ q.
    sym (set.contains-union nat_list_cmp_total s set.empty q
    ∙ ap (λ b. set.contains s q || b) (set.contains-empty (slice_cmp nat_cmp) q)
    ∙ or_false (set.contains s q)))
  where
    or_false : (a : Bool) → (a || false) ≡ a
    or_false true = refl
    or_false false = refl

union-insert : (s t : Words) (word : List ℕ) →
    set.insert (set.union s t) word ≡ set.union s (set.insert t word)
union-insert s t word =
    alike_words (set.insert (set.union s t) word) (set.union s (set.insert t word)) (λ q.
    set.contains-insert nat_list_cmp_total (set.union s t) word q
    ∙ ap (λ b. eq_by_cmp (slice_cmp nat_cmp) q word || b)
    (set.contains-union nat_list_cmp_total s t q)
    ∙ swapped (eq_by_cmp (slice_cmp nat_cmp) q word) (set.contains s q) (set.contains t q)
    ∙ sym (set.contains-union nat_list_cmp_total s (set.insert t word) q
    ∙ ap (λ b. set.contains s q || b) (set.contains-insert nat_list_cmp_total t word q)))
  where
    swapped : (a b c : Bool) → (a || (b || c)) ≡ (b || (a || c))
    swapped true true c = refl
    swapped true false c = refl
    swapped false b c = refl

-- what the set holds after one more word of those that an iterator gives
pub union-push : {K : Type 0} (read : K → List ℕ) (old before after : Words) (ks : List K) (k : K) →
    before ≡ set.union old (texts_of read ks) → after ≡ set.insert before (read k) →
    after ≡ set.union old (texts_of read (ks ++ k ∷ []))
union-push read old before after ks k so_far is =
    is ∙ ap (λ s. set.insert s (read k)) so_far ∙ union-insert old (texts_of read ks) (read k)
    ∙ ap (set.union old) (sym (texts_of-push read ks k))

-- what the set holds after one more word of a slice
pub texts_of-take : {K : Type 0} (read : K → List ℕ) (before after : Words) (ks : List K) (i : ℕ)
    (d : K) → i < length ks → before ≡ texts_of read (take i ks) →
    after ≡ set.insert before (read (get_or ks i d)) → after ≡ texts_of read (take (i + 1) ks)
texts_of-take read before after ks i d lt so_far is =
    is ∙ ap (λ s. set.insert s (read (get_or ks i d))) so_far
    ∙ sym (ap (texts_of read) (take_more ks i d lt) ∙ texts_of-push read (take i ks) (get_or ks i d))
