-- A handle of a list, by a test and by its place.
-- Serves `argument_without_form`, `emitted_without_form`, `of` and `of_function`.
use Rattle.std.proofs.Common.{◌≡◌, ◌⊎◌, inl, inr, ℕ, zero, suc, Bool, true, false, List, [], ◌∷◌, refl, sym, ap}
use Rattle.std.proofs.Common.{◌∙◌, Some, arith, nat_eq, eqb-true, slice_get}
use Rattle.std.specs.List.{IsAmong, flat_map}
use Rattle.std.proofs.lemmas.Bool.{eqb-false, or_cases, or_left, or_right}
use Rattle.std.proofs.lemmas.List.Folds.{list_any-append}
use Rattle.naga_tables.specs.Marks.{is_one_of}

pub one_among : (hs : List ℕ) (x : ℕ) → is_one_of hs x ≡ true → IsAmong hs x
one_among [] x is = absurd cc
one_among (h ∷ hs) x is = by (or_cases (nat_eq x h) (is_one_of hs x) is) (one_among hs x)
  where
    by : (nat_eq x h ≡ true) ⊎ (is_one_of hs x ≡ true) → (is_one_of hs x ≡ true → IsAmong hs x) →
        IsAmong (h ∷ hs) x
    by (inl same) among = (0, (omega arith, eqb-true x h same))
    by (inr more) among = let a = among more in (suc a.0, (omega (arith, a.1.0), a.1.1))

pub among_one : (hs : List ℕ) (x : ℕ) → IsAmong hs x → is_one_of hs x ≡ true
among_one [] x a = absurd (omega (arith, a.1.0))
among_one (h ∷ hs) x (zero, a) = or_left (nat_eq x h) (is_one_of hs x) (same x h a.1)
  where
    same : (x h : ℕ) → x ≡ h → nat_eq x h ≡ true
    same x h e = by (nat_eq x h) refl
      where
        by : (b : Bool) → nat_eq x h ≡ b → nat_eq x h ≡ true
        by true is = is
        by false is = absurd (eqb-false x h is e)
among_one (h ∷ hs) x (suc i, a) =
    or_right (nat_eq x h) (is_one_of hs x) (among_one hs x (i, (omega (arith, a.0), a.1)))

-- ---- one of the lists of several
module _ {X : Type 0} (own : X → List ℕ) (h : ℕ) where
  in_flat : (x : X) (xs : List X) →
      is_one_of (flat_map own (x ∷ xs)) h ≡ true → (is_one_of (own x) h ≡ true) ⊎ (is_one_of (flat_map own xs) h ≡ true)
  in_flat x xs is = or_cases _ _ (sym (list_any-append (nat_eq h) (own x) (flat_map own xs)) ∙ is)

  -- it is one of one of them,
  pub of_some : (xs : List X) → is_one_of (flat_map own xs) h ≡ true →
      (i : ℕ) × (x : X) × (slice_get xs i ≡ Some x) × (is_one_of (own x) h ≡ true)
  of_some [] is = absurd cc
  of_some (x ∷ xs) is = by (in_flat x xs is) (of_some xs)
    where
      by : (is_one_of (own x) h ≡ true) ⊎ (is_one_of (flat_map own xs) h ≡ true) →
          (is_one_of (flat_map own xs) h ≡ true →
          (i : ℕ) × (y : X) × (slice_get xs i ≡ Some y) × (is_one_of (own y) h ≡ true)) →
          (i : ℕ) × (y : X) × (slice_get (x ∷ xs) i ≡ Some y) × (is_one_of (own y) h ≡ true)
      by (inl here) rest = (0, x, refl, here)
      by (inr later) rest = let further = rest later in (suc further.0, further.1, further.2, further.3)

  -- and the other way round
  pub some_of : (xs : List X) (i : ℕ) (x : X) → slice_get xs i ≡ Some x → is_one_of (own x) h ≡ true →
      is_one_of (flat_map own xs) h ≡ true
  some_of [] i x at is = absurd cc
  some_of (y ∷ xs) zero x at is =
      let same : y ≡ x = cc in
      list_any-append (nat_eq h) (own y) (flat_map own xs)
      ∙ or_left _ _ (ap (λ y. is_one_of (own y) h) same ∙ is)
  some_of (y ∷ xs) (suc i) x at is =
      list_any-append (nat_eq h) (own y) (flat_map own xs) ∙ or_right _ _ (some_of xs i x at is)
