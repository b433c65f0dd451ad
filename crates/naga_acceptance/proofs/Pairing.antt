-- A loop over two lists side by side, which looks for the first pair that fails.
use Rattle.std.proofs.Common.{◌≡◌, ℕ, ◌+◌, ◌<◌, Bool, true, false, List, ◌∷◌, length, drop, ap, ◌∙◌}
use Rattle.std.proofs.Common.{slice_index_or, slice_get, Option, Some, None}
use Rattle.std.specs.List.{enumerate_from, list_all, zip}
use Rattle.std.specs.Prelude.{◌&&◌}
use Rattle.module_semantics.proofs.Fitting.{item_at}
use Rattle.std.proofs.lemmas.List.{drop_more}
use Rattle.naga_acceptance.specs.Searching.{first_faulty, first_unfit, or_further, unless}

module _ {X Y : Type 0} (xs : List X) (ys : List Y) where
  -- what is left of the two from this position on, with its numbers
  abbrev pub left : ℕ → List (ℕ × (X × Y))
  left i = enumerate_from i (zip (drop i xs) (drop i ys))

  pair_step : (i : ℕ) (x : X) (d : Y) → i < length xs → i < length ys → slice_get xs i ≡ Some x
      → zip (drop i xs) (drop i ys) ≡ (x, slice_index_or ys i d) ∷ zip (drop (i + 1) xs) (drop (i + 1) ys)
  pair_step i x d in_xs in_ys here =
      (λ j. zip (drop_more xs i x in_xs j) (drop_more ys i d in_ys j))
      ∙ ap (λ z. (z, slice_index_or ys i d) ∷ zip (drop (i + 1) xs) (drop (i + 1) ys)) (item_at xs i x in_xs here)

  left_step : (i : ℕ) (x : X) (d : Y) → i < length xs → i < length ys → slice_get xs i ≡ Some x
      → left i ≡ (i, (x, slice_index_or ys i d)) ∷ left (i + 1)
  left_step i x d in_xs in_ys here =
      ap (enumerate_from i) (pair_step i x d in_xs in_ys here)

  module _ (test : X → Y → Bool) where
    pub unfit_here : (i : ℕ) (x : X) (d : Y) → i < length xs → i < length ys → slice_get xs i ≡ Some x →
        test x (slice_index_or ys i d) ≡ false
        → first_unfit (λ _ p. test p.0 p.1) (left i) ≡ Some i
    unfit_here i x d in_xs in_ys here fails =
        ap (first_unfit (λ _ p. test p.0 p.1)) (left_step i x d in_xs in_ys here)
        ∙ ap (λ b. unless b i (first_unfit (λ _ p. test p.0 p.1) (left (i + 1)))) fails

    pub unfit_next : (i : ℕ) (x : X) (d : Y) → i < length xs → i < length ys → slice_get xs i ≡ Some x →
        test x (slice_index_or ys i d) ≡ true
        → first_unfit (λ _ p. test p.0 p.1) (left i) ≡ first_unfit (λ _ p. test p.0 p.1) (left (i + 1))
    unfit_next i x d in_xs in_ys here fits =
        ap (first_unfit (λ _ p. test p.0 p.1)) (left_step i x d in_xs in_ys here)
        ∙ ap (λ b. unless b i (first_unfit (λ _ p. test p.0 p.1) (left (i + 1)))) fits

    -- the same of a loop that asks whether all pass
    pub all_here : (i : ℕ) (x : X) (d : Y) → i < length xs → i < length ys → slice_get xs i ≡ Some x →
        test x (slice_index_or ys i d) ≡ false
        → list_all (λ p. test p.0 p.1) (zip (drop i xs) (drop i ys)) ≡ false
    all_here i x d in_xs in_ys here fails =
        ap (list_all (λ p. test p.0 p.1)) (pair_step i x d in_xs in_ys here)
        ∙ ap (λ b. b && list_all (λ p. test p.0 p.1) (zip (drop (i + 1) xs) (drop (i + 1) ys))) fails

  module _ {F : Type 0} (fault : X → Y → Option F) where
    pub faulty_here : (i : ℕ) (x : X) (d : Y) (found : F) → i < length xs → i < length ys → slice_get xs i
        ≡ Some x → fault x (slice_index_or ys i d) ≡ Some found
        → first_faulty (λ _ p. fault p.0 p.1) (left i) ≡ Some (i, found)
    faulty_here i x d found in_xs in_ys here fails =
        ap (first_faulty (λ _ p. fault p.0 p.1)) (left_step i x d in_xs in_ys here)
        ∙ ap (λ o. or_further o i (first_faulty (λ _ p. fault p.0 p.1) (left (i + 1)))) fails

    pub faulty_next : (i : ℕ) (x : X) (d : Y) → i < length xs → i < length ys → slice_get xs i ≡ Some x →
        fault x (slice_index_or ys i d) ≡ None
        → first_faulty (λ _ p. fault p.0 p.1) (left i) ≡ first_faulty (λ _ p. fault p.0 p.1) (left (i + 1))
    faulty_next i x d in_xs in_ys here fits =
        ap (first_faulty (λ _ p. fault p.0 p.1)) (left_step i x d in_xs in_ys here)
        ∙ ap (λ o. or_further o i (first_faulty (λ _ p. fault p.0 p.1) (left (i + 1)))) fits
