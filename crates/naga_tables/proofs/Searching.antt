-- Loops that look through items for one without a form.
use Rattle.std.proofs.Common.{◌≡◌, ℕ, suc, ◌+◌, ◌<◌, ◌≤◌, List, [], ◌∷◌, Some, length}
use Rattle.std.proofs.Common.{sym, ap, ◌∙◌, subst, slice_get, arith, ◌⊎◌, inl, inr, ◌-◌}
use Rattle.std.specs.List.{enumerate_from}
use Rattle.std.proofs.lemmas.Bool.{cases_lt}
use Rattle.std.proofs.lemmas.Option.{slice_get_within}

module _ {X : Type 0} (HasForm : (i : ℕ) → X → Type 0) (xs : List X) where
  -- ---- the items of a slice
  -- those before this index have forms
  pub record Passed (n : ℕ) : Type 0 where
    pub formed : (i : ℕ) (x : X) → i < n → slice_get xs i ≡ Some x → HasForm i x

  pub none_passed : Passed 0
  none_passed = record { formed = λ i x lt at. absurd (omega (arith, lt)) }

  pub one_passed : (n : ℕ) (x : X) → slice_get xs n ≡ Some x → HasForm n x → Passed n → Passed (n + 1)
  one_passed n x here has before =
      record { formed = λ i y lt at. by i y lt at (cases_lt i n) }
    where
      by : (i : ℕ) (y : X) → i < n + 1 → slice_get xs i ≡ Some y → (i < n) ⊎ (n ≤ i) → HasForm i y
      by i y lt at (inl earlier) = before.formed i y earlier at
      by i y lt at (inr le) =
          let index : n ≡ i = omega (arith, lt, le) in
          let same : Some x ≡ Some y = sym here ∙ ap (slice_get xs) index ∙ at in
          let item : x ≡ y = cc in
          subst (λ k. HasForm k y) index (subst (HasForm n) item has)

  pub all_passed : (n : ℕ) → length xs ≤ n → Passed n → (i : ℕ) (x : X) → slice_get xs i ≡ Some x → HasForm i x
  all_passed n le before i x at =
      let within = slice_get_within xs i x at in
      before.formed i x (omega (arith, within, le)) at

  -- ---- those of an arena
  -- these are left of its items with their handles, and all before them have forms
  pub record Left (rest : List (ℕ × X)) : Type 0 where
    pub items : List X
    pub index : ℕ
    pub numbered : rest ≡ enumerate_from index items
    pub stands : (i : ℕ) → slice_get items i ≡ slice_get xs (index + i)
    pub passed : Passed index

  -- the first that is left stands in the arena, and so do the others after it
  record Turn (h : ℕ) (x : X) (rest : List (ℕ × X)) (index : ℕ) : Type 0 where
    at : h ≡ index
    here : slice_get xs h ≡ Some x
    items : List X
    numbered : rest ≡ enumerate_from (index + 1) items
    stands : (i : ℕ) → slice_get items i ≡ slice_get xs (index + 1 + i)

  turn : (h : ℕ) (x : X) (rest : List (ℕ × X)) (items : List X) (index : ℕ) →
      (h, x) ∷ rest ≡ enumerate_from index items →
      ((i : ℕ) → slice_get items i ≡ slice_get xs (index + i)) → Turn h x rest index
  turn h x rest [] index is stands = absurd cc
  turn h x rest (y ∷ ys) index is stands =
      let one : ℕ × X = (h, x) in
      let other : ℕ × X = (index, y) in
      let first : one ≡ other = cc in
      let at : h ≡ index = ap (λ p. p.0) first in
      let item : x ≡ y = ap (λ p. p.1) first in
      let start : index + 0 ≡ index = omega arith in
      record {
        at = at;
        here = ap (slice_get xs) (at ∙ sym start) ∙ sym (stands 0) ∙ ap Some (sym item);
        items = ys;
        numbered = cc;
        stands = λ i. let next : index + suc i ≡ index + 1 + i = omega arith in stands (suc i) ∙ ap (slice_get xs) next;
      }

  turn_of : (old rest : List (ℕ × X)) (h : ℕ) (x : X) → old ≡ (h, x) ∷ rest → (left : Left old) →
      Turn h x rest left.index
  turn_of old rest h x is left =
      turn h x rest left.items left.index (sym is ∙ left.numbered) left.stands

  pub here_left : (old rest : List (ℕ × X)) (h : ℕ) (x : X) → old ≡ (h, x) ∷ rest → Left old → slice_get xs h ≡ Some x
  here_left old rest h x is left = (turn_of old rest h x is left).here

  -- and those before it have forms
  pub before_left : (old rest : List (ℕ × X)) (h : ℕ) (x : X) → old ≡ (h, x) ∷ rest → Left old →
      (i : ℕ) (y : X) → i < h → slice_get xs i ≡ Some y → HasForm i y
  before_left old rest h x is left =
      let t = turn_of old rest h x is left in
      let before = subst Passed (sym t.at) left.passed in
      before.formed

  pub next_left : (old rest : List (ℕ × X)) (h : ℕ) (x : X) → old ≡ (h, x) ∷ rest → HasForm h x → Left old → Left rest
  next_left old rest h x is has left =
      let t = turn_of old rest h x is left in
      record {
        items = t.items;
        index = left.index + 1;
        numbered = t.numbered;
        stands = t.stands;
        passed = subst (λ n. Passed (n + 1)) t.at (one_passed h x t.here has (subst Passed (sym t.at) left.passed));
      }

  -- where none is left, all have forms
  pub none_left : (rest : List (ℕ × X)) → rest ≡ [] → Left rest → (i : ℕ) (x : X) → slice_get xs i ≡ Some x →
      HasForm i x
  none_left rest is left = by left.items (sym is ∙ left.numbered) left.stands
    where
      by : (items : List X) → [] ≡ enumerate_from left.index items →
          ((i : ℕ) → slice_get items i ≡ slice_get xs (left.index + i)) →
          (i : ℕ) (x : X) → slice_get xs i ≡ Some x → HasForm i x
      by [] is stands i x at = inside (cases_lt i left.index)
        where
          inside : (i < left.index) ⊎ (left.index ≤ i) → HasForm i x
          inside (inl lt) = left.passed.formed i x lt at
          inside (inr le) =
              let same : i ≡ left.index + (i - left.index) = omega (arith, le) in
              let none = stands (i - left.index) in
              let clash = none ∙ ap (slice_get xs) (sym same) ∙ at in
              absurd cc
      by (y ∷ ys) is stands i x at = absurd cc
