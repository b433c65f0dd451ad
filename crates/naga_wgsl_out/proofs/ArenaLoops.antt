-- Loops that write what stands in an arena, item by item.
-- Serves 21 contracts, `write_constant` among them.
--
-- Throughout, one is the text of an item with its handle, items are those of the arena, and pairs the
-- items that are left, with their handles.
use Rattle.std.proofs.Common.{◌≡◌, ◌+◌, ◌∙◌, ℕ, zero, suc, List, [], ◌∷◌, Option, Some, None, ap}
use Rattle.std.proofs.Common.{drop, get_or, refl, slice_get, sym}
use Rattle.std.specs.List.{enumerate_from}
use Rattle.naga_words.proofs.Writing.{Leaves, leaves_as, leaves_more, leaves_none, leaves_start}
use Rattle.naga_words.specs.Output.{OutputView, Wrote, joined_texts}
use Rattle.naga_wgsl_fns.proofs.FunctionRows.{drop_at}

module _ {X : Type 0} where
  -- what is left are the items from a index on
  pub record IsRest (items : List X) (pairs : List (ℕ × X)) : Type 0 where
    pub index : ℕ
    pub is : pairs ≡ enumerate_from index (drop index items)

  -- the next item stands there, and the others after it
  record Step (items : List X) (index : ℕ) (pair : ℕ × X) (later : List (ℕ × X)) : Type 0 where
    at : slice_get items index ≡ Some pair.1
    handle : index ≡ pair.0
    rest : later ≡ enumerate_from (index + 1) (drop (index + 1) items)

  none_left : (items : List X) (index : ℕ) → slice_get items index ≡ None → drop index items ≡ []
  none_left [] zero none = refl
  none_left [] (suc index) none = refl
  none_left (x ∷ items) zero none = absurd cc
  none_left (x ∷ items) (suc index) none = none_left items index none

  step : (items : List X) (index : ℕ) (pair : ℕ × X) (later : List (ℕ × X)) →
      enumerate_from index (drop index items) ≡ pair ∷ later → Step items index pair later
  step items index pair later is = by (slice_get items index) refl
    where
      by : (o : Option X) → slice_get items index ≡ o → Step items index pair later
      by (Some x) at =
          let same = sym (ap (enumerate_from index) (drop_at index items x at)) ∙ is in
          let first : (index, x) ≡ pair = ap (λ ps. get_or ps 0 pair) same in
          record {
            at = at ∙ ap (λ (p : ℕ × X). Some p.1) first;
            handle = ap (λ (p : ℕ × X). p.0) first;
            rest = sym (ap (drop 1) same);
          }
      by None at =
          absurd (no_pair (sym (ap (enumerate_from index) (none_left items index at)) ∙ is))
        where
          no_pair : [] ≡ pair ∷ later → ⊥
          no_pair e = cc

  -- ---- a loop that has written some items, and what is left of the whole text
  abbrev pub texts_of : (ℕ × X → List ℕ) → List (ℕ × X) → List ℕ
  texts_of one [] = []
  texts_of one (pair ∷ pairs) = joined_texts (one pair) (texts_of one pairs)

  pub record HasWritten (start now : OutputView) (whole : List ℕ) (one : ℕ × X → List ℕ)
      (items : List X) (pairs : List (ℕ × X)) : Type 0 where
    pub leaves : Leaves start now whole (texts_of one pairs)
    pub rest : IsRest items pairs

  pub at_first : (start : OutputView) (whole : List ℕ) (one : ℕ × X → List ℕ) (items : List X)
      (pairs : List (ℕ × X)) → whole ≡ texts_of one (enumerate_from 0 items) →
      pairs ≡ enumerate_from 0 items → HasWritten start start whole one items pairs
  at_first start whole one items pairs is are = record {
    leaves = leaves_as (is ∙ ap (texts_of one) (sym are)) (leaves_start start whole);
    rest = record { index = 0; is = are };
  }

  -- the next item is there, and it is written
  pub is_there : (start now : OutputView) (whole : List ℕ) (one : ℕ × X → List ℕ) (items : List X)
      (pairs later : List (ℕ × X)) (pair : ℕ × X) → HasWritten start now whole one items pairs →
      pairs ≡ pair ∷ later → slice_get items pair.0 ≡ Some pair.1
  is_there start now whole one items pairs later pair has are =
      let next = step items has.rest.index pair later (sym has.rest.is ∙ are) in
      ap (slice_get items) (sym next.handle) ∙ next.at

  pub at_next : (start now next : OutputView) (whole : List ℕ) (one : ℕ × X → List ℕ)
      (items : List X) (pairs later : List (ℕ × X)) (pair : ℕ × X) →
      HasWritten start now whole one items pairs → pairs ≡ pair ∷ later →
      Wrote now next (one pair) → HasWritten start next whole one items later
  at_next start now next whole one items pairs later pair has are wrote =
      let more = step items has.rest.index pair later (sym has.rest.is ∙ are) in
      record {
        leaves = leaves_more start now next whole (texts_of one pairs) (one pair)
            (texts_of one later) has.leaves (ap (texts_of one) are) wrote;
        rest = record { index = has.rest.index + 1; is = more.rest };
      }

  -- after the last the whole is written
  pub at_last : (start now : OutputView) (whole : List ℕ) (one : ℕ × X → List ℕ) (items : List X)
      (pairs : List (ℕ × X)) → HasWritten start now whole one items pairs → pairs ≡ [] →
      Wrote start now whole
  at_last start now whole one items pairs has none =
      leaves_none start now whole (texts_of one pairs) has.leaves (ap (texts_of one) none)
