-- Loops that make the rows of a list, item by item.
-- Serves 7 contracts, `constant_rows` among them.
--
-- Throughout, one is the row of an item p, before are the rows that were made before it, after are those
-- and its own, its are the items that were left then, left those that are left now, and whole is what
-- all rows are to be.
use Rattle.std.proofs.Common.{◌≡◌, ◌∙◌, List, [], ◌∷◌, ◌++◌, Option, Some, None, ap, map, refl, sym}
use Rattle.std.specs.List.{cons_option, filter_map}
use Rattle.std.specs.Option.{option_map}
use Rattle.serde_json.specs.Data.{Data, array}
use Rattle.serde_json.specs.View.{items_of, view}
use Rattle.serde_json.specs.declared.value.Value.{Value}

one_more : (before : List Value) (v : Value) (later : List Data) →
    map view (before ++ v ∷ []) ++ later ≡ map view before ++ view v ∷ later
one_more [] v later = refl
one_more (r ∷ before) v later = ap (λ ds. view r ∷ ds) (one_more before v later)

none_more : (ds : List Data) → ds ++ [] ≡ ds
none_more [] = refl
none_more (d ∷ ds) = ap (λ es. d ∷ es) (none_more ds)

-- ---- each item has a row
module _ {P : Type 0} (one : P → Data) where
  abbrev pub rows_after : List Value → List P → List Data
  rows_after before its = map view before ++ map one its

  pub goes_on : (before after : List Value) (v : Value) (p : P) (its left : List P)
      (whole : List Data) → after ≡ before ++ v ∷ [] → view v ≡ one p → its ≡ p ∷ left →
      rows_after before its ≡ whole → rows_after after left ≡ whole
  goes_on before after v p its left whole is row steps so_far =
      ap (λ rs. rows_after rs left) is
      ∙ (one_more before v (map one left)
      ∙ (ap (λ d. map view before ++ d ∷ map one left) row
      ∙ (ap (rows_after before) (sym steps) ∙ so_far)))

  pub ends : (before : List Value) (its : List P) (whole : List Data) → its ≡ [] →
      rows_after before its ≡ whole →
      array (items_of (map view before)) ≡ array (items_of whole)
  ends before its whole none so_far =
      ap (λ ds. array (items_of ds))
      (sym (none_more (map view before)) ∙ (ap (rows_after before) (sym none) ∙ so_far))

-- ---- some items have one
-- what has no value has no row
pub no_row : {X Y : Type 0} (row : X → Y) (o : Option X) → ((x : X) → o ≡ Some x → ⊥) →
    option_map row o ≡ None
no_row row None none = refl
no_row row (Some x) none = absurd (none x refl)

module _ {P : Type 0} (one : P → Option Data) where
  abbrev pub picked_after : List Value → List P → List Data
  picked_after before its = map view before ++ filter_map one its

  pub picks : (before after : List Value) (v : Value) (p : P) (its left : List P)
      (whole : List Data) → after ≡ before ++ v ∷ [] → one p ≡ Some (view v) → its ≡ p ∷ left →
      picked_after before its ≡ whole → picked_after after left ≡ whole
  picks before after v p its left whole is row steps so_far =
      ap (λ rs. picked_after rs left) is
      ∙ (one_more before v (filter_map one left)
      ∙ (ap (λ ds. map view before ++ ds) (ap (λ o. cons_option o (filter_map one left)) (sym row))
      ∙ (ap (picked_after before) (sym steps) ∙ so_far)))

  pub skips : (before : List Value) (p : P) (its left : List P) (whole : List Data) →
      one p ≡ None → its ≡ p ∷ left → picked_after before its ≡ whole →
      picked_after before left ≡ whole
  skips before p its left whole row steps so_far =
      ap (λ o. map view before ++ cons_option o (filter_map one left)) (sym row)
      ∙ (ap (picked_after before) (sym steps) ∙ so_far)

  pub all_picked : (before : List Value) (its : List P) (whole : List Data) → its ≡ [] →
      picked_after before its ≡ whole →
      array (items_of (map view before)) ≡ array (items_of whole)
  all_picked before its whole none so_far =
      ap (λ ds. array (items_of ds))
      (sym (none_more (map view before)) ∙ (ap (picked_after before) (sym none) ∙ so_far))
