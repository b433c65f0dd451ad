-- Indices in lists: of a word among others, and of items in a list that is made from another.
--
-- Throughout, w is a word, x an item and y what is made of it, xs are items, n is the number of the
-- first of them, and i, j and k are indices.
use Rattle.std.proofs.Common.{◌≡◌, ℕ, zero, suc, ◌+◌, Bool, true, false, List, [], ◌∷◌, Option}
use Rattle.std.proofs.Common.{Some, None, refl, sym, ap, ◌∙◌, arith, length, map, take}
use Rattle.std.specs.List.{cons_option, enumerate_from, filter, filter_map}
use Rattle.std.specs.Option.{option_map}
use Rattle.std.specs.Prelude.{if◌then◌else◌, slice_get}
use Rattle.std.specs.Str.{bytes_eq}
use Rattle.std.proofs.lemmas.Bool.{false_from_ne_true}
use Rattle.std.proofs.lemmas.Option.{same_Some, slice_get-map}
use Rattle.std.proofs.lemmas.Slice.Eq.{bytes_eq-Decides}
use Rattle.naga_info.proofs.Options.{map_some}
use Rattle.text_semantics.specs.Resolution.{index_among}

-- ---- words
-- what is found after a word
abbrev found_following : List ℕ → (is_first : Bool) → List (List ℕ) → Option ℕ
found_following w is_first xs =
    if is_first then Some 0 else option_map (λ i. suc i) (index_among w xs)

-- a word that stands at one index alone is found there
pub index_found : (w : List ℕ) (xs : List (List ℕ)) (i : ℕ) → slice_get xs i ≡ Some w →
    ((j : ℕ) → slice_get xs j ≡ Some w → j ≡ i) → index_among w xs ≡ Some i
index_found w [] i at one = absurd cc
index_found w (x ∷ xs) zero at one =
    ap (λ b. found_following w b xs) ((bytes_eq-Decides w x).1 (sym (same_Some x w at)))
index_found w (x ∷ xs) (suc i) at one =
    ap (λ b. found_following w b xs) (false_from_ne_true (bytes_eq w x) no_first)
    ∙ ap (option_map (λ i. suc i)) (index_found w xs i at before)
  where
    no_first : bytes_eq w x ≡ true → ⊥
    no_first e =
        let clash = one 0 (ap Some (sym ((bytes_eq-Decides w x).0 e))) in absurd (omega (arith, clash))

    before : (j : ℕ) → slice_get xs j ≡ Some w → j ≡ i
    before j there = let same = one (suc j) there in omega (arith, same)

-- and one that stands nowhere is not
pub index_none : (w : List ℕ) (xs : List (List ℕ)) →
    ((j : ℕ) → slice_get xs j ≡ Some w → ⊥) → index_among w xs ≡ None
index_none w [] none = refl
index_none w (x ∷ xs) none =
    ap (λ b. found_following w b xs)
    (false_from_ne_true (bytes_eq w x) (λ e. none 0 (ap Some (sym ((bytes_eq-Decides w x).0 e)))))
    ∙ ap (option_map (λ i. suc i)) (index_none w xs (λ j there. none (suc j) there))

-- ---- items with their numbers
module _ {X : Type 0} where
  counted_at : (n : ℕ) (xs : List X) (i : ℕ) (x : X) → slice_get xs i ≡ Some x →
      slice_get (enumerate_from n xs) i ≡ Some (n + i, x)
  counted_at n [] i x at = absurd cc
  counted_at n (y ∷ xs) zero x at =
      let here : n ≡ n + 0 = omega arith in λ k. Some (here k, same_Some y x at k)
  counted_at n (y ∷ xs) (suc i) x at =
      let next : n + 1 + i ≡ n + suc i = omega arith in
      counted_at (n + 1) xs i x at ∙ ap (λ k. Some (k, x)) next

  counted_from : (n : ℕ) (xs : List X) (i : ℕ) (p : ℕ × X) →
      slice_get (enumerate_from n xs) i ≡ Some p → (slice_get xs i ≡ Some p.1) × (p.0 ≡ n + i)
  counted_from n [] i p at = absurd cc
  counted_from n (y ∷ xs) zero p at =
      let here : n ≡ n + 0 = omega arith in
      (ap (option_map (λ q. q.1)) at, sym (ap (λ q. q.0) (same_Some (n, y) p at)) ∙ here)
  counted_from n (y ∷ xs) (suc i) p at =
      let next : n + 1 + i ≡ n + suc i = omega arith in
      let rest = counted_from (n + 1) xs i p at in
      (rest.0, rest.1 ∙ next)

  -- each has its index for a number
  pub numbered_at : (xs : List X) (i : ℕ) (x : X) → slice_get xs i ≡ Some x →
      slice_get (enumerate_from 0 xs) i ≡ Some (i, x)
  numbered_at xs i x at =
      let here : 0 + i ≡ i = omega arith in
      counted_at 0 xs i x at ∙ ap (λ k. Some (k, x)) here

  pub numbered_from : (xs : List X) (i : ℕ) (p : ℕ × X) →
      slice_get (enumerate_from 0 xs) i ≡ Some p → (slice_get xs i ≡ Some p.1) × (p.0 ≡ i)
  numbered_from xs i p at =
      let own = counted_from 0 xs i p at in
      let here : 0 + i ≡ i = omega arith in (own.0, own.1 ∙ here)

  pub numbered_taken : (n k : ℕ) (xs : List X) →
      take k (enumerate_from n xs) ≡ enumerate_from n (take k xs)
  numbered_taken n zero xs = refl
  numbered_taken n (suc k) [] = refl
  numbered_taken n (suc k) (x ∷ xs) = ap (λ ps. (n, x) ∷ ps) (numbered_taken (n + 1) k xs)

-- what is made of each, with its number
pub made_at : {X Y : Type 0} (form : ℕ × X → Y) (xs : List X) (i : ℕ) (x : X) →
    slice_get xs i ≡ Some x → slice_get (map form (enumerate_from 0 xs)) i ≡ Some (form (i, x))
made_at form xs i x at =
    slice_get-map form (enumerate_from 0 xs) i ∙ ap (option_map form) (numbered_at xs i x at)

pub made_from : {X Y : Type 0} (form : ℕ × X → Y) (xs : List X) (i : ℕ) (y : Y) →
    slice_get (map form (enumerate_from 0 xs)) i ≡ Some y →
    (x : X) × (slice_get xs i ≡ Some x) × (form (i, x) ≡ y)
made_from form xs i y at =
    let p =
    map_some form (slice_get (enumerate_from 0 xs) i) y
    (sym (slice_get-map form (enumerate_from 0 xs) i) ∙ at) in
    let own = numbered_from xs i p.0 p.1 in
    (p.0.1, own.0, ap (λ k. form (k, p.0.1)) (sym own.1) ∙ p.2)

-- ---- items that pass a test
module _ {X Y : Type 0} (test : X → Bool) (form : X → Y) where
  -- what is made of an item that passes
  abbrev pub formed_if : X → Option Y
  formed_if x = if test x then Some (form x) else None

  -- an item that passes stands after those before it that do
  pub formed_at : (xs : List X) (k : ℕ) (x : X) → slice_get xs k ≡ Some x → test x ≡ true →
      slice_get (filter_map formed_if xs) (length (filter test (take k xs))) ≡ Some (form x)
  formed_at [] k x at is = absurd cc
  formed_at (y ∷ xs) zero x at is =
      let same = same_Some y x at in
      ap (λ b. slice_get (cons_option (if b then Some (form y) else None) (filter_map formed_if xs)) 0)
      (ap test same ∙ is)
      ∙ ap (λ z. Some (form z)) same
  formed_at (y ∷ xs) (suc k) x at is = by (test y) (formed_at xs k x at is)
    where
      by : (b : Bool) →
          slice_get (filter_map formed_if xs) (length (filter test (take k xs))) ≡ Some (form x) →
          slice_get (cons_option (if b then Some (form y) else None) (filter_map formed_if xs))
          (length (if b then y ∷ filter test (take k xs) else filter test (take k xs)))
          ≡ Some (form x)
      by true rest = rest
      by false rest = rest

  -- the item that something was made of, and its index
  pub record IsFormed (xs : List X) (j : ℕ) (y : Y) : Type 0 where
    pub item : X
    pub index : ℕ
    pub there : slice_get xs index ≡ Some item
    pub passes : test item ≡ true
    pub number : j ≡ length (filter test (take index xs))
    pub is : form item ≡ y

  pub formed_from : (xs : List X) (j : ℕ) (y : Y) →
      slice_get (filter_map formed_if xs) j ≡ Some y → IsFormed xs j y
  formed_from [] j y at = absurd cc
  formed_from (x ∷ xs) j y at = by (test x) refl (formed_from xs) at
    where
      before : Bool → ℕ → ℕ
      before b k = length (if b then x ∷ filter test (take k xs) else filter test (take k xs))

      further : (b : Bool) → test x ≡ b → (i : ℕ) → IsFormed xs i y →
          ((k : ℕ) → i ≡ length (filter test (take k xs)) → j ≡ before b k) →
          IsFormed (x ∷ xs) j y
      further b is i rest number = record {
        item = rest.item;
        index = suc rest.index;
        there = rest.there;
        passes = rest.passes;
        number = number rest.index rest.number ∙ ap (λ b. before b rest.index) (sym is);
        is = rest.is;
      }

      by : (b : Bool) → test x ≡ b →
          ((i : ℕ) (y : Y) → slice_get (filter_map formed_if xs) i ≡ Some y → IsFormed xs i y) →
          slice_get (cons_option (if b then Some (form x) else None) (filter_map formed_if xs)) j
          ≡ Some y →
          IsFormed (x ∷ xs) j y
      by false is rest at = further false is j (rest j y at) (λ k e. e)
      by true is rest at = at_index j refl at
        where
          at_index : (i : ℕ) → j ≡ i → slice_get (form x ∷ filter_map formed_if xs) i ≡ Some y →
              IsFormed (x ∷ xs) j y
          at_index zero here at = record {
            item = x;
            index = 0;
            there = refl;
            passes = is;
            number = here;
            is = same_Some (form x) y at;
          }
          at_index (suc i) here at =
              further true is i (rest i y at) (λ k e. here ∙ ap (λ i. suc i) e)
