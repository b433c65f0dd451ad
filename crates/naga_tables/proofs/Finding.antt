-- What a search through a list says of its items.
use Rattle.std.proofs.Common.{◌≡◌, ◌<◌, ◌+◌, ℕ, zero, suc, Bool, true, false, List, [], ◌∷◌}
use Rattle.std.proofs.Common.{drop, length, map, slice_index_or, Some, None}
use Rattle.std.proofs.Common.{refl, sym, ap, ◌∙◌, arith}
use Rattle.std.specs.Prelude.{cond, slice_get}
use Rattle.std.specs.List.{IsAmong, find}
use Rattle.naga_ir.proofs.Listed.{drop_first}

module _ {X : Type 0} (p : X → Bool) where
  -- what finds nothing says of each
  pub none_passes : (xs : List X) → find p xs ≡ None → (i : ℕ) (x : X) → slice_get xs i ≡ Some x → p x ≡ false
  none_passes [] none i x at = absurd cc
  none_passes (y ∷ ys) none i x at = by (p y) refl none (none_passes ys) i at
    where
      by : (b : Bool) → p y ≡ b → cond b (Some y) (find p ys) ≡ None →
          (find p ys ≡ None → (i : ℕ) (x : X) → slice_get ys i ≡ Some x → p x ≡ false) → (i : ℕ) →
          slice_get (y ∷ ys) i ≡ Some x → p x ≡ false
      by true is none rest i at = absurd cc
      by false is none rest zero at = let same : y ≡ x = cc in ap p (sym same) ∙ is
      by false is none rest (suc i) at = rest none i x at

  -- what is found is there and passes
  pub found_passes : (xs : List X) (x : X) → find p xs ≡ Some x → (i : ℕ) × (slice_get xs i ≡ Some x) × (p x ≡ true)
  found_passes [] x is = absurd cc
  found_passes (y ∷ ys) x is = by (p y) refl is (found_passes ys x)
    where
      by : (b : Bool) → p y ≡ b → cond b (Some y) (find p ys) ≡ Some x →
          (find p ys ≡ Some x → (i : ℕ) × (slice_get ys i ≡ Some x) × (p x ≡ true)) →
          (i : ℕ) × (slice_get (y ∷ ys) i ≡ Some x) × (p x ≡ true)
      by true passes is rest = let same : y ≡ x = cc in (0, ap Some same, ap p (sym same) ∙ passes)
      by false passes is rest = let further = rest is in (suc further.0, further.1, further.2)

  -- it is the first that passes
  pub found_first : (xs : List X) (x : X) → find p xs ≡ Some x →
      (i : ℕ) × (slice_get xs i ≡ Some x) × (p x ≡ true)
      × ((j : ℕ) (y : X) → j < i → slice_get xs j ≡ Some y → p y ≡ false)
  found_first [] x is = absurd cc
  found_first (y ∷ ys) x is = by (p y) refl is (found_first ys x)
    where
      by : (b : Bool) → p y ≡ b → cond b (Some y) (find p ys) ≡ Some x →
          (find p ys ≡ Some x → (i : ℕ) × (slice_get ys i ≡ Some x) × (p x ≡ true)
          × ((j : ℕ) (z : X) → j < i → slice_get ys j ≡ Some z → p z ≡ false)) →
          (i : ℕ) × (slice_get (y ∷ ys) i ≡ Some x) × (p x ≡ true)
          × ((j : ℕ) (z : X) → j < i → slice_get (y ∷ ys) j ≡ Some z → p z ≡ false)
      by true passes is rest =
          let same : y ≡ x = cc in (0, ap Some same, ap p (sym same) ∙ passes, λ j z lt at. absurd (omega (arith, lt)))
      by false fails is rest = let further = rest is in
          (suc further.0, further.1, further.2, before further.0 further.3)
        where
          before : (i : ℕ) → ((j : ℕ) (z : X) → j < i → slice_get ys j ≡ Some z → p z ≡ false) →
              (j : ℕ) (z : X) → j < suc i → slice_get (y ∷ ys) j ≡ Some z → p z ≡ false
          before i each zero z lt at = let same : y ≡ z = cc in ap p (sym same) ∙ fails
          before i each (suc j) z lt at = each j z (omega (arith, lt)) at

-- a search from an item on, by whether the item passes
module _ {X Y : Type 0} (g : X → Y) (p : Y → Bool) (xs : List X) (i : ℕ) (x : X) (lt : i < length xs)
    (is : x ≡ slice_index_or xs i x) where
  from_here : find p (map g (drop i xs)) ≡ cond (p (g x)) (Some (g x)) (find p (map g (drop (i + 1) xs)))
  from_here =
      ap (λ ys. find p (map g ys))
      (drop_first i xs x lt is)

  pub found_here : p (g x) ≡ true → Some (g x) ≡ find p (map g (drop i xs))
  found_here passes =
      sym (from_here ∙ ap (λ b. cond b (Some (g x)) (find p (map g (drop (i + 1) xs)))) passes)

  pub not_here : p (g x) ≡ false → find p (map g (drop (i + 1) xs)) ≡ find p (map g (drop i xs))
  not_here fails =
      sym (from_here ∙ ap (λ b. cond b (Some (g x)) (find p (map g (drop (i + 1) xs)))) fails)

-- the same by what is among a list
pub there_among : {X : Type 0} (xs : List X) (x : X) → IsAmong xs x → (i : ℕ) × (slice_get xs i ≡ Some x)
there_among [] x is = absurd (omega (arith, is.1.0))
there_among (y ∷ ys) x (zero, is) = (0, ap Some (sym is.1))
there_among (y ∷ ys) x (suc i, is) =
    let rest = there_among ys x (i, (omega (arith, is.0), is.1)) in (suc rest.0, rest.1)

pub among_there : {X : Type 0} (xs : List X) (i : ℕ) (x : X) → slice_get xs i ≡ Some x → IsAmong xs x
among_there [] i x at = absurd cc
among_there (y ∷ ys) zero x at = let same : y ≡ x = cc in (0, (omega arith, sym same))
among_there (y ∷ ys) (suc i) x at =
    let rest = among_there ys i x at in (suc rest.0, (omega (arith, rest.1.0), rest.1.1))
