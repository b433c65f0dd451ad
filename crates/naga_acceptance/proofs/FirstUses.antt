-- Where the first of several numbers is of which there is something.
--
-- Throughout, f gives what there is of a number, n and m are bounds, and k is how far these are apart.
use Rattle.std.proofs.Common.{◌≡◌, ◌∙◌, ◌+◌, ◌-◌, ◌<◌, ℕ, zero, suc, Option, Some, None, ap}
use Rattle.std.proofs.Common.{arith, refl}
use Rattle.std.specs.Option.{option_map, option_or}
use Rattle.naga_acceptance.specs.FirstUses.{first_below}

module _ {F : Type 0} (f : ℕ → Option F) where
  -- none below this bound, and none at it: none below the next
  pub none_next : (n m : ℕ) → first_below f n ≡ None → f n ≡ None → m ≡ suc n → first_below f m ≡ None
  none_next n m before here next =
      ap (first_below f) next ∙ (ap (λ o. option_or o (option_map (λ x. (n, x)) (f n))) before
      ∙ ap (option_map (λ x. (n, x))) here)

  found_below : (n m k : ℕ) (x : F) → m ≡ k + suc n → first_below f n ≡ None → f n ≡ Some x →
      first_below f m ≡ Some (n, x)
  found_below n m zero x apart before here =
      let next : m ≡ suc n = omega (arith, apart) in
      ap (first_below f) next ∙ (ap (λ o. option_or o (option_map (λ x. (n, x)) (f n))) before
      ∙ ap (option_map (λ x. (n, x))) here)
  found_below n m (suc k) x apart before here =
      let next : m ≡ suc (k + suc n) = omega (arith, apart) in
      ap (first_below f) next
      ∙ ap (λ o. option_or o (option_map (λ y. (k + suc n, y)) (f (k + suc n))))
      (found_below n (k + suc n) k x refl before here)

  -- none below this bound, and one at it: that is the first below any further one
  pub found_within : (n m : ℕ) (x : F) → n < m → first_below f n ≡ None → f n ≡ Some x →
      first_below f m ≡ Some (n, x)
  found_within n m x within before here = found_below n m (m - suc n) x (omega (arith, within)) before here
