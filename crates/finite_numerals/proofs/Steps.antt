-- Powers of ten between two floats: the next float is two of them above at least, and 256 at most.
-- That of each exponent is computed.
use Rattle.std.proofs.Common.{◌≡◌, ℕ, zero, suc, ◌+◌, ◌*◌, ◌/◌, ◌^◌, ◌<◌, ◌≤◌, refl, sym, ap, ◌∙◌, arith, inl, inr, subst}
use Rattle.std.proofs.Common.{Bool, true, false, ◌&&◌, ℤ, pos, negsuc, ◌-ℤ◌}
use Rattle.std.specs.Prelude.{nat_le}
use Rattle.std.proofs.lemmas.Int.{ints}
use Rattle.std.proofs.lemmas.Bool.{leb-true}
use lib.Pow.{pow-add}
use native.Mathlib.Nat.{eq-or-lt_of_le, le_of_mul-le-mul_right, mul-le-mul_right, mul-one, one-le-pow}
use Rattle.finite_numerals.specs.Nearest.{low, tens_down, tens_up}
use Rattle.finite_numerals.specs.Search.{places}
use Rattle.finite_numerals.specs.declared.precision.Precision.{Precision}
use Rattle.finite_numerals.specs.declared.precision.Precision.TheVariants.{Half, Single, Double}

-- the power of ten for k steps of the exponent
abbrev pub tens : ℕ → ℕ
tens k = k * 78913 / 2 ^ 18

fits : Precision → ℕ → Bool
fits p k =
    nat_le (2 * (10 ^ tens k * 2 ^ low p)) (2 ^ k * 10 ^ places p)
    && nat_le (2 ^ k * 10 ^ places p) (256 * (10 ^ tens k * 2 ^ low p))

all_fit : Precision → ℕ → Bool
all_fit p zero = true
all_fit p (suc k) = fits p k && all_fit p k

-- how many steps a finite float has at most
abbrev pub most : Precision → ℕ
most Half = 30
most Single = 254
most Double = 2046

each_fits : (p : Precision) → all_fit p (most p) ≡ true
unfolding all_fit fits
each_fits Half = refl
each_fits Single = refl
each_fits Double = refl

first : (a b : Bool) → (a && b) ≡ true → a ≡ true
first true b h = refl
first false b h = h

second : (a b : Bool) → (a && b) ≡ true → b ≡ true
second true b h = h
second false b h = absurd (cc)

fits_at : (p : Precision) (n k : ℕ) → all_fit p n ≡ true → k < n → fits p k ≡ true
unfolding all_fit
fits_at p zero k all less = absurd (omega (arith, less))
fits_at p (suc n) k all less = elim (eq-or-lt_of_le (below k n less)) [
  | inl same ↦ ap (fits p) same ∙ first (fits p n) (all_fit p n) all
  | inr before ↦ fits_at p n k (second (fits p n) (all_fit p n) all) before
]
  where
    below : (k n : ℕ) → k < suc n → k ≤ n
    below k n less = omega (arith, less)

-- a power of ten, and how far the next float is after k steps, in the same parts
pub record IsStep (p : Precision) (k : ℕ) (e : ℤ) : Type 0 where
  pub twice : 2 * (tens_up e * 2 ^ low p) ≤ 2 ^ k * tens_down e
  pub few : 2 ^ k * tens_down e ≤ 256 * (tens_up e * 2 ^ low p)

pub tens_are : (e : ℤ) (a o : ℕ) → e ≡ pos a -ℤ pos o → tens_up e * 10 ^ o ≡ 10 ^ a * tens_down e
tens_are (pos n) a o is =
    let sum : n + o ≡ a = omega (arith, ints, is) in
    sym (pow-add 10 n o) ∙ ap (λ m. 10 ^ m) sum ∙ sym (mul-one (10 ^ a))
tens_are (negsuc n) a o is =
    let sum : o ≡ a + suc n = omega (arith, ints, is) in
    let one : 1 * 10 ^ o ≡ 10 ^ o = omega arith in
    one ∙ ap (λ m. 10 ^ m) sum ∙ pow-add 10 a (suc n)

turn : (c a l d : ℕ) → c * (a * l) * d ≡ c * l * (a * d)
turn c a l d = omega arith

turn_back : (c u l t : ℕ) → c * (u * l) * t ≡ c * l * (u * t)
turn_back c u l t = omega arith

swap : (k t d : ℕ) → k * t * d ≡ k * d * t
swap k t d = omega arith

module _ (p : Precision) (k : ℕ) (e : ℤ) (less : k < most p) (is : e ≡ pos (tens k) -ℤ pos (places p)) where
  some : 0 < 10 ^ places p
  some = one-le-pow (places p) 10 (omega arith)

  test : fits p k ≡ true
  test = fits_at p (most p) k (each_fits p) less

  moved : (c : ℕ) → c * (10 ^ tens k * 2 ^ low p) * tens_down e ≡ c * (tens_up e * 2 ^ low p) * 10 ^ places p
  moved c =
      turn c (10 ^ tens k) (2 ^ low p) (tens_down e)
      ∙ ap (λ x. c * 2 ^ low p * x) (sym (tens_are e (tens k) (places p) is))
      ∙ sym (turn_back c (tens_up e) (2 ^ low p) (10 ^ places p))

  pub is_step : IsStep p k e
  unfolding fits
  is_step =
      let low_fits : 2 * (10 ^ tens k * 2 ^ low p) ≤ 2 ^ k * 10 ^ places p = leb-true _ _ (first _ _ test) in
      let high_fits : 2 ^ k * 10 ^ places p ≤ 256 * (10 ^ tens k * 2 ^ low p) = leb-true _ _ (second _ _ test) in
      let change = swap (2 ^ k) (10 ^ places p) (tens_down e) in
      record {
        twice = le_of_mul-le-mul_right
            (subst (λ x. x ≤ 2 ^ k * tens_down e * 10 ^ places p) (moved 2)
            (subst (λ x. 2 * (10 ^ tens k * 2 ^ low p) * tens_down e ≤ x) change (mul-le-mul_right (tens_down e) low_fits)))
            some;
        few = le_of_mul-le-mul_right
            (subst (λ x. 2 ^ k * tens_down e * 10 ^ places p ≤ x) (moved 256)
            (subst (λ x. x ≤ 256 * (10 ^ tens k * 2 ^ low p) * tens_down e) change (mul-le-mul_right (tens_down e) high_fits)))
            some;
      }
