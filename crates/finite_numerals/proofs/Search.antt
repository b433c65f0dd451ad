-- The least digits that reach a float denote it.
use Rattle.std.proofs.Common.{◌≡◌, ℕ, zero, suc, ◌+◌, ◌-◌, ◌*◌, ◌^◌, ◌<◌, ◌≤◌, refl, sym, ap, ◌∙◌, arith, inl, inr, subst}
use Rattle.std.proofs.Common.{Bool, true, false, cond, not, ◌&&◌, ◌||◌, ◌==◌, nat_lt, ℤ, pos, negsuc, ◌-ℤ◌}
use Rattle.std.specs.Prelude.{IsTrue}
use Rattle.std.specs.Int.{abs_diff}
use Rattle.std.proofs.lemmas.Bool.{eqb-true, lt-ltb}
use Rattle.std.proofs.lemmas.Int.{ints}
use lib.Dec.{lit<}
use lib.Pow.{pow_pos}
use native.Mathlib.Nat.{eq-zero-or-pos, mul-le-mul_right, mul-lt-mul_of_pos_right, mul-pos, zero-mul}
use Rattle.decimal_numerals.specs.Denoted.{is_in_range}
use Rattle.finite_numerals.specs.Nearest.{denoted_by, infinity, leading, low, sign_bit, tens_down, tens_up, units}
use Rattle.finite_numerals.specs.Search.{AreLeastDigits, places, power_of_ten, unsigned}
use Rattle.finite_numerals.specs.declared.precision.Precision.{Precision}
use Rattle.finite_numerals.specs.declared.precision.Precision.TheVariants.{Half, Single, Double}
use Rattle.finite_numerals.proofs.Sizes.{denoted_is, down_pos, nearest_size, size_at}
use Rattle.finite_numerals.proofs.Steps.{IsStep, is_step, most, tens}
use Rattle.finite_numerals.proofs.Units.{IsSplit, mono, split, step_is, strict, units_at}

leading_pos : (p : Precision) → 0 < leading p
leading_pos Half = lit< tt
leading_pos Single = lit< tt
leading_pos Double = lit< tt

-- a number is less than half way from x to what is a gap above, and no less far from that
clash : (far x n gap : ℕ) → 0 < gap → x + gap ≤ far → 2 * n < 2 * x + gap → abs_diff far n ≤ abs_diff x n → ⊥
clash far x n gap some above near further = omega (arith, some, above, near, further)

module _ (p : Precision) (size : ℕ) (e : ℤ) (finite : size < infinity p) where
  abbrev one : ℕ
  one = leading p

  abbrev at : ℕ
  at = units one size * tens_down e

  abbrev number : ℕ → ℕ
  number digits = digits * tens_up e * 2 ^ low p

  abbrev found : ℕ → ℕ
  found digits = size_at p (digits * tens_up e) (tens_down e)

  no_further : (digits : ℕ) → abs_diff (units one (found digits) * tens_down e) (number digits) ≤ abs_diff at (number digits)
  no_further digits =
      (nearest_size p (digits * tens_up e) (tens_down e) (down_pos e)).nearest size (omega (arith, finite))

  -- what is no less denotes no less
  pub at_least : (digits : ℕ) → at ≤ number digits → size ≤ found digits
  at_least digits reached = elim (eq-zero-or-pos (size - found digits)) [
    | inl none ↦ omega (arith, none)
    | inr more ↦
        let less : units one (found digits) * tens_down e < at =
        mul-lt-mul_of_pos_right (strict one (found digits) size (leading_pos p) (omega (arith, more))) (down_pos e) in
        absurd (omega (arith, less, reached, no_further digits))
  ]

  module _ (k q : ℕ) (s : IsSplit one size k q) where
    abbrev gap : ℕ
    gap = 2 ^ k * tens_down e

    pub some_gap : 0 < gap
    some_gap = mul-pos (pow_pos k) (down_pos e)

    -- what is less than half way to the next denotes no more
    pub at_most : (digits : ℕ) → 2 * number digits < 2 * at + gap → found digits ≤ size
    at_most digits near = elim (eq-zero-or-pos (found digits - size)) [
      | inl none ↦ omega (arith, none)
      | inr more ↦
          let next : units one (size + 1) * tens_down e ≤ units one (found digits) * tens_down e =
          mul-le-mul_right (tens_down e) (mono one (size + 1) (found digits) (leading_pos p) (omega (arith, more))) in
          let above : units one (size + 1) * tens_down e ≡ at + gap =
          ap (λ u. u * tens_down e) (step_is one size k q (leading_pos p) s) ∙ omega arith in
          absurd (clash (units one (found digits) * tens_down e) at (number digits) gap some_gap (omega (arith, next, above)) near (no_further digits))
    ]

    module _ (step : IsStep p k e) where
      grown : (fewer : ℕ) → number (fewer + 1) ≡ number fewer + tens_up e * 2 ^ low p
      grown fewer = omega arith

      -- the digits that are tried at most reach it
      pub reached : q < 2 ^ 53 + 1 → at ≤ number (2 ^ 61)
      reached few =
          let is : at ≡ q * gap =
          ap (λ b. units one b * tens_down e) s.is
          ∙ ap (λ u. u * tens_down e) (units_at one k q (leading_pos p) (omega (arith, s.below)) s.normal) ∙ omega arith in
          let wide : q * gap ≤ 2 ^ 53 * gap = mul-le-mul_right gap (omega (arith, few)) in
          omega (arith, is, wide, step.few)

      by_first : (digits first : ℕ) → digits ≡ first →
          ((fewer : ℕ) → fewer + 1 ≡ digits → found fewer < size) → found digits ≤ size
      by_first digits zero is least =
          at_most digits (let none : number digits ≡ 0 = (
          ap (λ d. d * tens_up e * 2 ^ low p) is ∙ ap (λ d. d * 2 ^ low p) (zero-mul (tens_up e)) ∙ zero-mul (2 ^ low p)) in
          omega (arith, none, some_gap))
      by_first digits (suc fewer) is least =
          let below : found fewer < size = least fewer (omega (arith, is)) in
          elim (eq-zero-or-pos (at - number fewer)) [
            | inl none ↦ absurd (omega (arith, below, at_least fewer (omega (arith, none))))
            | inr under ↦
                let up : number digits ≡ number fewer + tens_up e * 2 ^ low p =
                ap number {x = digits} {y = fewer + 1} (omega (arith, is)) ∙ grown fewer in
                at_most digits (omega (arith, up, under, step.twice))
          ]

      pub is_found : (digits : ℕ) → size ≤ found digits →
          ((fewer : ℕ) → fewer + 1 ≡ digits → found fewer < size) → found digits ≡ size
      is_found digits reach least = omega (arith, reach, by_first digits digits refl least)

-- ---- of the bits of a finite float

plain : (p : Precision) (digits : ℕ) (e : ℤ) → denoted_by p (unsigned digits e) ≡ size_at p (digits * tens_up e) (tens_down e)
plain p digits e = denoted_is p (unsigned digits e) ∙ omega arith

few_steps : (p : Precision) (size k q : ℕ) → size < infinity p → IsSplit (leading p) size k q → k < most p
few_steps Half size k q finite s = omega (arith, s.is, finite, s.normal)
few_steps Single size k q finite s = omega (arith, s.is, finite, s.normal)
few_steps Double size k q finite s = omega (arith, s.is, finite, s.normal)

few_digits : (p : Precision) (size k q : ℕ) → IsSplit (leading p) size k q → q < 2 ^ 53 + 1
few_digits Half size k q s = omega (arith, s.below)
few_digits Single size k q s = omega (arith, s.below)
few_digits Double size k q s = omega (arith, s.below)

module _ (p : Precision) (size : ℕ) (e : ℤ) (finite : size < infinity p) (is : e ≡ power_of_ten p size) where
  abbrev k : ℕ
  k = (split (leading p) size (leading_pos p)).0

  abbrev q : ℕ
  q = (split (leading p) size (leading_pos p)).1

  parts : IsSplit (leading p) size k q
  parts = (split (leading p) size (leading_pos p)).2

  power_is : e ≡ pos (tens k) -ℤ pos (places p)
  power_is = is ∙ ap (λ j. pos (tens j) -ℤ pos (places p)) (sym parts.steps)

  step : IsStep p k e
  step = is_step p k e (few_steps p size k q finite parts) power_is

  pub most_reach : size ≤ denoted_by p (unsigned (2 ^ 61) e)
  most_reach = subst (λ b. size ≤ b) (sym (plain p (2 ^ 61) e))
      (at_least p size e finite (2 ^ 61) (reached p size e finite k q parts step (few_digits p size k q parts)))

  pub least_denote : (digits : ℕ) → AreLeastDigits p size e digits → size_at p (digits * tens_up e) (tens_down e) ≡ size
  least_denote digits least =
      is_found p size e finite k q parts step digits (subst (λ b. size ≤ b) (plain p digits e) least.reach)
      (λ fewer before. subst (λ b. b < size) (plain p fewer e) (least.least fewer before))

  pub signed_denote : (negative : Bool) (digits : ℕ) → AreLeastDigits p size e digits →
      denoted_by p (record { negative = negative; digits = digits; exponent = e }) ≡ cond negative (sign_bit p) 0 + size
  signed_denote negative digits least =
      denoted_is p (record { negative = negative; digits = digits; exponent = e })
      ∙ ap (λ b. cond negative (sign_bit p) 0 + b) (least_denote digits least)

  -- a power of ten that isn't negative is of a float that is not 0
  above_zero : (n : ℕ) → e ≡ pos n → 0 < size
  above_zero n same =
      let sum : n + places p ≡ tens k = omega (arith, ints, sym same ∙ power_is) in
      elim (eq-zero-or-pos k) [
        | inl none ↦ absurd (too_few p k n none sum)
        | inr g ↦ omega (arith, parts.is, parts.normal g, leading_pos p)
      ]
    where
      too_few : (p : Precision) (k n : ℕ) → k ≡ 0 → n + places p ≡ tens k → ⊥
      too_few Half k n none sum = omega (arith, none, sum)
      too_few Single k n none sum = omega (arith, none, sum)
      too_few Double k n none sum = omega (arith, none, sum)

  some_digits : 0 < size → (digits : ℕ) → AreLeastDigits p size e digits → digits ≡ 0 → ⊥
  some_digits more digits least none =
      let zero_split = split (leading p) 0 (leading_pos p) in
      let some_infinity : 0 < infinity p = omega (arith, finite) in
      let nothing : 0 * tens_up e * 2 ^ low p ≡ 0 = ap (λ d. d * 2 ^ low p) (zero-mul (tens_up e)) ∙ zero-mul (2 ^ low p) in
      let least_found : size_at p (0 * tens_up e) (tens_down e) ≤ 0 =
      at_most p 0 e some_infinity zero_split.0 zero_split.1 zero_split.2 0
      (omega (arith, nothing, some_gap p 0 e some_infinity zero_split.0 zero_split.1 zero_split.2)) in
      let same : size_at p (0 * tens_up e) (tens_down e) ≡ size =
      ap (λ d. size_at p (d * tens_up e) (tens_down e)) (sym none) ∙ least_denote digits least in
      omega (arith, least_found, same, more)

  near_power : (p : Precision) (k n : ℕ) → k < most p → n + places p ≡ tens k → n < 400
  near_power Half k n less sum = omega (arith, less, sum)
  near_power Single k n less sum = omega (arith, less, sum)
  near_power Double k n less sum = omega (arith, less, sum)

  near_fraction : (p : Precision) (a n : ℕ) → a + suc n ≡ places p → n < 400
  near_fraction Half a n sum = omega (arith, sum)
  near_fraction Single a n sum = omega (arith, sum)
  near_fraction Double a n sum = omega (arith, sum)

  pub in_range : (negative : Bool) (digits : ℕ) → AreLeastDigits p size e digits →
      IsTrue (is_in_range (record { negative = negative; digits = digits; exponent = e }))
  in_range negative digits least = by e refl
    where
      short : nat_lt digits (2 ^ 64) ≡ true
      short = lt-ltb digits (2 ^ 64) (omega (arith, least.few))

      all : (a b c : Bool) → a ≡ true → b ≡ true → c ≡ true → IsTrue (a && (b && c))
      all a b c x y z = (λ i. x i && (y i && z i))

      plain_digits : (d n : ℕ) → (d ≡ 0 → ⊥) → (not (d == 0) || (n == 0)) ≡ true
      plain_digits d n some = tested (d == 0) refl
        where
          tested : (b : Bool) → (d == 0) ≡ b → (not b || (n == 0)) ≡ true
          tested true is = absurd (some (eqb-true d 0 is))
          tested false is = refl

      by : (x : ℤ) → e ≡ x → IsTrue (is_in_range (record { negative = negative; digits = digits; exponent = x }))
      by (pos n) same =
          all (nat_lt digits (2 ^ 64)) (nat_lt n 400) (not (digits == 0) || (n == 0)) short
          (lt-ltb n 400 (near_power p k n (few_steps p size k q finite parts) (omega (arith, ints, sym same ∙ power_is))))
          (plain_digits digits n (some_digits (above_zero n same) digits least))
      by (negsuc n) same =
          all (nat_lt digits (2 ^ 64)) (nat_lt n 400) true short
          (lt-ltb n 400 (near_fraction p (tens k) n (omega (arith, ints, sym same ∙ power_is)))) refl
