-- A rounded number lies between the points half way to its neighbours, and so no other is nearer.
use Rattle.std.proofs.Common.{◌≡◌, ℕ, zero, suc, ◌+◌, ◌-◌, ◌*◌, ◌%◌, ◌^◌, ◌<◌, ◌≤◌, refl, ap, ◌∙◌, arith, inl, inr}
use Rattle.std.specs.Prelude.{◌≢◌}
use Rattle.std.specs.Int.{abs_diff}
use native.Mathlib.Nat.{eq-zero-or-pos, mul-le-mul_right, mul-lt-mul_of_pos_right, pow-suc, zero-mul}
use Rattle.finite_numerals.specs.Nearest.{units}
use Rattle.finite_numerals.proofs.Rounded.{IsRounded}
use Rattle.finite_numerals.proofs.Units.{grows, mono, strict, units_at}

pub record IsBetween (one n den bits : ℕ) : Type 0 where
  pub above : 2 * n ≤ units one bits * den + units one (bits + 1) * den
  pub above_tie : 2 * n ≡ units one bits * den + units one (bits + 1) * den → bits % 2 ≡ 0
  pub below : (a : ℕ) → a + 1 ≡ bits → units one a * den + units one bits * den ≤ 2 * n
  pub below_tie : (a : ℕ) → a + 1 ≡ bits → units one a * den + units one bits * den ≡ 2 * n → bits % 2 ≡ 0

module _ (half n den k q bits : ℕ) (some : 0 < half) (D : 0 < den) (is : bits ≡ k * (2 * half) + q)
    (r : IsRounded (2 * half) n den k q) where
  abbrev one : ℕ
  one = 2 * half

  here : units one bits * den ≡ q * (den * 2 ^ k)
  here = ap (λ b. units one b * den) is ∙ ap (λ a. a * den) (units_at one k q (omega (arith, some)) r.most r.normal) ∙ omega arith

  even : q % 2 ≡ 0 → bits % 2 ≡ 0
  even h = (let twice : k * (2 * half) ≡ 2 * (k * half) = omega arith in omega (arith, is, twice, h))

  -- the next number is a unit above, or two
  next : q * (den * 2 ^ k) + den * 2 ^ k ≤ units one (bits + 1) * den
  next = elim (eq-zero-or-pos (2 * one - q)) [
    | inr less ↦
        let at : units one (bits + 1) ≡ (q + 1) * 2 ^ k =
        ap (units one) {x = bits + 1} {y = k * one + (q + 1)} (omega (arith, is))
        ∙ units_at one k (q + 1) (omega (arith, some)) (omega (arith, less)) (λ h. omega (arith, r.normal h)) in
        let times : units one (bits + 1) * den ≡ (q + 1) * 2 ^ k * den = ap (λ a. a * den) at in
        omega (arith, times)
    | inl full ↦
        let top : q ≡ 2 * one = omega (arith, full, r.most) in
        let at : units one (bits + 1) ≡ (one + 1) * 2 ^ suc k =
        ap (units one) {x = bits + 1} {y = suc k * one + (one + 1)} (omega (arith, is, top))
        ∙ units_at one (suc k) (one + 1) (omega (arith, some)) (omega (arith, some)) (λ h. omega arith) in
        let wide : (one + 1) * 2 ^ suc k * den ≡ (2 * one + 2) * (den * 2 ^ k) =
        ap (λ a. (one + 1) * a * den) (pow-suc 2 k) ∙ omega arith in
        let times : units one (bits + 1) * den ≡ (2 * one + 2) * (den * 2 ^ k) = ap (λ a. a * den) at ∙ wide in
        let same : q * (den * 2 ^ k) ≡ 2 * one * (den * 2 ^ k) = ap (λ a. a * (den * 2 ^ k)) top in
        omega (arith, times, same)
  ]

  pub record IsUnder (a : ℕ) : Type 0 where
    pub low : units one a * den + units one bits * den ≤ 2 * n
    pub tie : units one a * den + units one bits * den ≡ 2 * n → bits % 2 ≡ 0

  -- where the number before is a unit below
  unit_under : (a p : ℕ) → a + 1 ≡ bits → q ≡ suc p → (0 < k → one ≤ p) → IsUnder a
  unit_under a p before at normal =
      let under : units one a * den ≡ p * (den * 2 ^ k) =
      ap (λ b. units one b * den) {x = a} {y = k * one + p} (omega (arith, is, before, at))
      ∙ ap (λ b. b * den) (units_at one k p (omega (arith, some)) (omega (arith, at, r.most)) normal) ∙ omega arith in
      let up : q * (den * 2 ^ k) ≡ p * (den * 2 ^ k) + den * 2 ^ k = ap (λ b. b * (den * 2 ^ k)) at ∙ omega arith in
      record {
        low = omega (arith, under, here, up, r.closest.low);
        tie = λ e. even (r.closest.low_tie (omega (arith, e, under, here, up)));
      }

  by_digits : (a p : ℕ) → a + 1 ≡ bits → q ≡ p → IsUnder a
  by_digits a zero before at =
      elim (eq-zero-or-pos k) [
        | inl z ↦ absurd (let none : k * one ≡ 0 = ap (λ j. j * one) z ∙ zero-mul one in omega (arith, none, is, at, before))
        | inr g ↦ absurd (omega (arith, r.normal g, at, some))
      ]
  by_digits a (suc p) before at =
      elim (eq-zero-or-pos k) [
        | inl z ↦ unit_under a p before at (λ h. absurd (omega (arith, h, z)))
        | inr g ↦ elim (eq-zero-or-pos (one - p)) [
          | inl past ↦ unit_under a p before at (λ h. omega (arith, past))
          | inr first ↦
              let least : q ≡ one = omega (arith, r.normal g, first, at) in
              let low : q * (den * 2 ^ k) ≤ n = (
              let same : q * (den * 2 ^ k) ≡ one * (den * 2 ^ k) = ap (λ b. b * (den * 2 ^ k)) least in
              omega (arith, same, r.kept g)) in
              let less : units one a < units one bits = strict one a bits (omega (arith, some)) (omega (arith, before)) in
              let times : units one a * den < units one bits * den = mul-lt-mul_of_pos_right less D in
              record {
                low = omega (arith, times, low, here);
                tie = λ e. absurd (omega (arith, e, times, low, here));
              }
        ]
      ]

  pub between : IsBetween one n den bits
  between = record {
    above = omega (arith, here, next, r.closest.high);
    above_tie = λ e. even (r.closest.high_tie (omega (arith, e, here, next, r.closest.high)));
    below = λ a before. (by_digits a q before refl).low;
    below_tie = λ a before e. (by_digits a q before refl).tie e;
  }

-- ---- no other is nearer

module _ (one n den bits : ℕ) (some : 0 < one) (D : 0 < den) (b : IsBetween one n den bits) where
  abbrev far : ℕ → ℕ
  far c = abs_diff (units one c * den) n

  pub record IsFurther (c : ℕ) : Type 0 where
    pub further : far bits ≤ far c
    pub tie : c ≢ bits → far c ≡ far bits → bits % 2 ≡ 0

  before : (a c : ℕ) → a + 1 ≡ bits → c ≤ a → IsFurther c
  before a c at le =
      let low : units one c * den ≤ units one a * den = mul-le-mul_right den (mono one c a some le) in
      let less : units one a * den < units one bits * den =
      mul-lt-mul_of_pos_right (strict one a bits some (omega (arith, at))) D in
      record {
        further = omega (arith, low, less, b.below a at);
        tie = λ other e. b.below_tie a at (omega (arith, low, less, b.below a at, e));
      }

  after : (c : ℕ) → bits + 1 ≤ c → IsFurther c
  after c le =
      let high : units one (bits + 1) * den ≤ units one c * den = mul-le-mul_right den (mono one (bits + 1) c some le) in
      let more : units one bits * den < units one (bits + 1) * den =
      mul-lt-mul_of_pos_right (grows one bits some) D in
      record {
        further = omega (arith, high, more, b.above);
        tie = λ other e. b.above_tie (omega (arith, high, more, b.above, e));
      }

  by_first : (c first : ℕ) → bits ≡ first → c < bits → IsFurther c
  by_first c zero is less = absurd (omega (arith, is, less))
  by_first c (suc a) is less = before a c (omega (arith, is)) (omega (arith, is, less))

  pub no_nearer : (c : ℕ) → IsFurther c
  no_nearer c = elim (eq-zero-or-pos (bits - c)) [
    | inr less ↦ by_first c bits refl (omega (arith, less))
    | inl le ↦ elim (eq-zero-or-pos (c - bits)) [
      | inr more ↦ after c (omega (arith, more))
      | inl ge ↦
          let same : c ≡ bits = omega (arith, le, ge) in
          record { further = omega (arith, ap far same); tie = λ other e. absurd (other same) }
    ]
  ]
