-- Bits past those of an infinity: the infinity is nearest then.
use Rattle.std.proofs.Common.{◌≡◌, ℕ, zero, suc, ◌+◌, ◌-◌, ◌*◌, ◌^◌, ◌<◌, ◌≤◌, min, refl, sym, arith, inl, inr, subst}
use native.Mathlib.Nat.{eq-zero-or-pos, min-eq_left, min-eq_right, mul-le-mul_right, mul-lt-mul_of_pos_right}
use Rattle.finite_numerals.specs.Nearest.{IsNearest, infinity, leading, low, units}
use Rattle.finite_numerals.specs.declared.precision.Precision.{Precision}
use Rattle.finite_numerals.proofs.Neighbours.{IsBetween, no_nearer}
use Rattle.finite_numerals.proofs.Units.{mono, strict}

module _ (p : Precision) (num den bits : ℕ) (some : 0 < leading p) (D : 0 < den)
    (b : IsBetween (leading p) (num * 2 ^ low p) den bits) where
  abbrev one : ℕ
  one = leading p

  abbrev n : ℕ
  n = num * 2 ^ low p

  fits : bits ≤ infinity p → IsNearest p num den bits
  fits le = record {
    within = le;
    nearest = λ other h. (no_nearer one n den bits some D b other).further;
    even = λ other h differs e. (no_nearer one n den bits some D b other).tie differs e;
  }

  past : (a : ℕ) → a + 1 ≡ bits → infinity p ≤ a → IsNearest p num den (infinity p)
  past a at le =
      let top : units one (infinity p) * den ≤ units one a * den = mul-le-mul_right den (mono one (infinity p) a some le) in
      let less : units one a * den < units one bits * den =
      mul-lt-mul_of_pos_right (strict one a bits some (omega (arith, at))) D in
      let under : units one (infinity p) * den < n = omega (arith, top, less, b.below a at) in
      record {
        within = omega arith;
        nearest = λ other h. (
            let low : units one other * den ≤ units one (infinity p) * den =
            mul-le-mul_right den (mono one other (infinity p) some h) in
            omega (arith, low, under));
        even = λ other h differs e. (
            elim (eq-zero-or-pos (infinity p - other)) [
              | inl none ↦ absurd (differs (omega (arith, none, h)))
              | inr more ↦
                  let low : units one other * den < units one (infinity p) * den =
                  mul-lt-mul_of_pos_right (strict one other (infinity p) some (omega (arith, more))) D in
                  absurd (omega (arith, low, under, e))
            ]);
      }

  by_first : (first : ℕ) → bits ≡ first → infinity p < bits → IsNearest p num den (infinity p)
  by_first zero is less = absurd (omega (arith, is, less))
  by_first (suc a) is less = past a (omega (arith, is)) (omega (arith, is, less))

  pub cut : IsNearest p num den (min (infinity p) bits)
  cut = elim (eq-zero-or-pos (bits - infinity p)) [
    | inl le ↦ subst (IsNearest p num den) (sym (min-eq_right (omega (arith, le)))) (fits (omega (arith, le)))
    | inr more ↦ subst (IsNearest p num den) (sym (min-eq_left (omega (arith, more)))) (by_first bits refl (omega (arith, more)))
  ]
