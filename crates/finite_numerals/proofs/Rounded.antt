-- What is rounded to a float's digits: how many digits are dropped, and how near the rest is.
use Rattle.std.proofs.Common.{◌≡◌, ℕ, zero, suc, ◌+◌, ◌-◌, ◌*◌, ◌/◌, ◌%◌, ◌^◌, ◌<◌, ◌≤◌, refl, sym, ap, ◌∙◌, arith, inl, inr, subst}
use Rattle.std.specs.Prelude.{not}
use Rattle.std.proofs.Common.{add-zero}
use Prim.Native.Nat.{compare, Ordering}
use lib.Dec.{T, compare_is_eq, eqb, eqb→eq, eqb_refl, is_le, leb→le, nleb→lt}
use lib.Ieee.{nearest, size}
use lib.Ieee.Digits.{size_reaches}
use lib.Ieee.Fits.{kept-lt}
use lib.Ieee.Nearest.{closest}
use lib.Pow.{pow-add, pow_pos}
use native.Mathlib.Nat.{div-add-mod', div-div-eq-div-mul, le-div_iff_mul-le, eq-or-lt_of_le, mod-lt, mul-pos}

-- q is the whole number nearest to n / u, of two that are as near the even one
pub record IsClosest (n u q : ℕ) : Type 0 where
  pub from : n / u ≤ q
  pub to : q ≤ n / u + 1
  pub low : 2 * (q * u) ≤ 2 * n + u
  pub high : 2 * n ≤ 2 * (q * u) + u
  pub low_tie : 2 * (q * u) ≡ 2 * n + u → q % 2 ≡ 0
  pub high_tie : 2 * n ≡ 2 * (q * u) + u → q % 2 ≡ 0

-- what a comparison of whole numbers says
abbrev Tells : Ordering → (a b : ℕ) → Type 0
Tells Ordering.lt a b = a < b
Tells Ordering.eq a b = a ≡ b
Tells Ordering.gt a b = b < a

tells : (a b : ℕ) → Tells (compare a b) a b
tells a b =
    go (compare a b) (leb→le a b) (nleb→lt a b) (eqb→eq a b)
    (λ (e : a ≡ b). subst (λ (x : ℕ). T (eqb a x)) e (eqb_refl a))
  where
    go : (o : Ordering) → (T (is_le o) → a ≤ b) → (T (not (is_le o)) → b < a) → (T (compare_is_eq o) → a ≡ b) →
        (a ≡ b → T (compare_is_eq o)) → Tells o a b
    go Ordering.lt h k e n = elim (eq-or-lt_of_le (h tt)) [ inl same ↦ absurd (n same) | inr less ↦ less ]
    go Ordering.eq h k e n = e tt
    go Ordering.gt h k e n = k tt

-- by how the rest compares with its half
by_half : (n u w r : ℕ) (o : Ordering) → 0 < u → n / u ≡ w → n ≡ w * u + r → r < u → Tells o (r * 2) u →
    IsClosest n u (nearest w o)
by_half n u w r Ordering.lt some at is below less = record {
  from = omega (arith, at);
  to = omega (arith, at);
  low = omega (arith, is);
  high = omega (arith, is, less);
  low_tie = λ e. absurd (omega (arith, e, is, some));
  high_tie = λ e. absurd (omega (arith, e, is, less));
}
by_half n u w r Ordering.gt some at is below more =
    let up : suc w * u ≡ w * u + u = omega arith in
    record {
      from = omega (arith, at);
      to = omega (arith, at);
      low = omega (arith, is, more, up);
      high = omega (arith, is, below, up);
      low_tie = λ e. absurd (omega (arith, e, is, more, up));
      high_tie = λ e. absurd (omega (arith, e, is, below, up));
    }
by_half n u w r Ordering.eq some at is below tie = by_parity (w % 2) refl
  where
    by_parity : (odd : ℕ) → w % 2 ≡ odd → IsClosest n u (w + odd)
    by_parity zero even = record {
      from = omega (arith, at);
      to = omega (arith, at);
      low = omega (arith, is, tie, ap (λ x. x * u) (add-zero w));
      high = omega (arith, is, tie, ap (λ x. x * u) (add-zero w));
      low_tie = λ e. omega (arith, even);
      high_tie = λ e. omega (arith, even);
    }
    by_parity (suc zero) odd = record {
      from = omega (arith, at);
      to = omega (arith, at);
      low = omega (arith, is, tie);
      high = omega (arith, is, tie);
      low_tie = λ e. omega (arith, odd);
      high_tie = λ e. omega (arith, odd);
    }
    by_parity (suc (suc more)) none = absurd (omega (arith, none))

pub closest_is : (n u : ℕ) → 0 < u → IsClosest n u (closest n u)
closest_is n u some =
    let whole : n / u * u + n % u ≡ n = div-add-mod' n u in
    by_half n u (n / u) (n % u) (compare (n % u * 2) u) some refl (sym whole) (mod-lt n some) (tells (n % u * 2) u)

-- n / den keeps the digits of a float after k digits are dropped, and q of them are left
pub record IsRounded (one n den k q : ℕ) : Type 0 where
  pub normal : 0 < k → one ≤ q
  pub kept : 0 < k → one * (den * 2 ^ k) ≤ n
  pub most : q ≤ 2 * one
  pub closest : IsClosest n (den * 2 ^ k) q

abbrev pub dropped : (digits n den : ℕ) → ℕ
dropped digits n den = size (n / den) - digits

regroup : (a b d : ℕ) → a * (d * b) ≡ a * b * d
regroup a b d = omega arith

pub rounded : (p n den : ℕ) → 0 < den →
    IsRounded (2 ^ p) n den (dropped (p + 1) n den) (closest n (den * 2 ^ dropped (p + 1) n den))
rounded p n den some =
    let k = dropped (p + 1) n den in
    let u = den * 2 ^ k in
    let some_u : 0 < u = mul-pos some (pow_pos k) in
    let c = closest_is n u some_u in
    let keeps : 0 < k → 2 ^ p * u ≤ n = λ h. (
    let reached : 2 ^ (p + k) ≤ n / den = size_reaches (n / den) (p + k) (omega (arith, h)) in
    let low : 2 ^ (p + k) * den ≤ n = (le-div_iff_mul-le some).0 reached in
    let same : 2 ^ p * (den * 2 ^ k) ≡ 2 ^ (p + k) * den =
    regroup (2 ^ p) (2 ^ k) den ∙ ap (λ x. x * den) (sym (pow-add 2 p k)) in
    omega (arith, low, same)) in
    let less : n / u < 2 ^ (p + 1) = subst (λ x. x < 2 ^ (p + 1)) (div-div-eq-div-mul n den (2 ^ k)) (kept-lt (p + 1) (n / den)) in
    let twice : 2 ^ (p + 1) ≡ 2 * 2 ^ p = omega (arith, pow-add 2 p 1) in
    record {
      normal = λ h. omega (arith, c.from, (le-div_iff_mul-le some_u).1 (keeps h));
      kept = keeps;
      most = omega (arith, less, twice, c.to);
      closest = c;
    }
