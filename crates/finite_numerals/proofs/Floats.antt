-- The bits of a float that is rounded, with its sign.
use Rattle.std.proofs.Common.{◌≡◌, ℕ, ◌+◌, ◌-◌, ◌*◌, ◌/◌, ◌%◌, ◌^◌, ◌<◌, ◌≤◌, refl, sym, ap, ◌∙◌, arith, inl, inr, subst}
use Rattle.std.proofs.Common.{Bool, true, false, cond}
use Rattle.std.proofs.lemmas.Bool.{true≢false}
use Rattle.std.specs.Prelude.{T, not}
use lib.Ieee.{Float, Format, nan, inf, fin, prec, low, hid, ones, top, round, neg, of_bits, to_bits, is_nan}
use lib.Ieee.Bits.{to_bits-of_bits}
use lib.Ieee.Exact.{HasValue}
use lib.Ieee.Fits.{round_is}
use lib.Ieee.Nearest.{closest}
use native.Mathlib.Nat.{div-add-mod', eq-zero-or-pos, min-le_right, mod-lt, mul-le-mul_right}
use Rattle.fast_float.specs.Rounding.{scaled_bits}
use Rattle.fast_float.proofs.Patterns.{infinite, neg-round, of_bits-scaled_bits, of_bits_value, shape}
use Rattle.finite_numerals.proofs.Rounded.{IsRounded, dropped}

-- no NaN, and its sign is a plus
abbrev IsPlus : Float → Type 0
IsPlus nan = ⊥
IsPlus (inf s) = s ≡ false
IsPlus (fin s m e) = s ≡ false

plus_of_value : (v : Float) (a c : ℕ) → HasValue v false a c → IsPlus v
plus_of_value nan a c h = absurd h
plus_of_value (inf s) a c h = absurd h
plus_of_value (fin s m e) a c h = h.0

plus_bits : (f : Format) (b : ℕ) → b ≤ ones f * hid f → IsPlus (of_bits f b)
plus_bits f b le =
    let s = shape f in
    let some : 0 < hid f = omega arith in
    let x = b / hid f in
    let t = b % hid f in
    let whole : x * hid f + t ≡ b = div-add-mod' b (hid f) in
    let less : t < hid f = mod-lt b some in
    elim (eq-zero-or-pos (ones f - x)) [
      | inr below ↦
          subst (λ y. IsPlus (of_bits f y)) whole
          (plus_of_value _ _ _ (of_bits_value f x t (omega (arith, below)) less))
      | inl past ↦
          let reach : ones f * hid f ≤ x * hid f = mul-le-mul_right (hid f) (omega (arith, past)) in
          let same : b ≡ ones f * hid f = omega (arith, le, reach, whole) in
          subst (λ y. IsPlus (of_bits f y)) (sym same) (subst IsPlus (sym (infinite f)) refl)
    ]

no_nan : (v : Float) → IsPlus v → T (not (is_nan v))
unfolding is_nan
no_nan nan h = absurd h
no_nan (inf s) h = tt
no_nan (fin s m e) h = tt

bits_back : (f : Format) (b : ℕ) → b ≤ ones f * hid f → to_bits f (of_bits f b) ≡ b
bits_back f b le =
    let s = shape f in
    to_bits-of_bits f b (omega (arith, le)) (no_nan (of_bits f b) (plus_bits f b le))

with_minus : (f : Format) (v : Float) → IsPlus v → to_bits f (neg v) ≡ top f + to_bits f v
unfolding to_bits neg
with_minus f nan h = absurd h
with_minus f (inf true) h = absurd (true≢false h)
with_minus f (inf false) h = omega arith
with_minus f (fin true m e) h = absurd (true≢false h)
with_minus f (fin false m e) h = omega arith

module _ (f : Format) (num den : ℕ) (D : 0 < den) where
  abbrev k : ℕ
  k = dropped (prec f) (num * 2 ^ low f) den

  abbrev q : ℕ
  q = closest (num * 2 ^ low f) (den * 2 ^ k)

  -- of a number without a sign these are the bits
  plain : IsRounded (hid f) (num * 2 ^ low f) den k q → of_bits f (scaled_bits f q k) ≡ round f false num den
  plain r =
      let s = shape f in
      of_bits-scaled_bits f q k (omega (arith, r.most)) r.normal ∙ sym (round_is f false num den)

  small : scaled_bits f q k ≤ ones f * hid f
  small = min-le_right (k * hid f + q) (ones f * hid f)

  pub signed : (negative : Bool) → IsRounded (hid f) (num * 2 ^ low f) den k q →
      to_bits f (round f negative num den) ≡ cond negative (top f) 0 + scaled_bits f q k
  signed false r = ap (to_bits f) (sym (plain r)) ∙ bits_back f (scaled_bits f q k) small ∙ omega arith
  signed true r =
      ap (to_bits f) (sym (neg-round f num den) ∙ ap neg (sym (plain r)))
      ∙ with_minus f (of_bits f (scaled_bits f q k)) (plus_bits f (scaled_bits f q k) small)
      ∙ ap (λ b. top f + b) (bits_back f (scaled_bits f q k) small)
