-- The nearest numbers of two bytes: those of numbers near to 0 and past the greatest, and that what
-- is computed has room.
use Rattle.std.proofs.Common.{◌≡◌, ℕ, zero, suc, ◌+◌, ◌*◌, ◌/◌, ◌^◌, ◌<◌, ◌≤◌, sym, ap, ◌∙◌, arith, ℤ, pos, negsuc}
use Rattle.std.proofs.Common.{min, ◌%◌, nat_abs, ◌<ℤ◌, ◌≤ℤ◌}
use lib.Dec.{ltb→lt}
use lib.Ieee.{size}
use lib.Ieee.Digits.{size_reaches, size-lt}
use lib.Ieee.Nearest.{closest, closest_mono}
use lib.Pow.{pow_mono}
use native.Mathlib.Nat.{div-eq_of_lt, le-div_iff_mul-le, div-one, mod-le, mul_comm, zero-mul}
use native.Mathlib.Nat.{pow-le-pow_right, min-eq_left, mul-le-mul, mul-le-mul_left}
use native.Mathlib.Nat.{mul-le-mul_right}
use Rattle.decimal_numerals.specs.Half.{dropped, half_of, half_size, rounded}
use Rattle.decimal_numerals.proofs.Sizes.{size_zero}

none_dropped : (n den : ℕ) → n < den → dropped n den ≡ 0
none_dropped n den less =
    let none : 0 ≡ size (n / den) = size_zero (n / den) (div-eq_of_lt less) in
    omega (arith, none)

-- what is below a third of the least number is 0
small_half : (num den : ℕ) → 0 < den → num * 2 ^ 24 * 3 ≤ den → half_size num den ≡ 0
small_half num den some small =
    let n = num * 2 ^ 24 in
    let less : n < den = omega (arith, some, small) in
    let one : dropped n den ≡ 0 = none_dropped n den less in
    let near : closest n (den * 2 ^ 0) ≤ 0 = closest_mono n (den * 2 ^ 0) 1 3 (omega (arith, some))
    (omega arith) (omega (arith, small)) in
    let is : rounded n den 0 ≡ 0 = omega (arith, near) in
    ap (λ k. min 31744 (rounded n den k)) one ∙ ap (λ r. min 31744 r) is

ten_mono : (i j : ℕ) → i ≤ j → 10 ^ i ≤ 10 ^ j
ten_mono i j h = pow-le-pow_right {n = 10} (omega arith) h

pub below : (digits : ℕ) (e : ℤ) (tens : ℕ) → tens ≡ nat_abs e → e <ℤ pos 0 → 38 < tens →
    digits < 2 ^ 64 → half_of digits e ≡ 0
below digits (pos e) tens same less many fits = absurd (omega (arith, ltb→lt e 0 less.lt))
below digits (negsuc e) tens same less many fits =
    let far : 10 ^ 39 ≤ 10 ^ suc e = ten_mono 39 (suc e) (omega (arith, same, many)) in
    small_half digits (10 ^ suc e) (omega (arith, far)) (omega (arith, far, fits))

-- what is past the greatest number
great_half : (num : ℕ) → 2 ^ 17 ≤ num → half_size num 1 ≡ 31744
great_half num great =
    let n = num * 2 ^ 24 in
    let same : n / 1 ≡ n = div-one n in
    let short : size (n / 1) ≤ 41 → ⊥ =
    λ h. (let m = pow_mono h in let s = size-lt (n / 1) in omega (arith, m, s, same, great)) in
    let far : 31744 ≤ rounded n 1 (dropped n 1) = omega (arith, short) in
    min-eq_left far

pub past : (digits : ℕ) (e : ℤ) (tens : ℕ) → tens ≡ nat_abs e → pos 0 ≤ℤ e → 5 < tens → 0 < digits →
    half_of digits e ≡ 31744
past digits (negsuc e) tens same less many some = absurd less.le
past digits (pos e) tens same less many some =
    let far : 10 ^ 6 ≤ 10 ^ e = ten_mono 6 e (omega (arith, same, many)) in
    let more : 1 * 10 ^ e ≤ digits * 10 ^ e = mul-le-mul_right (10 ^ e) some in
    great_half (digits * 10 ^ e) (omega (arith, far, more))

pub zero_half : (digits : ℕ) (e : ℤ) → pos 0 ≤ℤ e → digits ≡ 0 → half_of digits e ≡ 0
zero_half digits (pos e) h none =
    let nothing : digits * 10 ^ e ≡ 0 = ap (λ k. k * 10 ^ e) none ∙ zero-mul (10 ^ e) in
    small_half (digits * 10 ^ e) 1 (omega arith) (omega (arith, nothing))
zero_half digits (negsuc e) h none = absurd h.le

-- a unit is no greater than what is divided, or it is the divisor
unit_fits : (n den k : ℕ) → n < 2 ^ 105 → den < 2 ^ 127 → 0 < den → dropped n den ≡ k → den * 2 ^ k < 2 ^ 127
unit_fits n den zero small fits some is = omega (arith, fits)
unit_fits n den (suc k) small fits some is =
    let reached : 2 ^ (k + 11) ≤ n / den = size_reaches (n / den) (k + 11) (omega (arith, is)) in
    let low : 2 ^ (k + 11) * den ≤ n = (le-div_iff_mul-le some).0 reached in
    let fewer : 2 ^ suc k * den ≤ 2 ^ (k + 11) * den =
    mul-le-mul_right den (pow_mono {i = suc k} {j = k + 11} (omega arith)) in
    let turned : den * 2 ^ suc k ≡ 2 ^ suc k * den = mul_comm den (2 ^ suc k) in
    omega (arith, low, fewer, turned, small)

pub unit_has_room : (n den k : ℕ) → n < 2 ^ 105 → den < 2 ^ 127 → 0 < den → k ≡ dropped n den →
    den * (1 * 2 ^ k % 2 ^ 128) < 2 ^ 128
unit_has_room n den k small fits some is =
    let less : 1 * 2 ^ k % 2 ^ 128 ≤ 2 ^ k = omega (arith, mod-le (1 * 2 ^ k) (2 ^ 128)) in
    let at : den * (1 * 2 ^ k % 2 ^ 128) ≤ den * 2 ^ k = mul-le-mul_left den less in
    omega (arith, at, unit_fits n den k small fits some (sym is))

pub tens_have_room : (digits tens power : ℕ) → digits < 2 ^ 64 → tens ≤ 5 → power ≡ 10 ^ tens →
    digits * power < 2 ^ 81
tens_have_room digits tens power fits few is =
    let short : 10 ^ tens ≤ 10 ^ 5 = ten_mono tens 5 few in
    let at : digits * power ≤ 2 ^ 64 * 10 ^ 5 = mul-le-mul {n₁ = digits} {m₁ = power} {n₂ = 2 ^ 64}
    {m₂ = 10 ^ 5} (omega (arith, fits)) (omega (arith, short, is)) in
    omega (arith, at)

pub few_tens : (tens : ℕ) → tens ≤ 38 → 10 ^ tens < 2 ^ 127
few_tens tens few = (let short : 10 ^ tens ≤ 10 ^ 38 = ten_mono tens 38 few in omega (arith, short))
