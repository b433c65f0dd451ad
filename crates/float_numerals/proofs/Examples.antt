-- Numerals, the bits that they denote and the texts that are written of them, by computing.
use Rattle.std.proofs.Common.{◌≡◌, ℕ, List, refl, true, false, ℤ, pos, negsuc, codes}
use Rattle.std.specs.Prelude.{◌*◌, ◌-◌, ◌^◌, nat_lt}
use Rattle.std.specs.Float.{binary32, binary64}
use Rattle.std.specs.Fmt.{digits}
use lib.Ieee.{round, size, to_bits}
use Rattle.decimal_numerals.specs.declared.decimal.Decimal.{Decimal}
use Rattle.decimal_numerals.specs.Denoted.{denoted_bits}
use Rattle.decimal_numerals.specs.Half.{denoted_half}
use Rattle.float_numerals.specs.Texts.{double_text, half_text, single_text}

-- n * 10 ^ e, and its negative
abbrev plus : (n : ℕ) (e : ℤ) → Decimal
plus n e = record { negative = false; digits = n; exponent = e }

abbrev minus : (n : ℕ) (e : ℤ) → Decimal
minus n e = record { negative = true; digits = n; exponent = e }

-- the numeral denotes these bits, and is written so
abbrev IsSingle : Decimal → (bits : ℕ) → (text : List ℕ) → Type 0
IsSingle d bits text = (denoted_bits binary32 d ≡ bits) × (single_text d ≡ text)

abbrev IsDouble : Decimal → (bits : ℕ) → (text : List ℕ) → Type 0
IsDouble d bits text = (denoted_bits binary64 d ≡ bits) × (double_text d ≡ text)

abbrev IsHalf : Decimal → (bits : ℕ) → (text : List ℕ) → Type 0
IsHalf d bits text = (denoted_half d ≡ bits) × (half_text d ≡ text)

-- ---- `f32`: both zeros, usual numbers, powers of two
single_zero : IsSingle (plus 0 (pos 0)) 0x0000_0000 (codes "0f")
unfolding round to_bits digits
single_zero = (refl, refl)

single_minus_zero : IsSingle (minus 0 (pos 0)) 0x8000_0000 (codes "-0f")
unfolding round to_bits digits
single_minus_zero = (refl, refl)

single_half : IsSingle (plus 5 (negsuc 0)) 0x3f00_0000 (codes "0.5f")
unfolding round to_bits digits
single_half = (refl, refl)

single_one : IsSingle (plus 1 (pos 0)) 0x3f80_0000 (codes "1f")
unfolding round to_bits digits
single_one = (refl, refl)

single_tenth : IsSingle (plus 1 (negsuc 0)) 0x3dcc_cccd (codes "0.1f")
unfolding round to_bits digits
single_tenth = (refl, refl)

single_whole : IsSingle (minus 12 (pos 1)) 0xc2f0_0000 (codes "-120f")
unfolding round to_bits digits
single_whole = (refl, refl)

single_power : IsSingle (plus 16777216 (pos 0)) 0x4b80_0000 (codes "16777216f")
unfolding round to_bits digits
single_power = (refl, refl)

single_small_power : IsSingle (plus 59604645 (negsuc 14)) 0x3380_0000 (codes "0.000000059604645f")
unfolding round to_bits digits
single_small_power = (refl, refl)

-- the least, the greatest that is subnormal, the least that is normal, the greatest
single_least : IsSingle (plus 1 (negsuc 44)) 0x0000_0001 (codes "0.000000000000000000000000000000000000000000001f")
unfolding round to_bits digits
single_least = (refl, refl)

single_subnormal : IsSingle (plus 11754942 (negsuc 44)) 0x007f_ffff
    (codes "0.000000000000000000000000000000000000011754942f")
unfolding round to_bits digits
single_subnormal = (refl, refl)

single_normal : IsSingle (plus 11754944 (negsuc 44)) 0x0080_0000
    (codes "0.000000000000000000000000000000000000011754944f")
unfolding round to_bits digits
single_normal = (refl, refl)

single_greatest : IsSingle (plus 34028235 (pos 31)) 0x7f7f_ffff (codes "340282350000000000000000000000000000000f")
unfolding round to_bits digits
single_greatest = (refl, refl)

-- not above it, as the fewest digits are
single_not_above : IsSingle (plus 34028234663852885 (pos 22)) 0x7f7f_ffff
    (codes "340282346638528850000000000000000000000f")
unfolding round to_bits digits
single_not_above = (refl, refl)

greatest_is_below : nat_lt (34028234663852885 * 10 ^ 22) (2 ^ 128 - 2 ^ 104) ≡ true
greatest_is_below = refl

-- `2097152.25` is as near to `2097152.2` as to `2097152.3`, and Rust writes the second
single_tie : IsSingle (plus 20971523 (negsuc 0)) 0x4a00_0001 (codes "2097152.3f")
unfolding round to_bits digits
single_tie = (refl, refl)

single_tie_itself : denoted_bits binary32 (plus 209715225 (negsuc 1)) ≡ 0x4a00_0001
unfolding round to_bits
single_tie_itself = refl

-- ties between two floats, to the even one below and above
single_tie_down : denoted_bits binary32 (plus 16777217 (pos 0)) ≡ 0x4b80_0000
unfolding round to_bits
single_tie_down = refl

single_tie_up : denoted_bits binary32 (plus 16777219 (pos 0)) ≡ 0x4b80_0002
unfolding round to_bits
single_tie_up = refl

-- a little less and a little more than half of the least
single_half_least : denoted_bits binary32 (plus 7006492321624085 (negsuc 60)) ≡ 0x0000_0000
unfolding round to_bits
single_half_least = refl

single_more_than_half : denoted_bits binary32 (plus 7006492321624086 (negsuc 60)) ≡ 0x0000_0001
unfolding round to_bits
single_more_than_half = refl

-- too great: an infinity
single_infinity : denoted_bits binary32 (minus 1 (pos 39)) ≡ 0xff80_0000
unfolding round to_bits
single_infinity = refl

-- ---- `f64`: both zeros, usual numbers, powers of two
double_zero : IsDouble (plus 0 (pos 0)) 0 (codes "0.0lf")
unfolding round to_bits digits
double_zero = (refl, refl)

double_minus_zero : IsDouble (minus 0 (pos 0)) 0x8000_0000_0000_0000 (codes "-0.0lf")
unfolding round to_bits digits
double_minus_zero = (refl, refl)

double_one : IsDouble (plus 1 (pos 0)) 0x3ff0_0000_0000_0000 (codes "1.0lf")
unfolding round to_bits digits
double_one = (refl, refl)

double_tenth : IsDouble (plus 1 (negsuc 0)) 0x3fb9_9999_9999_999a (codes "0.1lf")
unfolding round to_bits digits
double_tenth = (refl, refl)

double_power : IsDouble (plus 9007199254740992 (pos 0)) 0x4340_0000_0000_0000 (codes "9007199254740992.0lf")
unfolding round to_bits digits
double_power = (refl, refl)

-- the last ones without an exponent, and the first ones with it
double_plain : IsDouble (plus 9999999999999998 (pos 0)) 0x4341_c379_37e0_7fff (codes "9999999999999998.0lf")
unfolding round to_bits digits
double_plain = (refl, refl)

double_scientific : IsDouble (plus 1 (pos 16)) 0x4341_c379_37e0_8000 (codes "1e16lf")
unfolding round to_bits digits
double_scientific = (refl, refl)

double_plain_small : IsDouble (plus 1 (negsuc 3)) 0x3f1a_36e2_eb1c_432d (codes "0.0001lf")
unfolding round to_bits digits
double_plain_small = (refl, refl)

double_scientific_small : IsDouble (plus 1 (negsuc 4)) 0x3ee4_f8b5_88e3_68f1 (codes "1e-5lf")
unfolding round to_bits digits
double_scientific_small = (refl, refl)

double_scientific_pointed : IsDouble (minus 15 (negsuc 5)) 0xbeef_7510_4d55_1d69 (codes "-1.5e-5lf")
unfolding round to_bits digits
double_scientific_pointed = (refl, refl)

-- the least, the greatest that is subnormal, the least that is normal, the greatest
double_least : IsDouble (plus 5 (negsuc 323)) 1 (codes "5e-324lf")
unfolding round to_bits digits
double_least = (refl, refl)

double_subnormal : IsDouble (plus 2225073858507201 (negsuc 322)) 0x000f_ffff_ffff_ffff
    (codes "2.225073858507201e-308lf")
unfolding round to_bits digits
double_subnormal = (refl, refl)

double_normal : IsDouble (plus 22250738585072014 (negsuc 323)) 0x0010_0000_0000_0000 (codes "2.2250738585072014e-308lf")
unfolding round to_bits digits
double_normal = (refl, refl)

double_greatest : IsDouble (plus 17976931348623157 (pos 292)) 0x7fef_ffff_ffff_ffff (codes "1.7976931348623157e308lf")
unfolding round to_bits digits
double_greatest = (refl, refl)

-- ties
double_tie_down : denoted_bits binary64 (plus 9007199254740993 (pos 0)) ≡ 0x4340_0000_0000_0000
unfolding round to_bits
double_tie_down = refl

double_tie_up : denoted_bits binary64 (plus 9007199254740995 (pos 0)) ≡ 0x4340_0000_0000_0002
unfolding round to_bits
double_tie_up = refl

double_infinity : denoted_bits binary64 (plus 1 (pos 309)) ≡ 0x7ff0_0000_0000_0000
unfolding round to_bits
double_infinity = refl

-- ---- `f16`: both zeros, usual numbers, powers of two
half_zero : IsHalf (plus 0 (pos 0)) 0 (codes "0h")
unfolding size digits
half_zero = (refl, refl)

half_minus_zero : IsHalf (minus 0 (pos 0)) 0x8000 (codes "-0h")
unfolding size digits
half_minus_zero = (refl, refl)

half_one : IsHalf (plus 1 (pos 0)) 0x3c00 (codes "1h")
unfolding size digits
half_one = (refl, refl)

half_whole : IsHalf (plus 12 (pos 1)) 0x5780 (codes "120h")
unfolding size digits
half_whole = (refl, refl)

half_tenth : IsHalf (plus 99975586 (negsuc 8)) 0x2e66 (codes "0.099975586h")
unfolding size digits
half_tenth = (refl, refl)

half_power : IsHalf (plus 2048 (pos 0)) 0x6800 (codes "2048h")
unfolding size digits
half_power = (refl, refl)

-- the least, the greatest that is subnormal, the least that is normal, the greatest
half_least : IsHalf (plus 59604645 (negsuc 14)) 0x0001 (codes "0.000000059604645h")
unfolding size digits
half_least = (refl, refl)

half_subnormal : IsHalf (plus 6097555 (negsuc 10)) 0x03ff (codes "0.00006097555h")
unfolding size digits
half_subnormal = (refl, refl)

half_normal : IsHalf (plus 61035156 (negsuc 11)) 0x0400 (codes "0.000061035156h")
unfolding size digits
half_normal = (refl, refl)

half_greatest : IsHalf (minus 65504 (pos 0)) 0xfbff (codes "-65504h")
unfolding size digits
half_greatest = (refl, refl)

-- ties, of which the third is 2 ^ -25, half of the least
half_tie_down : denoted_half (plus 2049 (pos 0)) ≡ 0x6800
unfolding size
half_tie_down = refl

half_tie_up : denoted_half (plus 2051 (pos 0)) ≡ 0x6802
unfolding size
half_tie_up = refl

half_half_least : denoted_half (plus 298023223876953125 (negsuc 24)) ≡ 0x0000
unfolding size
half_half_least = refl

half_more_than_half : denoted_half (plus 298023223876953126 (negsuc 24)) ≡ 0x0001
unfolding size
half_more_than_half = refl

-- the greatest number that is not too great, and the least that is
half_below_infinity : denoted_half (plus 6551999 (negsuc 1)) ≡ 0x7bff
unfolding size
half_below_infinity = refl

half_infinity : denoted_half (plus 65520 (pos 0)) ≡ 0x7c00
unfolding size
half_infinity = refl
