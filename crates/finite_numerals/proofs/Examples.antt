-- Which numbers bits stand for, and how far they are from a fraction, by computing.
use Rattle.std.proofs.Common.{◌≡◌, ◌*◌, ◌^◌, refl}
use Rattle.finite_numerals.specs.Nearest.{distance_to, infinity, leading, units}
use Rattle.finite_numerals.specs.Search.{power_of_ten}
use Rattle.finite_numerals.specs.declared.precision.Precision.TheVariants.{Half, Single, Double}
use Rattle.std.specs.Prelude.{pos, negsuc}

-- ---- `f16`: 0, the least, the greatest that is subnormal, the least that is normal, 1, the greatest, and
-- what an infinity counts as
zero_half : units (leading Half) 0x0000 ≡ 0
zero_half = refl

least_half : units (leading Half) 0x0001 ≡ 1
least_half = refl

subnormal_half : units (leading Half) 0x03ff ≡ 1023
subnormal_half = refl

normal_half : units (leading Half) 0x0400 ≡ 1024
normal_half = refl

one_half : units (leading Half) 0x3c00 ≡ 2 ^ 24
one_half = refl

greatest_half : units (leading Half) 0x7bff ≡ 65504 * 2 ^ 24
greatest_half = refl

infinite_half : units (leading Half) (infinity Half) ≡ 65536 * 2 ^ 24
infinite_half = refl

-- 65520 is as far from the greatest as from what would be next, 65519 is nearer to the greatest
tie_to_infinity : distance_to Half 65520 1 0x7bff ≡ distance_to Half 65520 1 0x7c00
tie_to_infinity = refl

below_infinity : distance_to Half 65519 1 0x7bff ≡ 15 * 2 ^ 24
below_infinity = refl

past_greatest : distance_to Half 65519 1 0x7c00 ≡ 17 * 2 ^ 24
past_greatest = refl

-- 2049 is as far from 2048 as from 2050
tie_half : distance_to Half 2049 1 0x6800 ≡ distance_to Half 2049 1 0x6801
tie_half = refl

-- ---- `f32` and `f64`: 1, and a third counted in thirds
one_single : units (leading Single) 0x3f80_0000 ≡ 2 ^ 149
one_single = refl

third_single : distance_to Single 1 3 0x3eaa_aaab ≡ 2 ^ 124
third_single = refl

one_double : units (leading Double) 0x3ff0_0000_0000_0000 ≡ 2 ^ 1074
one_double = refl

-- ---- the powers of ten that are tried: of 0, of 1 and of the greatest
tried_zero : power_of_ten Half 0 ≡ negsuc 7
tried_zero = refl

tried_one : power_of_ten Single 0x3f80_0000 ≡ negsuc 8
tried_one = refl

tried_greatest : power_of_ten Double 0x7fef_ffff_ffff_ffff ≡ pos 291
tried_greatest = refl
