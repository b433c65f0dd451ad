-- The bits of the number of two bytes (IEEE 754's binary16, WGSL's `f16`) that a decimal numeral
-- denotes. It is the nearest one, as in `Denoted`.
--
-- Such a number has eleven binary digits, and the least one above 0 is 2 ^ -24. As its bits are
-- counted up from 0, it grows. From 31744 on, which is the bits of an infinity, there is no number.
--
-- Throughout, num / den is a fraction and d a numeral.
use Rattle.std.specs.Prelude.{ℕ, suc, ◌+◌, ◌-◌, ◌*◌, ◌/◌, ◌^◌, ℤ, pos, negsuc, if◌then◌else◌}
use Rattle.std.specs.Prelude.{Bool, ◌&&◌, nat_lt, List, ◌++◌, length, min}
use Rattle.std.specs.Str.Parse.{digits_value}
use lib.Ieee.{size}
use lib.Ieee.Nearest.{closest}
use Rattle.decimal_numerals.specs.declared.decimal.Decimal.{Decimal}
use Rattle.decimal_numerals.specs.Denoted.{is_in_range}

-- how many binary digits of the whole part there are too many
abbrev pub dropped : (num den : ℕ) → ℕ
dropped num den = size (num / den) - 11

-- Of num / den, counted in the least numbers: without the last k binary digits, rounded to the
-- nearest, of two that are as near to the even one. Each digit that is dropped goes up by one step
-- of the exponent, which is 1024 in the bits.
abbrev pub rounded : (num den k : ℕ) → ℕ
rounded num den k = k * 1024 + closest num (den * 2 ^ k)

-- the bits of the number nearest to num / den, without a sign
abbrev pub half_size : (num den : ℕ) → ℕ
half_size num den =
    min 31744 (rounded (num * 2 ^ 24) den (dropped (num * 2 ^ 24) den))

-- the same of digits * 10 ^ exponent
abbrev pub half_of : (digits : ℕ) (exponent : ℤ) → ℕ
half_of digits (pos e) = half_size (digits * 10 ^ e) 1
half_of digits (negsuc e) = half_size digits (10 ^ suc e)

-- the bits with the sign
abbrev pub denoted_half : Decimal → ℕ
denoted_half d = (if d.negative then 32768 else 0) + half_of d.digits d.exponent

-- it is in range, and denotes an `f16` that is no infinity
abbrev pub is_finite_half : Decimal → Bool
is_finite_half d = is_in_range d && nat_lt (half_of d.digits d.exponent) 31744

-- the bits that digits before a point and after it give
abbrev pub decimal_half : Bool → (whole fraction : List ℕ) → ℕ
decimal_half negative whole fraction =
    (if negative then 32768 else 0) +
    half_size (digits_value 10 (whole ++ fraction)) (10 ^ length fraction)
