-- What a decimal numeral denotes: the float that is nearest to its number, and of two that are as
-- near the one whose last binary digit is 0, as IEEE 754 rounds if nothing else is asked
-- (roundTiesToEven). The standard library's `round` computes it over whole numbers alone.
--
-- Throughout, f is a format (binary32 or binary64), d a numeral, and e a power of ten.
use Rattle.std.specs.Prelude.{ℕ, suc, ◌+◌, ◌*◌, ◌%◌, ◌^◌, Bool, true, not, ◌&&◌, ◌||◌, ◌==◌, nat_lt}
use Rattle.std.specs.Prelude.{ℤ, pos, negsuc}
use Rattle.std.specs.Prelude.{List, ◌++◌, length, to_bits}
use Rattle.std.specs.Float.{Float, Format, binary32, binary64}
use Rattle.std.specs.Float.Ieee.{round}
use Rattle.std.specs.Str.Parse.{digits_value}
use Rattle.fast_float.specs.Rounding.{nearest_to_decimal}
use Rattle.decimal_numerals.specs.declared.decimal.Decimal.{Decimal}

-- the float nearest to digits * 10 ^ exponent, an infinity where that is too great
abbrev pub denoted : Format → Decimal → Float
denoted f d = nearest_to_decimal f d.negative d.digits d.exponent

-- its bits
abbrev pub denoted_bits : Format → Decimal → ℕ
denoted_bits f d = to_bits f (denoted f d)

-- ---- which numerals are in range, and finite

-- The power of ten is near enough to 0 that a text of it isn't long. All floats of eight bytes have
-- numerals that are, and with 64 bits of digits the numbers beyond are 0 or too great.
abbrev pub has_near_power : ℤ → Bool
has_near_power (pos e) = nat_lt e 400
has_near_power (negsuc e) = nat_lt e 400

-- The digit 0 has no zeros after it, as a positive power of ten would have it written: no numeral
-- of WGSL begins so (the specification, "Numeric Literals").
abbrev pub has_plain_zero : (digits : ℕ) → ℤ → Bool
has_plain_zero digits (pos e) = not (digits == 0) || (e == 0)
has_plain_zero digits (negsuc e) = true

-- the digits have 64 bits, the power of ten is near, and zero is plain
abbrev pub is_in_range : Decimal → Bool
is_in_range d =
    nat_lt d.digits (2 ^ 64) && (has_near_power d.exponent && has_plain_zero d.digits d.exponent)

-- it is in range, and denotes an `f32` that is no infinity: without its sign, its bits are below
-- those of an infinity
abbrev pub is_finite_single : Decimal → Bool
is_finite_single d = is_in_range d && nat_lt (denoted_bits binary32 d % 2 ^ 31) 0x7f80_0000

-- the same of an `f64`
abbrev pub is_finite_double : Decimal → Bool
is_finite_double d =
    is_in_range d && nat_lt (denoted_bits binary64 d % 2 ^ 63) 0x7ff0_0000_0000_0000

-- ---- decimal, as in a text: by a sign, digits before a point and after it, and an exponent, which
-- is 0 where none is written (the WGSL specification, "Numeric Literals")

-- the float nearest to the number that they give
abbrev pub decimal_float : Format → Bool → (whole fraction : List ℕ) → (e : ℤ) → Float
decimal_float f negative whole fraction (pos e) =
    round f negative (digits_value 10 (whole ++ fraction) * 10 ^ e) (10 ^ length fraction)
decimal_float f negative whole fraction (negsuc e) =
    round f negative (digits_value 10 (whole ++ fraction)) (10 ^ (length fraction + suc e))

-- its bits
abbrev pub decimal_bits : Format → Bool → (whole fraction : List ℕ) → (e : ℤ) → ℕ
decimal_bits f negative whole fraction e = to_bits f (decimal_float f negative whole fraction e)
