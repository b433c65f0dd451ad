-- Which float is nearest to the number of a numeral, told by distances alone: IEEE 754's
-- roundTiesToEven (4.3.1).
--
-- The bits of a float, without its sign, are an exponent and the binary digits behind the leading
-- one. As they are counted up from 0 the number grows, up to those of an infinity. An infinity
-- counts as the number that would be next: so what is at least half way to it is too great.
--
-- Throughout, p is a precision and d a numeral.
use Rattle.std.specs.Prelude.{◌≡◌, ◌≢◌, ◌≤◌, ℕ, zero, suc, ◌+◌, ◌*◌, ◌/◌, ◌%◌, ◌^◌, ℤ, pos, negsuc}
use Rattle.std.specs.Prelude.{if◌then◌else◌}
use Rattle.std.specs.Float.{binary32, binary64}
use Rattle.std.specs.Int.{abs_diff}
use Rattle.decimal_numerals.specs.declared.decimal.Decimal.{Decimal}
use Rattle.decimal_numerals.specs.Denoted.{denoted_bits}
use Rattle.decimal_numerals.specs.Half.{denoted_half}
use Rattle.finite_numerals.specs.declared.precision.Precision.{Precision}
use Rattle.finite_numerals.specs.declared.precision.Precision.TheVariants.{Half, Single, Double}

-- ---- what bits stand for

-- the weight of the leading digit: a float has 11, 24 or 53 binary digits
abbrev pub leading : Precision → ℕ
leading Half = 2 ^ 10
leading Single = 2 ^ 23
leading Double = 2 ^ 52

-- the least number above 0 is 2 ^ -low
abbrev pub low : Precision → ℕ
low Half = 24
low Single = 149
low Double = 1074

-- the bits of an infinity, without its sign
abbrev pub infinity : Precision → ℕ
infinity Half = 0x7c00
infinity Single = 0x7f80_0000
infinity Double = 0x7ff0_0000_0000_0000

-- the bit of the sign
abbrev pub sign_bit : Precision → ℕ
sign_bit Half = 2 ^ 15
sign_bit Single = 2 ^ 31
sign_bit Double = 2 ^ 63

-- How many times the least number above 0 it is, by its exponent and its other digits; where the
-- exponent is 0, no digit leads them. The second argument is `leading`.
abbrev pub field_units : (one : ℕ) → (exponent digits : ℕ) → ℕ
field_units one zero digits = digits
field_units one (suc e) digits = (one + digits) * 2 ^ e

abbrev pub units : (one bits : ℕ) → ℕ
units one bits = field_units one (bits / one) (bits % one)

-- ---- the number of a numeral, without its sign, as a fraction

abbrev pub tens_up : ℤ → ℕ
tens_up (pos e) = 10 ^ e
tens_up (negsuc e) = 1

abbrev pub tens_down : ℤ → ℕ
tens_down (pos e) = 1
tens_down (negsuc e) = 10 ^ suc e

-- ---- nearest

-- how far the number that these bits stand for is from a fraction, counted in its denominator's
-- parts of the least number above 0
abbrev pub distance_to : Precision → (num den : ℕ) → (bits : ℕ) → ℕ
distance_to p num den bits = abs_diff (units (leading p) bits * den) (num * 2 ^ low p)

-- No other bits are nearer to the fraction, and where others are as near, the last digit is 0.
pub record IsNearest (p : Precision) (num den : ℕ) (bits : ℕ) : Type 0 where
  pub within : bits ≤ infinity p
  pub nearest : (other : ℕ) → other ≤ infinity p →
      distance_to p num den bits ≤ distance_to p num den other
  pub even : (other : ℕ) → other ≤ infinity p → other ≢ bits →
      distance_to p num den other ≡ distance_to p num den bits → bits % 2 ≡ 0

-- the bits are a sign, and those nearest to the numeral without it
pub record IsNearestFloat (p : Precision) (d : Decimal) (bits : ℕ) : Type 0 where
  pub size : ℕ
  pub signed : bits ≡ (if d.negative then sign_bit p else 0) + size
  pub nearest : IsNearest p (d.digits * tens_up d.exponent) (tens_down d.exponent) size

-- ---- the bits that a numeral denotes

abbrev pub denoted_by : Precision → Decimal → ℕ
denoted_by Half d = denoted_half d
denoted_by Single d = denoted_bits binary32 d
denoted_by Double d = denoted_bits binary64 d
