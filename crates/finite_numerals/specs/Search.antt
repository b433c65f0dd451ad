-- What the search for a numeral knows of it: that its digits are the least that denote a float, or a
-- greater one.
--
-- Throughout, p is a precision, size are the bits of a float without its sign, and e is the power of
-- ten of the numerals that are tried.
use Rattle.std.specs.Prelude.{◌≡◌, ℕ, ◌+◌, ◌*◌, ◌/◌, ◌-◌, ◌^◌, ◌<◌, ◌≤◌, ◌-ℤ◌, ℤ, pos, false}
use Rattle.decimal_numerals.specs.declared.decimal.Decimal.{Decimal}
use Rattle.finite_numerals.specs.Nearest.{denoted_by, leading}
use Rattle.finite_numerals.specs.declared.precision.Precision.{Precision}
use Rattle.finite_numerals.specs.declared.precision.Precision.TheVariants.{Half, Single, Double}

-- digits * 10 ^ e
abbrev pub unsigned : (digits : ℕ) (e : ℤ) → Decimal
unsigned digits e = record { negative = false; digits = digits; exponent = e }

-- How many steps of the exponent there are up to these bits: the next float is 2 ^ steps times the
-- least number above.
abbrev pub steps : Precision → (size : ℕ) → ℕ
steps p size = size / leading p - 1

-- The least float of all is above twice 10 to the power of minus this.
abbrev pub places : Precision → ℕ
places Half = 8
places Single = 46
places Double = 324

-- A power of ten of which the next float is at least two above, and at most 256. The fraction
-- is log10 2, a little below it.
abbrev pub power_of_ten : Precision → (size : ℕ) → ℤ
power_of_ten p size = pos (steps p size * 78913 / 2 ^ 18) -ℤ pos (places p)

-- they reach the bits, and one less doesn't
pub record AreLeastDigits (p : Precision) (size : ℕ) (e : ℤ) (digits : ℕ) : Type 0 where
  pub reach : size ≤ denoted_by p (unsigned digits e)
  pub least : (fewer : ℕ) → fewer + 1 ≡ digits → denoted_by p (unsigned fewer e) < size
  pub few : digits ≤ 2 ^ 61
