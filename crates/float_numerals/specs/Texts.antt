-- The digits by which a numeral is written, and the texts of literals.
--
-- A literal of `f32` or `f16` has no exponent: `0.5f`, `1f`, `120h`. One of `f64` has a digit after
-- the point, as `1.0lf`, or else, from 10 ^ 16 on and below 10 ^ -4, an exponent, as `1e16lf` and
-- `1.5e-5lf`. These are the forms that Rust gives by `{}` and by `{:?}`, of which naga makes its
-- literals.
--
-- Throughout, ds are digits, e is a power of ten by which they are multiplied, and d is a numeral.
use Rattle.std.specs.Prelude.{ℕ, zero, suc, ◌-◌, ◌+ℤ◌, Bool, ℤ, pos, negsuc}
use Rattle.std.specs.Prelude.{List, [], ◌∷◌, ◌++◌, length, take, drop, replicate}
use Rattle.std.specs.Prelude.{nat_lt, if◌then◌else◌, codes}
use Rattle.std.specs.Fmt.{decimal, sign_text}
use Rattle.decimal_numerals.specs.declared.decimal.Decimal.{Decimal}

-- ---- without an exponent

-- the digits before the point: `0`, where there would be none
abbrev pub whole_of : List ℕ → ℤ → List ℕ
whole_of ds (pos e) = ds ++ replicate e 48
whole_of ds (negsuc e) =
    if nat_lt (suc e) (length ds) then take (length ds - suc e) ds else codes "0"

-- the digits after the point, if any
abbrev pub fraction_of : List ℕ → ℤ → List ℕ
fraction_of ds (pos e) = []
fraction_of ds (negsuc e) =
    if nat_lt (suc e) (length ds) then drop (length ds - suc e) ds
    else replicate (suc e - length ds) 48 ++ ds

-- a point and the digits after it, if there are any
abbrev pub fraction_text : List ℕ → List ℕ
fraction_text [] = []
fraction_text (b ∷ ds) = 46 ∷ b ∷ ds

abbrev pub digits_text : List ℕ → ℤ → List ℕ
digits_text ds e = whole_of ds e ++ fraction_text (fraction_of ds e)

-- of a numeral
abbrev pub whole_digits : Decimal → List ℕ
whole_digits d = whole_of (decimal d.digits) d.exponent

abbrev pub fraction_digits : Decimal → List ℕ
fraction_digits d = fraction_of (decimal d.digits) d.exponent

-- `0.5`, `-120` or `0.00012`
abbrev pub numeral_text : Decimal → List ℕ
numeral_text d = sign_text d.negative ++ digits_text (decimal d.digits) d.exponent

-- ---- with an exponent where the number is great or small

-- by which power of ten the first digit counts
abbrev pub leading_power : List ℕ → ℤ → ℤ
leading_power ds e = e +ℤ pos (length ds - 1)

-- from 10 ^ -4 on and below 10 ^ 16, by the power of the first digit, no exponent is written
abbrev pub has_plain_form : ℤ → Bool
has_plain_form (pos power) = nat_lt power 16
has_plain_form (negsuc power) = nat_lt power 4

-- the digits after the point, where there is to be one
abbrev pub some_fraction_of : List ℕ → ℤ → List ℕ
some_fraction_of ds (pos e) = codes "0"
some_fraction_of ds (negsuc e) = fraction_of ds (negsuc e)

-- with an exponent, one digit stands before the point
abbrev pub double_whole_of : List ℕ → ℤ → List ℕ
double_whole_of ds e =
    if has_plain_form (leading_power ds e) then whole_of ds e else take 1 ds

abbrev pub double_fraction_of : List ℕ → ℤ → List ℕ
double_fraction_of ds e =
    if has_plain_form (leading_power ds e) then some_fraction_of ds e else drop 1 ds

-- 0, where none is written
abbrev pub double_exponent_of : List ℕ → ℤ → ℤ
double_exponent_of ds e =
    if has_plain_form (leading_power ds e) then pos 0 else leading_power ds e

abbrev pub exponent_text : ℤ → List ℕ
exponent_text (pos zero) = []
exponent_text (pos (suc n)) = codes "e" ++ decimal (suc n)
exponent_text (negsuc n) = codes "e-" ++ decimal (suc n)

-- the text of digits with an exponent
abbrev pub scientific_text : (ds : List ℕ) (power : ℤ) → List ℕ
scientific_text ds power = take 1 ds ++ (fraction_text (drop 1 ds) ++ exponent_text power)

abbrev pub double_digits_text : List ℕ → ℤ → List ℕ
double_digits_text ds e =
    double_whole_of ds e ++
    (fraction_text (double_fraction_of ds e) ++ exponent_text (double_exponent_of ds e))

-- of a numeral
abbrev pub double_whole : Decimal → List ℕ
double_whole d = double_whole_of (decimal d.digits) d.exponent

abbrev pub double_fraction : Decimal → List ℕ
double_fraction d = double_fraction_of (decimal d.digits) d.exponent

abbrev pub double_exponent : Decimal → ℤ
double_exponent d = double_exponent_of (decimal d.digits) d.exponent

-- `0.5`, `-120.0`, `1e16` or `1.5e-5`
abbrev pub double_numeral_text : Decimal → List ℕ
double_numeral_text d = sign_text d.negative ++ double_digits_text (decimal d.digits) d.exponent

-- ---- literals

-- of an `f32`, an `f16` and an `f64`
abbrev pub single_text : Decimal → List ℕ
single_text d = numeral_text d ++ codes "f"

abbrev pub half_text : Decimal → List ℕ
half_text d = numeral_text d ++ codes "h"

abbrev pub double_text : Decimal → List ℕ
double_text d = double_numeral_text d ++ codes "lf"
