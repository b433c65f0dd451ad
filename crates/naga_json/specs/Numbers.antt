-- Which numbers a JSON value says. A whole number is written without a point or an exponent: `1.0` is none.
use Rattle.std.specs.Prelude.{ℕ, zero, suc, ◌-◌, ◌^◌, ℤ, pos, negsuc, List, [], ◌∷◌, length, Bool, true, false, ◌&&◌}
use Rattle.std.specs.Prelude.{nat_lt, if◌then◌else◌, Option, Some, None, codes}
use Rattle.std.specs.Str.{bytes_eq}
use Rattle.std.specs.Char.{digit_value}
use Rattle.std.specs.Str.Parse.{digits_value, without_leading_plus, without_leading_sign, signed_digits_value}
use Rattle.json.specs.Json.{Json}
use Rattle.json.specs.Find.{as_number}
use Rattle.std.proofs.Math.Nat.{zero-lt-suc}
use Rattle.std.specs.declared.num.NonZeroU32.{NonZeroU32}
use Rattle.naga_ir.specs.declared.types.ArraySize.{ArraySize}
use Rattle.naga_json.specs.Said.{◌>>=◌}

abbrev pub all_digits : List ℕ → Bool
all_digits [] = true
all_digits (c ∷ cs) = nat_lt (digit_value c) 10 && all_digits cs

-- one digit or more, and nothing else
abbrev pub is_numeral : List ℕ → Bool
is_numeral ds = nat_lt 0 (length ds) && all_digits ds

-- The number of a numeral, where it is below 2 ^ 64. JSON has no plus; a `Value` that a caller built may.
abbrev pub whole_of : List ℕ → Option ℕ
whole_of s = let ds = without_leading_plus s in
    if is_numeral ds && nat_lt (digits_value 10 ds) (2 ^ 64) then Some (digits_value 10 ds) else None

abbrev pub whole_said : Json → Option ℕ
whole_said j = as_number j >>= whole_of

-- of this many bits
abbrev pub unsigned_said : ℕ → Json → Option ℕ
unsigned_said bits j = whole_said j >>= λ n. if nat_lt n (2 ^ bits) then Some n else None

-- whether a number of this many bits, one of them for the sign, can be this
abbrev pub fits : ℕ → ℤ → Bool
fits bits (pos n) = nat_lt n (2 ^ (bits - 1))
fits bits (negsuc n) = nat_lt n (2 ^ (bits - 1))

abbrev pub is_minus_zero : Option (List ℕ) → Bool
is_minus_zero None = false
is_minus_zero (Some s) = bytes_eq s (codes "-0")

-- the number of a numeral with a sign, of 64 bits; `-0` is a float
abbrev pub integer_of : List ℕ → Option ℤ
integer_of s =
    if bytes_eq s (codes "-0") then None
    else (if is_numeral (without_leading_sign s) && fits 64 (signed_digits_value 10 s)
    then Some (signed_digits_value 10 s) else None)

abbrev pub integer_said : Json → Option ℤ
integer_said j = as_number j >>= integer_of

abbrev pub signed_said : ℕ → Json → Option ℤ
signed_said bits j = integer_said j >>= λ z. if fits bits z then Some z else None

-- the count of an array's elements is not 0
abbrev pub non_zero : ℕ → Option NonZeroU32
non_zero zero = None
non_zero (suc n) = Some (record { value = suc n; ok = zero-lt-suc n })

abbrev pub constant_size_said : Json → Option ArraySize
constant_size_said j = unsigned_said 32 j >>= λ n. non_zero n >>= λ count. Some (ArraySize.Constant count)

-- a handle is the index of an item
abbrev pub index_said : Json → Option ℕ
index_said j = whole_said j
