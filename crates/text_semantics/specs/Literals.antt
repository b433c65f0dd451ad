-- The values of literals in a text.
use Rattle.std.specs.Prelude.{ℕ, suc, ℤ, pos, negsuc, Bool, true, List, []}
use Rattle.std.specs.Prelude.{codes}
use Rattle.wgsl_text.specs.Token.{Suffix, NoSuffix, SuffixI, SuffixU, SuffixLi, SuffixLu}
use Rattle.wgsl_text.specs.Literals.{Literal, Truth, Suffixed, SignedShort, UnsignedShort}
use Rattle.wgsl_text.specs.Literals.{LeastInteger, LeastLong, Floating}
use Rattle.wgsl_text.specs.Token.{Power, NoPower, PowerOf, Precision, Half, Single, Double}
use Rattle.shader_runs.specs.Value.{Value, Truth as TruthValue, Whole, Opaque}
use Rattle.std.specs.Float.{binary32, binary64}
use Rattle.std.specs.Str.Parse.{digits_value}
use Rattle.decimal_numerals.specs.Denoted.{decimal_bits}
use Rattle.decimal_numerals.specs.Half.{decimal_half}

-- the integer of a sign and a number
abbrev pub integer_of_sign : Bool → ℕ → ℤ
integer_of_sign true (suc n) = negsuc n
integer_of_sign _ n = pos n

-- the type that a suffix stands for; a number without one has no type of its own
abbrev pub suffix_type : Suffix → List ℕ
suffix_type SuffixI = codes "i32"
suffix_type SuffixU = codes "u32"
suffix_type SuffixLi = codes "i64"
suffix_type SuffixLu = codes "u64"
suffix_type NoSuffix = []

-- the power of ten that is written, 0 where none is
abbrev pub power_value : Power → ℤ
power_value NoPower = pos 0
power_value (PowerOf negative ds) = integer_of_sign negative (digits_value 10 ds)

-- a number of a floating-point type: the bits of the one nearest to what the digits and the power
-- give
abbrev pub floating_value : Bool → (whole fraction : List ℕ) → Precision → Value
floating_value negative whole fraction Half =
    Opaque (codes "f16") (decimal_half negative whole fraction)
floating_value negative whole fraction Single =
    Opaque (codes "f32") (decimal_bits binary32 negative whole fraction (pos 0))
floating_value negative whole fraction (Double power) =
    Opaque (codes "f64") (decimal_bits binary64 negative whole fraction (power_value power))

-- the value of a literal of the text
abbrev pub value_read : Literal → Value
value_read (Truth b) = TruthValue b
value_read (Suffixed negative n suffix) = Whole (suffix_type suffix) (integer_of_sign negative n)
value_read (Floating negative whole fraction precision) =
    floating_value negative whole fraction precision
value_read (SignedShort negative n) = Whole (codes "i16") (integer_of_sign negative n)
value_read (UnsignedShort n) = Whole (codes "u16") (pos n)
value_read LeastInteger = Whole (codes "i32") (negsuc 2147483647)
value_read LeastLong = Whole (codes "i64") (negsuc 9223372036854775807)
