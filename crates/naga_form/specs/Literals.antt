-- Literals: how they are written, and the values that they have in the module and in its text.
use Rattle.std.specs.Prelude.{zero, suc, ℤ, pos, negsuc, true, false, ◌==◌, if◌then◌else◌}
use Rattle.std.specs.Fmt.{decimal}
use Rattle.decimal_numerals.specs.declared.decimal.Decimal.{Decimal}
use Rattle.float_numerals.specs.Texts.{double_exponent, double_fraction, double_whole}
use Rattle.float_numerals.specs.Texts.{fraction_digits, whole_digits}
use Rattle.naga_ir.specs.declared.expression.Literal as ir
use Rattle.naga_ir.specs.declared.expression.Literal.TheVariants as literal
use Rattle.wgsl_text.specs.Token.{SuffixI, SuffixU, SuffixLi, SuffixLu}
use Rattle.wgsl_text.specs.Token.{Power, NoPower, PowerOf, Precision, Half, Single, Double}
use Rattle.wgsl_text.specs.Literals.{Literal, Truth, Suffixed, LeastInteger, LeastLong}
use Rattle.wgsl_text.specs.Literals.{Floating, SignedShort, UnsignedShort}

-- The least `i32` and the least `i64` have forms of their own: a `-` stands outside of a number.
abbrev pub integer_form : ℤ → Literal
integer_form (pos n) = Suffixed false n SuffixI
integer_form (negsuc n) = if n == 2147483647 then LeastInteger else Suffixed true (suc n) SuffixI

abbrev pub long_form : ℤ → Literal
long_form (pos n) = Suffixed false n SuffixLi
long_form (negsuc n) =
    if n == 9223372036854775807 then LeastLong else Suffixed true (suc n) SuffixLi

-- those of 16 bits have no suffix, and all of them have one form
abbrev pub short_form : ℤ → Literal
short_form (pos n) = SignedShort false n
short_form (negsuc n) = SignedShort true (suc n)

-- a numeral of an `f16` or an `f32`, without a power of ten
abbrev pub decimal_form : Decimal → Precision → Literal
decimal_form numeral precision =
    Floating numeral.negative (whole_digits numeral) (fraction_digits numeral) precision

-- a power of ten, which is not written where it is 0
abbrev pub power_form : ℤ → Power
power_form (pos zero) = NoPower
power_form (pos (suc n)) = PowerOf false (decimal (suc n))
power_form (negsuc n) = PowerOf true (decimal (suc n))

-- a numeral of an `f64`, with a power of ten where it is great or small
abbrev pub double_form : Decimal → Literal
double_form numeral =
    Floating numeral.negative (double_whole numeral) (double_fraction numeral)
    (Double (power_form (double_exponent numeral)))

-- how a literal is written. Those of floating-point types that are held as their bits, and of
-- abstract types, are not written, and stand as `false`
abbrev pub literal_form : ir.Literal → Literal
literal_form (literal.Bool b) = Truth b
literal_form (literal.I16 z) = short_form z
literal_form (literal.U16 n) = UnsignedShort n
literal_form (literal.I32 z) = integer_form z
literal_form (literal.U32 n) = Suffixed false n SuffixU
literal_form (literal.I64 z) = long_form z
literal_form (literal.U64 n) = Suffixed false n SuffixLu
literal_form (literal.DecimalF64 numeral) = double_form numeral
literal_form (literal.DecimalF32 numeral) = decimal_form numeral Single
literal_form (literal.DecimalF16 numeral) = decimal_form numeral Half
literal_form _ = Truth false
