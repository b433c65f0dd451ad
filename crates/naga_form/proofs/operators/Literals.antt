-- Literals: their forms are of the grammar and are read with their values, and different literals
-- have different values.
use Rattle.std.proofs.Common.{◌≡◌, ℕ, ◌<◌, suc, Bool, true, false, refl, sym, ap, ◌∙◌, arith, ◌*◌}
use Rattle.std.proofs.Common.{◌+◌, pos, negsuc, ◌^◌, ◌/◌, ◌%◌, ℤ, zero, ◌≤◌, List, length, nat_abs}
use Rattle.std.specs.Prelude.{codes, if◌then◌else◌, IsTrue, ◌&&◌, ◌==◌, ◌↔◌, nat_lt, to_bits}
use Rattle.std.specs.Float.{binary32, binary64}
use Rattle.std.specs.Fmt.{decimal}
use Rattle.std.specs.Str.Parse.{AllDigits}
use Rattle.std.proofs.lemmas.Bool.{false≢true, eqb-true, ltb-true, eqb-false, and_parts}
use Rattle.std.proofs.lemmas.Fmt.{decimal_is_IsNumeral}
use Rattle.decimal_numerals.specs.declared.decimal.Decimal.{Decimal}
use Rattle.decimal_numerals.specs.Denoted.{decimal_float, has_near_power, has_plain_zero, is_in_range}
use Rattle.float_numerals.specs.Texts.{double_exponent, double_fraction, double_whole}
use Rattle.float_numerals.specs.Texts.{fraction_digits, whole_digits}
use Rattle.float_numerals.proofs.Doubles.{decimal_double_is, double_in_range}
use Rattle.float_numerals.proofs.Numerals.{decimal_split, decimal_float_is, decimal_half_is}
use Rattle.naga_ir.specs.declared.expression.Literal.{Literal}
use Rattle.naga_ir.specs.declared.expression.Literal as ir_literal
use Rattle.naga_ir.specs.declared.expression.Literal.TheVariants as literal
use Rattle.module_semantics.specs.Literals.{literal_is_within}
use Rattle.module_semantics.specs.ExpressionForms.{literal_has_form}
use Rattle.wgsl_text.specs.Literals.{Suffixed, LeastInteger, LeastLong, IsLiteral, IsFloating}
use Rattle.wgsl_text.specs.Token.{AreDigits, IsPower, IsPrecision}
use Rattle.wgsl_text.specs.Token.{SuffixI, SuffixLi, Precision, Half, Single}
use Rattle.wgsl_text.proofs.Text.{own_digits}
use Rattle.shader_runs.specs.Value.{Whole, Value, Truth, Opaque}
use Rattle.naga_form.specs.Literals.{literal_form, power_form}
use Rattle.module_semantics.specs.Literals.{literal_value, integer_payload, abstract_word, with_bits}
use Rattle.text_semantics.specs.Literals.{value_read, power_value, integer_of_sign}
use Rattle.std.specs.Str.{bytes_eq}
use Rattle.naga_ir.specs.declared.types.ScalarKind.TheVariants as kind

integer_read : (n : ℕ) (b : Bool) → (n == 2147483647) ≡ b →
    value_read (if b then LeastInteger else Suffixed true (suc n) SuffixI) ≡ Whole (codes "i32") (negsuc n)
integer_read n true e = ap (λ k. Whole (codes "i32") (negsuc k)) (sym (eqb-true n 2147483647 e))
integer_read n false e = refl

long_read : (n : ℕ) (b : Bool) → (n == 9223372036854775807) ≡ b →
    value_read (if b then LeastLong else Suffixed true (suc n) SuffixLi) ≡ Whole (codes "i64") (negsuc n)
long_read n true e = ap (λ k. Whole (codes "i64") (negsuc k)) (sym (eqb-true n 9223372036854775807 e))
long_read n false e = refl

-- a numeral in range

range_parts : (d : Decimal) → is_in_range d ≡ true →
    (nat_lt d.digits (2 ^ 64) ≡ true) × (has_near_power d.exponent ≡ true)
range_parts d w =
    let near = has_near_power d.exponent in
    let plain = has_plain_zero d.digits d.exponent in
    let parts = and_parts (nat_lt d.digits (2 ^ 64)) (near && plain) w in
    (parts.0, (and_parts near plain parts.1).0)

digits_fit : (d : Decimal) → is_in_range d ≡ true → d.digits < 2 ^ 64
digits_fit d w = ltb-true d.digits (2 ^ 64) (range_parts d w).0

near_fits : (e : ℤ) → has_near_power e ≡ true → nat_abs e ≤ 2 ^ 63
near_fits (pos n) w = (let less = ltb-true n 400 w in omega (arith, less))
near_fits (negsuc n) w = (let less = ltb-true n 400 w in omega (arith, less))

exponent_fits : (d : Decimal) → is_in_range d ≡ true → nat_abs d.exponent ≤ 2 ^ 63
exponent_fits d w = near_fits d.exponent (range_parts d w).1

power_read : (e : ℤ) → nat_abs e < 2 ^ 64 → power_value (power_form e) ≡ e
power_read (pos zero) small = refl
power_read (pos (suc n)) small = ap (integer_of_sign false) (decimal_is_IsNumeral (suc n) small).1
power_read (negsuc n) small = ap (integer_of_sign true) (decimal_is_IsNumeral (suc n) small).1

-- a literal that is written is read with its value
pub literal_read : (v : ir_literal.Literal) → literal_has_form v ≡ true → value_read (literal_form v)
    ≡ literal_value v
literal_read (literal.I32 (negsuc n)) w = integer_read n (n == 2147483647) refl
literal_read (literal.I64 (negsuc n)) w = long_read n (n == 9223372036854775807) refl
literal_read (literal.I32 (pos n)) w = refl
literal_read (literal.I64 (pos n)) w = refl
literal_read (literal.Bool b) w = refl
literal_read (literal.U32 n) w = refl
literal_read (literal.I16 (pos n)) w = refl
literal_read (literal.I16 (negsuc n)) w = refl
literal_read (literal.U16 n) w = refl
literal_read (literal.U64 n) w = refl
literal_read (literal.DecimalF64 numeral) w =
    let fits = digits_fit numeral w in
    let d = double_in_range numeral fits (exponent_fits numeral w) in
    ap (λ e. Opaque (codes "f64")
    (to_bits binary64 (decimal_float binary64 numeral.negative (double_whole numeral) (double_fraction numeral) e)))
    (power_read (double_exponent numeral) d.small)
    ∙ ap (λ x. Opaque (codes "f64") (to_bits binary64 x)) (decimal_double_is binary64 numeral fits)
literal_read (literal.DecimalF32 numeral) w = ap (λ x. Opaque (codes "f32") (to_bits binary32 x))
    (decimal_float_is binary32 numeral (digits_fit numeral w))
literal_read (literal.DecimalF16 numeral) w =
    ap (λ n. Opaque (codes "f16") n) (decimal_half_is numeral (digits_fit numeral w))
literal_read _ w = absurd (false≢true w)

-- of the grammar

least_or : (n : ℕ) (b : Bool) → (n == 2147483647) ≡ b → n < 2 ^ 31 →
    IsLiteral (if b then LeastInteger else Suffixed true (suc n) SuffixI)
least_or n true e lt = tt
least_or n false e lt = let other : n ≡ 2147483647 → ⊥ = eqb-false n 2147483647 e in omega (arith, lt, other)

least_long_or : (n : ℕ) (b : Bool) → (n == 9223372036854775807) ≡ b → n < 2 ^ 63 →
    IsLiteral (if b then LeastLong else Suffixed true (suc n) SuffixLi)
least_long_or n true e lt = tt
least_long_or n false e lt = let other : n ≡ 9223372036854775807 → ⊥ = eqb-false n 9223372036854775807 e in
    omega (arith, lt, other)

are_digits : (ds : List ℕ) → 0 < length ds → AllDigits 10 ds → AreDigits ds
are_digits ds some is = record { some = some; digits = own_digits.from ds is }

decimal_is : (d : Decimal) (precision : Precision) → d.digits < 2 ^ 64 → IsPrecision precision →
    IsFloating (whole_digits d) (fraction_digits d) precision
decimal_is d precision fits is =
    let s = decimal_split d fits in
    record {
      whole_digits = are_digits (whole_digits d) s.some s.whole_digits;
      fraction_digits = own_digits.from (fraction_digits d) s.fraction_digits;
      power_digits = is;
    }

power_is : (e : ℤ) → nat_abs e < 2 ^ 64 → IsPower (power_form e)
power_is (pos zero) small = tt
power_is (pos (suc n)) small = (let is = (decimal_is_IsNumeral (suc n) small).0 in are_digits
    (decimal (suc n)) is.0 is.1)
power_is (negsuc n) small = (let is = (decimal_is_IsNumeral (suc n) small).0 in are_digits (decimal (suc n)) is.0 is.1)

pub literal_is : (v : ir_literal.Literal) → IsTrue (literal_has_form v) → IsTrue (literal_is_within v) →
    IsLiteral (literal_form v)
literal_is (literal.Bool b) w e = tt
literal_is (literal.I32 (pos n)) w e = ltb-true n (2 ^ 31) e
literal_is (literal.I32 (negsuc n)) w e = least_or n (n == 2147483647) refl (ltb-true n (2 ^ 31) e)
literal_is (literal.U32 n) w e = ltb-true n (2 ^ 32) e
literal_is (literal.I16 (pos n)) w e = ltb-true n (2 ^ 15) e
literal_is (literal.I16 (negsuc n)) w e =
    let within = ltb-true n (2 ^ 15) e in omega (arith, within)
literal_is (literal.U16 n) w e = ltb-true n (2 ^ 16) e
literal_is (literal.I64 (pos n)) w e = ltb-true n (2 ^ 63) e
literal_is (literal.I64 (negsuc n)) w e = least_long_or n (n == 9223372036854775807) refl (ltb-true n (2 ^ 63) e)
literal_is (literal.U64 n) w e = ltb-true n (2 ^ 64) e
literal_is (literal.DecimalF64 numeral) w e =
    let d = double_in_range numeral (digits_fit numeral w) (exponent_fits numeral w) in
    record {
      whole_digits = are_digits (double_whole numeral) d.some d.whole_digits;
      fraction_digits = own_digits.from (double_fraction numeral) d.fraction_digits;
      power_digits = power_is (double_exponent numeral) d.small;
    }
literal_is (literal.DecimalF32 numeral) w e = decimal_is numeral Single (digits_fit numeral w) tt
literal_is (literal.DecimalF16 numeral) w e = decimal_is numeral Half (digits_fit numeral w) tt
literal_is _ w e = absurd (cc)

-- different values

-- the integer of a payload
abbrev integer_of : ℕ → ℤ
integer_of n = if n % 2 == 0 then pos (n / 2) else negsuc (n / 2)

integer_distinguished : (z : ℤ) → integer_of (integer_payload z) ≡ z
integer_distinguished (pos n) =
    let even : (2 * n) % 2 ≡ 0 = omega arith in
    let half : (2 * n) / 2 ≡ n = omega arith in
    λ i. if even i == 0 then pos (half i) else negsuc (half i)
integer_distinguished (negsuc n) =
    let odd : (2 * n + 1) % 2 ≡ 1 = omega arith in
    let half : (2 * n + 1) / 2 ≡ n = omega arith in
    λ i. if odd i == 0 then pos (half i) else negsuc (half i)

abbrev number_of : ℤ → ℕ
number_of (pos n) = n
number_of (negsuc n) = 0

-- the literal of a value
abbrev literal_of : Value → Literal
literal_of (Whole w z) =
    if bytes_eq w (codes "i16") then literal.I16 z else (
    if bytes_eq w (codes "u16") then literal.U16 (number_of z) else (
    if bytes_eq w (codes "i32") then literal.I32 z else (
    if bytes_eq w (codes "u32") then literal.U32 (number_of z) else (
    if bytes_eq w (codes "i64") then literal.I64 z else literal.U64 (number_of z)))))
literal_of (Opaque w n) =
    if bytes_eq w (codes "f16") then literal.F16 n else (
    if bytes_eq w (codes "f32") then literal.F32 n else (
    if bytes_eq w (codes "f64") then literal.F64 n else (
    if bytes_eq w (abstract_word kind.AbstractInt) then literal.AbstractInt
    (integer_of n) else literal.AbstractFloat n)))
literal_of (Truth b) = literal.Bool b
literal_of _ = literal.U32 0

literal_distinguished : (v : Literal) → literal_of (literal_value v) ≡ with_bits v
literal_distinguished (literal.AbstractInt z) = ap literal.AbstractInt (integer_distinguished z)
literal_distinguished _ = refl

value_with_bits : (v : Literal) → literal_value (with_bits v) ≡ literal_value v
value_with_bits (literal.F64 bits) = refl
value_with_bits _ = refl

pub values_apart : (a b : Literal) → (literal_value a ≡ literal_value b) ↔ (with_bits a ≡ with_bits b)
values_apart a b = (
  λ e. sym (literal_distinguished a) ∙ (ap literal_of e ∙ literal_distinguished b),
  λ e. sym (value_with_bits a) ∙ (ap literal_value e ∙ value_with_bits b),
)
