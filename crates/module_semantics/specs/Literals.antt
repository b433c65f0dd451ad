-- The values of a module's literals, and which of them there are.
use Rattle.std.specs.Prelude.{ℕ, ℤ, pos, negsuc, Bool, true, List, ◌+◌, ◌*◌, ◌^◌, nat_lt}
use Rattle.std.specs.Prelude.{codes}
use Rattle.naga_ir.specs.declared.expression.Literal as ir
use Rattle.naga_ir.specs.declared.expression.Literal.TheVariants as literal
use Rattle.naga_ir.specs.declared.types.ScalarKind.{ScalarKind}
use Rattle.naga_ir.specs.declared.types.ScalarKind.TheVariants as kind
use Rattle.naga_ir.specs.declared.types.TypeInner.TheVariants as inner
use Rattle.std.specs.Float.{binary32, binary64}
use Rattle.decimal_numerals.specs.Denoted.{denoted_bits, is_finite_double, is_finite_single}
use Rattle.decimal_numerals.specs.Half.{denoted_half, is_finite_half}
use Rattle.module_semantics.specs.TypeIdentity.{Itself, word_of_unspelled_type}
use Rattle.shader_runs.specs.Value.{Value, Truth as TruthValue, Whole, Opaque}

-- the word of an abstract type, which no text spells; its values have eight bytes
abbrev pub abstract_word : ScalarKind → List ℕ
abstract_word k = word_of_unspelled_type (Itself (inner.Scalar (record { kind = k; width = 8 })))

-- an integer as a payload: even numbers stand for those without a sign
abbrev pub integer_payload : ℤ → ℕ
integer_payload (pos n) = 2 * n
integer_payload (negsuc n) = 2 * n + 1

-- The value of the module's literal. Those of floating-point and abstract types have their bits as
-- payload, and a numeral has those of the nearest number.
abbrev pub literal_value : ir.Literal → Value
literal_value (literal.Bool b) = TruthValue b
literal_value (literal.I32 z) = Whole (codes "i32") z
literal_value (literal.U32 n) = Whole (codes "u32") (pos n)
literal_value (literal.I64 z) = Whole (codes "i64") z
literal_value (literal.U64 n) = Whole (codes "u64") (pos n)
literal_value (literal.I16 z) = Whole (codes "i16") z
literal_value (literal.U16 n) = Whole (codes "u16") (pos n)
literal_value (literal.F64 bits) = Opaque (codes "f64") bits
literal_value (literal.F32 bits) = Opaque (codes "f32") bits
literal_value (literal.F16 bits) = Opaque (codes "f16") bits
literal_value (literal.DecimalF64 numeral) = Opaque (codes "f64") (denoted_bits binary64 numeral)
literal_value (literal.DecimalF32 numeral) = Opaque (codes "f32") (denoted_bits binary32 numeral)
literal_value (literal.DecimalF16 numeral) = Opaque (codes "f16") (denoted_half numeral)
literal_value (literal.AbstractInt z) = Opaque (abstract_word kind.AbstractInt) (integer_payload z)
literal_value (literal.AbstractFloat bits) = Opaque (abstract_word kind.AbstractFloat) bits

-- the literal with its bits, where it has a numeral
abbrev pub with_bits : ir.Literal → ir.Literal
with_bits (literal.DecimalF64 numeral) = literal.F64 (denoted_bits binary64 numeral)
with_bits (literal.DecimalF32 numeral) = literal.F32 (denoted_bits binary32 numeral)
with_bits (literal.DecimalF16 numeral) = literal.F16 (denoted_half numeral)
with_bits value = value

-- an integer of so many bits with a sign, counted without it
abbrev pub is_signed_within : ℕ → ℤ → Bool
is_signed_within limit (pos n) = nat_lt n limit
is_signed_within limit (negsuc n) = nat_lt n limit

-- a literal's integer is one of its type, its bits are as many as its type has, and its numeral is
-- in range and denotes no infinity
abbrev pub literal_is_within : ir.Literal → Bool
literal_is_within (literal.Bool value) = true
literal_is_within (literal.I16 value) = is_signed_within (2 ^ 15) value
literal_is_within (literal.U16 value) = nat_lt value (2 ^ 16)
literal_is_within (literal.I32 value) = is_signed_within (2 ^ 31) value
literal_is_within (literal.U32 value) = nat_lt value (2 ^ 32)
literal_is_within (literal.I64 value) = is_signed_within (2 ^ 63) value
literal_is_within (literal.U64 value) = nat_lt value (2 ^ 64)
literal_is_within (literal.AbstractInt value) = is_signed_within (2 ^ 63) value
literal_is_within (literal.F16 bits) = nat_lt bits (2 ^ 16)
literal_is_within (literal.F32 bits) = nat_lt bits (2 ^ 32)
literal_is_within (literal.F64 bits) = nat_lt bits (2 ^ 64)
literal_is_within (literal.DecimalF16 numeral) = is_finite_half numeral
literal_is_within (literal.DecimalF32 numeral) = is_finite_single numeral
literal_is_within (literal.DecimalF64 numeral) = is_finite_double numeral
literal_is_within (literal.AbstractFloat bits) = nat_lt bits (2 ^ 64)
