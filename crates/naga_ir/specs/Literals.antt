-- The scalar of a literal.
use Rattle.std.specs.Prelude.{ℕ}
use Rattle.naga_ir.specs.declared.expression.Literal.{Literal}
use Rattle.naga_ir.specs.declared.expression.Literal.TheVariants as literal
use Rattle.naga_ir.specs.declared.types.Scalar.{Scalar}
use Rattle.naga_ir.specs.declared.types.ScalarKind.{ScalarKind}
use Rattle.naga_ir.specs.declared.types.ScalarKind.TheVariants as kind

-- the scalar of a kind and a width in bytes
abbrev pub scalar_of : ScalarKind → (width : ℕ) → Scalar
scalar_of kind width = record { kind = kind; width = width }

-- a literal's scalar
abbrev pub literal_scalar : Literal → Scalar
literal_scalar (literal.F64 bits) = scalar_of kind.Float 8
literal_scalar (literal.F32 bits) = scalar_of kind.Float 4
literal_scalar (literal.F16 bits) = scalar_of kind.Float 2
literal_scalar (literal.DecimalF64 numeral) = scalar_of kind.Float 8
literal_scalar (literal.DecimalF32 numeral) = scalar_of kind.Float 4
literal_scalar (literal.DecimalF16 numeral) = scalar_of kind.Float 2
literal_scalar (literal.U16 value) = scalar_of kind.Uint 2
literal_scalar (literal.I16 value) = scalar_of kind.Sint 2
literal_scalar (literal.U32 value) = scalar_of kind.Uint 4
literal_scalar (literal.I32 value) = scalar_of kind.Sint 4
literal_scalar (literal.U64 value) = scalar_of kind.Uint 8
literal_scalar (literal.I64 value) = scalar_of kind.Sint 8
literal_scalar (literal.Bool value) = scalar_of kind.Bool 1
literal_scalar (literal.AbstractInt value) = scalar_of kind.AbstractInt 8
literal_scalar (literal.AbstractFloat bits) = scalar_of kind.AbstractFloat 8
