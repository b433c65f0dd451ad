-- The texts of literals.
use Rattle.std.specs.Prelude.{ℕ, ℤ, List}
use Rattle.naga_ir.specs.declared.expression.Literal.{Literal}
use Rattle.decimal_numerals.specs.declared.decimal.Decimal.{Decimal}
use Rattle.naga_form.specs.Literals.{decimal_form, double_form, integer_form, literal_form}
use Rattle.naga_form.specs.Literals.{long_form, short_form}
use Rattle.wgsl_text.specs.Literals.{UnsignedShort, literal_pieces}
use Rattle.wgsl_text.specs.Text.{text}
use Rattle.wgsl_text.specs.Token.{Half, Single}

unfoldable pub literal_text : Literal → List ℕ
literal_text value = text (literal_pieces (literal_form value))

unfoldable pub i32_text : ℤ → List ℕ
i32_text value = text (literal_pieces (integer_form value))

unfoldable pub i64_text : ℤ → List ℕ
i64_text value = text (literal_pieces (long_form value))

unfoldable pub i16_text : ℤ → List ℕ
i16_text value = text (literal_pieces (short_form value))

unfoldable pub u16_text : ℕ → List ℕ
u16_text value = text (literal_pieces (UnsignedShort value))

unfoldable pub f64_text : Decimal → List ℕ
f64_text numeral = text (literal_pieces (double_form numeral))

unfoldable pub f32_text : Decimal → List ℕ
f32_text numeral = text (literal_pieces (decimal_form numeral Single))

unfoldable pub f16_text : Decimal → List ℕ
f16_text numeral = text (literal_pieces (decimal_form numeral Half))
