-- Literals that are decimal.
--
-- Throughout, v, w and u are literals, as they were before and afterwards.
use Rattle.std.proofs.Common.{◌≡◌, ◌≢◌, true, refl, sym, ap, ◌∙◌, inl, inr}
use Rattle.naga_ir.specs.Literals.{literal_scalar}
use Rattle.naga_ir.specs.declared.expression.Literal as ir
use Rattle.naga_ir.specs.declared.expression.Literal.TheVariants as literal
use Rattle.module_semantics.specs.Literals.{literal_is_within, literal_value, with_bits}
use Rattle.decimal_floats.specs.Decimals.{IsDecimalLiteral}

-- ---- a literal and its bits
value_of_bits : (v : ir.Literal) → literal_value (with_bits v) ≡ literal_value v
value_of_bits (literal.DecimalF64 d) = refl
value_of_bits (literal.DecimalF32 d) = refl
value_of_bits (literal.DecimalF16 d) = refl
value_of_bits _ = refl

scalar_of_bits : (v : ir.Literal) → literal_scalar (with_bits v) ≡ literal_scalar v
scalar_of_bits (literal.DecimalF64 d) = refl
scalar_of_bits (literal.DecimalF32 d) = refl
scalar_of_bits (literal.DecimalF16 d) = refl
scalar_of_bits _ = refl

bits_of_bits : (v : ir.Literal) → with_bits (with_bits v) ≡ with_bits v
bits_of_bits (literal.DecimalF64 d) = refl
bits_of_bits (literal.DecimalF32 d) = refl
bits_of_bits (literal.DecimalF16 d) = refl
bits_of_bits _ = refl

-- ---- a literal that is decimal
pub decimal_value : (v w : ir.Literal) → IsDecimalLiteral v w → literal_value w ≡ literal_value v
decimal_value v w (inl e) = ap literal_value e
decimal_value v w (inr h) = sym (value_of_bits w) ∙ ap literal_value h.0

pub decimal_scalar : (v w : ir.Literal) → IsDecimalLiteral v w → literal_scalar w ≡ literal_scalar v
decimal_scalar v w (inl e) = ap literal_scalar e
decimal_scalar v w (inr h) = sym (scalar_of_bits w) ∙ ap literal_scalar h.0

pub decimal_within : (v w : ir.Literal) → IsDecimalLiteral v w → literal_is_within v ≡ true →
    literal_is_within w ≡ true
decimal_within v w (inl e) h = ap literal_is_within e ∙ h
decimal_within v w (inr r) h = r.1

pub decimal_stays : (v w : ir.Literal) → with_bits v ≢ v → IsDecimalLiteral v w → w ≡ v
decimal_stays v w other (inl e) = e
decimal_stays v w other (inr h) =
    absurd (other (ap with_bits (sym h.0) ∙ bits_of_bits w ∙ h.0))

-- made decimal twice
pub decimal_again : (v w u : ir.Literal) → IsDecimalLiteral v w → IsDecimalLiteral w u →
    IsDecimalLiteral v u
decimal_again v w u (inl e) (inl f) = inl (f ∙ e)
decimal_again v w u (inl e) (inr f) = inr (f.0 ∙ e, f.1)
decimal_again v w u (inr e) (inl f) = inr (ap with_bits f ∙ e.0, ap literal_is_within f ∙ e.1)
decimal_again v w u (inr e) (inr f) = inr (sym (bits_of_bits u) ∙ ap with_bits f.0 ∙ e.0, f.1)
