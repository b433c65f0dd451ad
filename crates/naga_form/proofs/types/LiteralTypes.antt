-- The value of a literal is of its scalar's type.
use Rattle.std.proofs.Common.{◌≡◌, refl}
use Rattle.naga_ir.specs.declared.expression.Literal.{Literal}
use Rattle.naga_ir.specs.declared.expression.Literal.TheVariants as literal
use Rattle.naga_ir.specs.declared.module.Module.{Module}
use Rattle.naga_ir.specs.declared.types.TypeInner.TheVariants as inner
use Rattle.naga_info.specs.declared.info.TypeResolution.TheVariants.{Value}
use Rattle.naga_ir.specs.Literals.{literal_scalar}
use Rattle.module_semantics.specs.Literals.{literal_value}
use Rattle.module_semantics.specs.Types.{type_of_values}
use Rattle.shader_runs.specs.Premises.{literal_type, IsLiteral}

module _ (m : Module) where
  pub literal_typed : (v : Literal) → literal_type (literal_value v)
      ≡ type_of_values m (Value (inner.Scalar (literal_scalar v)))
  literal_typed (literal.F64 bits) = refl
  literal_typed _ = refl

-- and no pointer
pub literal_is_none : (v : Literal) → IsLiteral (literal_value v)
literal_is_none (literal.F64 bits) = tt
literal_is_none _ = tt
