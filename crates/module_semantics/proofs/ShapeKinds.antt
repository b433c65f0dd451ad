-- The runs' words for shapes are tests of their kind.
--
-- Throughout, o is a shape, if there is one.
use Rattle.std.proofs.Common.{◌≡◌, ◌≢◌, ℕ, true, false, List, Option, Some, None, refl}
use Rattle.naga_ir.specs.declared.kind.ExpressionKind.TheVariants as kind
use Rattle.shader_runs.specs.Program.{Expression, Operator, Access, AccessIndex, Swizzle, Logical}
use Rattle.shader_runs.specs.Program.{is_pure}
use Rattle.module_semantics.specs.ShapeKinds.{shape_kind}
use Rattle.module_semantics.specs.OperatorTable.{Operator as TableOperator}
use Rattle.module_semantics.specs.Shapes.{operator_shape}
use Rattle.module_semantics.proofs.Shapes.{operator_any}

-- ---- operators
pub operator_kind : (op : TableOperator) (xs : List ℕ) →
    shape_kind (Some (operator_shape op xs)) ≡ kind.Pure
operator_kind op xs = operator_any (λ s. shape_kind (Some s) ≡ kind.Pure) op xs (λ j l r. refl) refl

-- ---- the runs' words for shapes

-- an operator
pub pure_kind : (o : Option Expression) → shape_kind o ≡ kind.Pure → is_pure o ≡ true
pure_kind (Some (Operator word operands)) is = refl
pure_kind (Some (Access base index)) is = refl
pure_kind (Some (AccessIndex selector base)) is = refl
pure_kind (Some (Swizzle letters vector)) is = refl
pure_kind (Some (Logical circuit left right)) is = refl
pure_kind (Some _) is = absurd cc
pure_kind None is = absurd cc

pub other_kind : (o : Option Expression) → shape_kind o ≢ kind.Pure → is_pure o ≡ false
other_kind (Some (Operator word operands)) other = absurd (other refl)
other_kind (Some (Access base index)) other = absurd (other refl)
other_kind (Some (AccessIndex selector base)) other = absurd (other refl)
other_kind (Some (Swizzle letters vector)) other = absurd (other refl)
other_kind (Some (Logical circuit left right)) other = absurd (other refl)
other_kind (Some _) other = refl
other_kind None other = refl
