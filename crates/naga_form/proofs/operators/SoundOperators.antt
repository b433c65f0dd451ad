-- The types that a module's operators take are types of the grammar, whatever is known of its
-- expressions.
use Rattle.std.proofs.Common.{◌≡◌, ℕ, Bool, true, false, List, Option, Some, None, refl, sym, ◌∙◌}
use Rattle.std.proofs.Common.{subst, if◌then◌else◌}
use Rattle.std.specs.Option.{option_map, option_map_or, option_and_then}
use Rattle.std.proofs.lemmas.Option.{same_Some}
use Rattle.naga_ir.specs.declared.expression.CooperativeData.{CooperativeData}
use Rattle.naga_ir.specs.declared.expression.Expression.{Expression}
use Rattle.naga_ir.specs.declared.expression.Expression.TheVariants as expression
use Rattle.naga_ir.specs.declared.expression.SwizzleComponent.{SwizzleComponent}
use Rattle.naga_ir.specs.declared.module.Module.{Module}
use Rattle.naga_ir.specs.declared.types.CooperativeRole.{CooperativeRole}
use Rattle.naga_ir.specs.declared.types.CooperativeSize.{CooperativeSize}
use Rattle.naga_ir.specs.declared.types.Scalar.{Scalar}
use Rattle.naga_ir.specs.declared.types.ScalarKind.{ScalarKind}
use Rattle.naga_ir.specs.declared.types.TypeInner.{TypeInner}
use Rattle.naga_ir.specs.declared.types.TypeInner.TheVariants as inner
use Rattle.naga_info.specs.declared.info.TypeResolution.{TypeResolution}
use Rattle.naga_info.specs.declared.info.TypeResolution.TheVariants.{Handle, Value}
use Rattle.module_semantics.specs.Conversions.{converted_scalar}
use Rattle.module_semantics.specs.ExpressionOperators.{ExpressionContext, applied_operator}
use Rattle.module_semantics.specs.ExpressionOperators.{constructor, cast, cast_to, matrix_load}
use Rattle.module_semantics.specs.ExpressionOperators.{load_operator, part_operator}
use Rattle.module_semantics.specs.ExpressionOperators.{is_atomic_pointer, image_sample_operator}
use Rattle.module_semantics.specs.ExpressionOperators.{pointee_scalar, type_known, has_parts}
use Rattle.module_semantics.specs.OperatorTable.{Operator, MakeSpelled, CooperativeLoad, WithoutForm}
use Rattle.module_semantics.specs.OperatorTable.{Cast, ValueOf, MatrixLoad, PartAt, AtomicLoad, Level}
use Rattle.module_semantics.specs.OperatorTable.{Convert, Reinterpret, SpellsAType, TypeIsSound, asks}
use Rattle.module_semantics.specs.OperatorTable.{is_untyped}
use Rattle.module_semantics.proofs.OwnOperators.{own_is_untyped}
use Rattle.module_semantics.specs.ExpressionContexts.{expression_context}
use Rattle.module_semantics.specs.Types.{called_spelling, type_names, spelled_resolution}
use Rattle.module_semantics.proofs.ExpressionForms.{called_spelled}
use Rattle.wgsl_text.specs.Reading.{printed_type}
use Rattle.wgsl_text.specs.Types.{TypeSpecifier}
use Rattle.naga_form.specs.TypeTrees.{resolution_tree}
use Rattle.naga_form.proofs.types.SameValues.{TypesAreCounted, IsFit, spelling_of, tree_is}

-- an operator that takes no type
pub untyped_is_sound : (o : Operator) → is_untyped o ≡ true → TypeIsSound o
untyped_is_sound (CooperativeLoad row_major spelling) u = absurd cc
untyped_is_sound (MakeSpelled spelling components) u = absurd cc
untyped_is_sound (Convert spelling) u = absurd cc
untyped_is_sound (Reinterpret spelling) u = absurd cc
untyped_is_sound _ u = tt

module _ (m : Module) (are : TypesAreCounted m) where
  spells : (r : TypeResolution) → IsFit m r → (w : List ℕ) → spelled_resolution (type_names m) r ≡ Some w →
      SpellsAType w
  spells r fit w at = by (resolution_tree (type_names m) r) refl (sym (spelling_of m are r) ∙ at)
    where
      by : (o : Option TypeSpecifier) → resolution_tree (type_names m) r ≡ o → option_map printed_type o
          ≡ Some w → SpellsAType w
      by (Some t) is e = (t, (tree_is m are.types r fit t is, same_Some (printed_type t) w e))
      by None is e = absurd (cc)

  module _ (known : ℕ → Option TypeResolution) where
    abbrev context : ExpressionContext
    context = expression_context m known

    pub constructor_is_sound : (ty components : ℕ) → TypeIsSound (constructor context (Handle ty) components)
    constructor_is_sound ty components = by (called_spelling m (Handle ty)) refl
      where
        by : (o : Option (List ℕ)) → called_spelling m (Handle ty) ≡ o →
            TypeIsSound (option_map_or (λ spelling. MakeSpelled spelling components) o
            (WithoutForm (ValueOf (context.numbers (Handle ty)) components)))
        by None is = tt
        by (Some w) is = spells (Handle ty) tt w (called_spelled m (Handle ty) w is).1

    -- a conversion to a type that is fit
    target_is_sound : (it : TypeInner) → IsFit m (Value it) →
        (bits : Bool) (kind : ScalarKind) (convert : Option ℕ) →
        TypeIsSound (option_map_or (cast_to bits) (spelled_resolution (type_names m) (Value it))
        (WithoutForm (Cast kind convert)))
    target_is_sound it fit bits kind convert = by (spelled_resolution (type_names m) (Value it)) refl bits
      where
        by : (o : Option (List ℕ)) → spelled_resolution (type_names m) (Value it) ≡ o → (bits : Bool) →
            TypeIsSound (option_map_or (cast_to bits) o (WithoutForm (Cast kind convert)))
        by None is bits = tt
        by (Some w) is true = spells (Value it) fit w is
        by (Some w) is false = spells (Value it) fit w is

    cast_is_sound : (kind : ScalarKind) (convert : Option ℕ) (it : Option TypeInner) →
        TypeIsSound (cast context kind convert it)
    cast_is_sound kind None (Some (inner.Scalar s)) =
        target_is_sound (inner.Scalar (converted_scalar s kind None)) (refl, tt, refl) true kind None
    cast_is_sound kind (Some width) (Some (inner.Scalar s)) =
        target_is_sound (inner.Scalar (converted_scalar s kind (Some width))) (refl, tt, refl) false kind (Some width)
    cast_is_sound kind None (Some (inner.Vector n s)) =
        target_is_sound (inner.Vector n (converted_scalar s kind None)) (refl, tt, refl) true kind None
    cast_is_sound kind (Some width) (Some (inner.Vector n s)) =
        target_is_sound (inner.Vector n (converted_scalar s kind (Some width))) (refl, tt, refl) false kind (Some width)
    cast_is_sound kind None (Some (inner.Matrix c r s)) =
        target_is_sound (inner.Matrix c r (converted_scalar s kind None)) (refl, tt, refl) false kind None
    cast_is_sound kind (Some width) (Some (inner.Matrix c r s)) =
        target_is_sound (inner.Matrix c r (converted_scalar s kind (Some width))) (refl, tt, refl) false kind
        (Some width)
    cast_is_sound kind convert _ = tt

    load_is_sound : (columns rows : CooperativeSize) (role : CooperativeRole) (place : CooperativeData) →
        TypeIsSound (matrix_load context columns rows role place)
    load_is_sound columns rows role place =
        by (option_and_then (pointee_scalar m.types) (type_known context place.pointer))
      where
        spelled : (s : Scalar) (o : Option (List ℕ)) →
            spelled_resolution (type_names m) (Value (inner.CooperativeMatrix columns rows s role))
            ≡ o → TypeIsSound
            (option_map_or (CooperativeLoad place.row_major) o
            (WithoutForm (MatrixLoad columns rows role place.row_major)))
        spelled s None is = tt
        spelled s (Some w) is = spells (Value (inner.CooperativeMatrix columns rows s role)) (refl, tt, refl) w is

        by : (s : Option Scalar) →
            TypeIsSound (option_map_or (CooperativeLoad place.row_major)
            (option_and_then
            (λ s. spelled_resolution (type_names m)
            (Value (inner.CooperativeMatrix columns rows s role))) s)
            (WithoutForm (MatrixLoad columns rows role place.row_major)))
        by None = tt
        by (Some s) =
            spelled s (spelled_resolution (type_names m) (Value (inner.CooperativeMatrix columns rows s role))) refl

    pub atomic_is_sound : (pointer : ℕ) (o : Operator) → load_operator context pointer ≡ Some o → TypeIsSound o
    atomic_is_sound pointer o e = by (is_atomic_pointer context pointer) e
      where
        by : (b : Bool) → (if b then Some AtomicLoad else None) ≡ Some o → TypeIsSound o
        by true e = subst TypeIsSound (same_Some AtomicLoad o e) tt
        by false e = absurd (cc)

    part_is_sound : (base index : ℕ) (o : Operator) → part_operator context base index ≡ Some o → TypeIsSound o
    part_is_sound base index o e = by (option_map_or (has_parts m.types) (type_known context base) false) e
      where
        by : (b : Bool) → (if b then None else Some (WithoutForm (PartAt index))) ≡ Some o → TypeIsSound o
        by true e = absurd (cc)
        by false e = subst TypeIsSound (same_Some (WithoutForm (PartAt index)) o e) tt

    -- a sampling takes no type, and asks
    pub sampling_is_sound : (of_depths : Bool) (gather : Option SwizzleComponent) (level : Level)
        (compares clamped arrayed offset : Bool) →
        TypeIsSound (image_sample_operator of_depths gather level compares clamped arrayed offset) ×
        (asks (image_sample_operator of_depths gather level compares clamped arrayed offset) ≡ true)
    sampling_is_sound of_depths None level compares clamped arrayed offset = (tt, refl)
    sampling_is_sound of_depths (Some component) level compares clamped arrayed offset = (tt, refl)

    same_sound : (a o : Operator) → Some a ≡ Some o → TypeIsSound a → TypeIsSound o
    same_sound a o e is = subst TypeIsSound (same_Some a o e) is

    -- the type of each operator that an expression applies, if it takes one, is one of the grammar
    pub applied_is_sound : (e : Expression) (o : Operator) → applied_operator context e ≡ Some o → TypeIsSound o
    applied_is_sound (expression.Compose ty parts) o e = same_sound _ o e (constructor_is_sound ty _)
    applied_is_sound (expression.AccessIndex base index) o e = part_is_sound base index o e
    applied_is_sound (expression.Load pointer) o e = atomic_is_sound pointer o e
    applied_is_sound (expression.ImageSample image sampler gather coordinate array_index offset level depth_ref
        clamp) o e = same_sound _ o e (sampling_is_sound _ gather _ _ clamp _ _).0
    applied_is_sound (expression.As operand kind convert) o e =
        same_sound _ o e (cast_is_sound kind convert (type_known context operand))
    applied_is_sound (expression.CooperativeLoad columns rows role place) o e =
        same_sound _ o e (load_is_sound columns rows role place)
    applied_is_sound e o is = untyped_is_sound o (own_is_untyped e o is)
