-- The text of a conversion, from what is written of it in turn.
-- Serves `expression`, `write_bitcast`, `write_cast` and `write_cast_callee`.
use Rattle.std.proofs.Common.{◌≡◌, ℕ, Bool, true, false, List, [], ◌++◌, Option, Some, codes, refl}
use Rattle.std.proofs.Common.{sym, ap, subst, ◌∙◌}
use Rattle.std.proofs.lemmas.Option.{same_Some}
use Rattle.std.specs.Prelude.{slice_get, unwrap_or, if◌then◌else◌}
use Rattle.module_semantics.specs.Conversions.{conversion_target, keeps_bits}
use Rattle.module_semantics.specs.ExpressionOperators.{type_known}
use Rattle.module_semantics.specs.AlikeTypes.{has_type_form}
use Rattle.module_semantics.specs.ExpressionForms.{expression_has_own_form}
use Rattle.module_semantics.specs.acceptance.Ranges.{resolution_fits}
use Rattle.naga_form.proofs.operators.AllowedParts.{conversion}
use Rattle.naga_form.proofs.operators.Operators.{bits_text, cast_called, conversion_is}
use Rattle.naga_form.proofs.operators.Operators.{typed_notation}
use Rattle.naga_form.proofs.types.WrittenTypes.{tree_there}
use Rattle.naga_form.specs.Expressions.{cast_tree, value_forms}
use Rattle.naga_info.specs.declared.info.TypeResolution.{TypeResolution}
use Rattle.naga_info.specs.declared.info.TypeResolution.TheVariants.{Value}
use Rattle.naga_ir.specs.declared.expression.Expression as ir
use Rattle.naga_ir.specs.declared.expression.Expression.TheVariants.{As}
use Rattle.naga_ir.specs.declared.types.ScalarKind.{ScalarKind}
use Rattle.naga_ir.specs.declared.types.TypeInner.{TypeInner}
use Rattle.naga_ir.specs.declared.types.TypeInner.TheVariants as inner
use Rattle.naga_scope.specs.declared.points.Availability.{Availability}
use Rattle.naga_words.specs.Output.{joined_texts}
use Rattle.naga_wgsl_fns.proofs.ExpressionRows.{own_typed}
use Rattle.naga_wgsl_fns.specs.Expressions.{bitcast_text, callee_text, cast_text, typed_callee}
use Rattle.naga_wgsl_fns.specs.Expressions.{form_at, made_text, operands_at, operands_text}
use Rattle.naga_wgsl_fns.specs.Expressions.{own_text}
use Rattle.naga_wgsl_fns.specs.FunctionText.{CanWrite, IsInText, context, expressions}
use Rattle.naga_wgsl_fns.specs.FunctionText.{type_names_of}
use Rattle.naga_wgsl_fns.specs.Types.{resolution_text}
use Rattle.naga_wgsl_fns.specs.declared.functions.FunctionText.{FunctionText}
use Rattle.wgsl_text.proofs.Expressions.{call_text as call_row_text}
use Rattle.wgsl_text.specs.Expressions.{operands as arguments_of}
use Rattle.wgsl_text.specs.Reading.{printed_type}
use Rattle.wgsl_text.specs.Types.{TypeSpecifier, Named as NamedType}

-- what is called by an operator that has a type
pub typed_row : (f : FunctionText) (table : List Availability) (e : ir.Expression) (handle : ℕ) →
    made_text f table (typed_callee f e) handle ≡
    joined_texts (callee_text f e) (joined_texts (codes "(") (operands_text f table handle))
unfolding made_text callee_text operands_text joined_texts
typed_row f table e handle =
    call_row_text (typed_callee f e)
    (arguments_of (value_forms (form_at f table) (operands_at f handle)))

-- ---- types
pub bitcast_row : (f : FunctionText) (ty : TypeResolution) →
    bitcast_text f ty ≡
    joined_texts (codes "bitcast<") (joined_texts (resolution_text f ty) (codes ">"))
unfolding bitcast_text joined_texts
bitcast_row f ty = refl

-- what is converted to is fit wherever it stands
pub target_fits : (overrides types : ℕ) (from to : TypeInner) (kind : ScalarKind)
    (convert : Option ℕ) → conversion_target from kind convert ≡ Some to →
    resolution_fits overrides types (Value to) ≡ true
target_fits overrides types (inner.Scalar s) to kind convert is =
    subst (λ it. resolution_fits overrides types (Value it) ≡ true) (same_Some _ to is) refl
target_fits overrides types (inner.Vector size s) to kind convert is =
    subst (λ it. resolution_fits overrides types (Value it) ≡ true) (same_Some _ to is) refl
target_fits overrides types (inner.Matrix columns rows s) to kind convert is =
    subst (λ it. resolution_fits overrides types (Value it) ≡ true) (same_Some _ to is) refl
target_fits overrides types _ to kind convert is = absurd cc

module _ (f : FunctionText) (operand : ℕ) (kind : ScalarKind) (convert : Option ℕ)
    (from to : TypeInner) (known : type_known (context f) operand ≡ Some from)
    (target : conversion_target from kind convert ≡ Some to)
    (formed : has_type_form f.known.shader.now.types (Value to) ≡ true) where
  abbrev tree : TypeSpecifier
  tree = (tree_there (type_names_of f) (Value to) formed).0

  -- what is called, by the tree of the type
  callee_is : typed_callee f (As operand kind convert) ≡ cast_tree (keeps_bits from convert) tree
  callee_is =
      ap (λ o. unwrap_or o (NamedType []))
      (conversion_is (context f) (type_names_of f) operand kind convert from to _ known target
      (tree_there (type_names_of f) (Value to) formed).1)

  resolution_is : resolution_text f (Value to) ≡ printed_type tree
  unfolding resolution_text
  resolution_is =
      ap (λ o. printed_type (unwrap_or o (NamedType [])))
      (tree_there (type_names_of f) (Value to) formed).1

  pub callee_row : (bits : Bool) → bits ≡ keeps_bits from convert →
      cast_text f bits (Value to) ≡ callee_text f (As operand kind convert)
  unfolding callee_text cast_text bitcast_text
  callee_row bits is =
      by bits
      ∙ ap printed_type (ap (λ b. cast_tree b tree) is ∙ sym callee_is)
    where
      by : (b : Bool) →
          (if b then codes "bitcast<" ++ (resolution_text f (Value to) ++ codes ">")
          else resolution_text f (Value to)) ≡
          printed_type (cast_tree b tree)
      by true =
          ap (λ w. codes "bitcast<" ++ (w ++ codes ">")) resolution_is
          ∙ sym (bits_text tree)
      by false = resolution_is

pub cast_then : (f : FunctionText) (bits : Bool) (ty : TypeResolution) → bits ≡ true →
    bitcast_text f ty ≡ cast_text f bits ty
unfolding cast_text
cast_then f bits ty is = sym (ap (λ b. if b then bitcast_text f ty else resolution_text f ty) is)

pub cast_else : (f : FunctionText) (bits : Bool) (ty : TypeResolution) → bits ≡ false →
    resolution_text f ty ≡ cast_text f bits ty
unfolding cast_text
cast_else f bits ty is = sym (ap (λ b. if b then bitcast_text f ty else resolution_text f ty) is)

-- ---- what an expression is made of that is a conversion
pub own_conversion : (f : FunctionText) (table : List Availability) {handle : ℕ} {e : ir.Expression}
    {operand : ℕ} {kind : ScalarKind} {convert : Option ℕ} → CanWrite f → IsInText f handle →
    expression_has_own_form f.known.shader.now f.info.now (As operand kind convert) ≡ true →
    slice_get (expressions f) handle ≡ Some e → e ≡ As operand kind convert →
    made_text f table (typed_callee f (As operand kind convert)) handle ≡ own_text f table handle
own_conversion f table {handle} {e} {operand} {kind} {convert} can within may here is =
    let c = conversion f.known.shader.now f.known.info.now f.info.now operand kind convert may in
    let called =
    conversion_is (context f) (type_names_of f) operand kind convert c.from c.to c.tree c.known
    c.target c.is in
    let op = cast_called (context f) kind convert (type_known (context f) operand) in
    ap (λ o. made_text f table (unwrap_or o (NamedType [])) handle) called
    ∙ own_typed f table handle e (As operand kind convert)
    (cast_tree (keeps_bits c.from convert) c.tree) _ can within (typed_notation _ op _ _ called)
    here is refl
