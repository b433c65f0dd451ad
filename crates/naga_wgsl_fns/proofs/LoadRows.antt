-- The texts of loads: by whether an atomic is loaded, and of a cooperative matrix from what is written
-- of it in turn.
-- Serves `expression`, `write_matrix_callee` and `write_taking`.
use Rattle.std.proofs.Common.{◌≡◌, ℕ, Bool, true, false, List, [], ◌∷◌, ◌++◌, Some, codes, ap, refl}
use Rattle.std.proofs.Common.{sym, ◌∙◌}
use Rattle.std.specs.Prelude.{slice_get, unwrap_or, if◌then◌else◌}
use Rattle.std.specs.Option.{option_map_or}
use Rattle.module_semantics.specs.AlikeTypes.{has_type_form}
use Rattle.module_semantics.specs.ExpressionOperators.{is_atomic_pointer}
use Rattle.module_semantics.specs.OperatorTable.{AtomicLoad, run_word}
use Rattle.module_semantics.specs.ExpressionForms.{expression_has_own_form}
use Rattle.naga_form.proofs.operators.AllowedParts.{loaded_matrix}
use Rattle.naga_form.proofs.operators.Operators.{load_called, load_text as loaded_text, matrix_is}
use Rattle.naga_form.proofs.operators.Operators.{typed_notation}
use Rattle.naga_form.proofs.types.WrittenTypes.{tree_there}
use Rattle.naga_form.specs.Expressions.{load_tree, scalar_pointed}
use Rattle.naga_form.specs.Operators.{Called}
use Rattle.naga_info.specs.declared.info.TypeResolution.{TypeResolution}
use Rattle.naga_info.specs.declared.info.TypeResolution.TheVariants.{Value}
use Rattle.naga_ir.specs.Operands.{expression_operands}
use Rattle.naga_ir.specs.declared.expression.CooperativeData.{CooperativeData}
use Rattle.naga_ir.specs.declared.expression.Expression as ir
use Rattle.naga_ir.specs.declared.expression.Expression.TheVariants.{CooperativeLoad, Load}
use Rattle.naga_ir.specs.declared.types.CooperativeRole.{CooperativeRole}
use Rattle.naga_ir.specs.declared.types.CooperativeSize.{CooperativeSize}
use Rattle.naga_ir.specs.declared.types.Scalar.{Scalar}
use Rattle.naga_ir.specs.declared.types.TypeInner.{TypeInner}
use Rattle.naga_ir.specs.declared.types.TypeInner.TheVariants as inner
use Rattle.naga_scope.specs.declared.points.Availability.{Availability}
use Rattle.naga_words.specs.Output.{joined_texts}
use Rattle.naga_wgsl_fns.proofs.ExpressionRows.{own_typed}
use Rattle.naga_wgsl_fns.specs.Expressions.{applied_text, callee_text, called_text, load_text}
use Rattle.naga_wgsl_fns.specs.Expressions.{load_word, made_text, own_text, reference_text}
use Rattle.naga_wgsl_fns.specs.Expressions.{taking_text, typed_callee}
use Rattle.naga_wgsl_fns.specs.FunctionText.{CanWrite, IsInText, context, expressions}
use Rattle.naga_wgsl_fns.specs.FunctionText.{type_names_of}
use Rattle.naga_wgsl_fns.specs.Types.{resolution_text}
use Rattle.naga_wgsl_fns.specs.declared.functions.FunctionText.{FunctionText}
use Rattle.wgsl_text.specs.Reading.{printed_type}
use Rattle.wgsl_text.specs.Types.{TypeSpecifier, Named as NamedType}

-- ---- atomics
pub atomic_loaded : (f : FunctionText) (table : List Availability) (handle pointer : ℕ) →
    slice_get (expressions f) handle ≡ Some (Load pointer) →
    is_atomic_pointer (context f) pointer ≡ true →
    called_text f table (codes "atomicLoad") handle ≡ load_text f table pointer
unfolding called_text load_text
atomic_loaded f table handle pointer at is =
    ap
    (λ o. applied_text f table (Called (NamedType (codes "atomicLoad")))
    (option_map_or expression_operands o [])) at
    ∙ sym
    (ap
    (λ b. if b then applied_text f table (Called (NamedType (run_word AtomicLoad))) (pointer ∷ [])
    else reference_text f table pointer) is)

pub other_loaded : (f : FunctionText) (table : List Availability) (pointer : ℕ) →
    is_atomic_pointer (context f) pointer ≡ false →
    reference_text f table pointer ≡ load_text f table pointer
unfolding load_text
other_loaded f table pointer is =
    sym
    (ap
    (λ b. if b then applied_text f table (Called (NamedType (run_word AtomicLoad))) (pointer ∷ [])
    else reference_text f table pointer) is)

-- ---- cooperative matrices
module _ (f : FunctionText) (columns rows : CooperativeSize) (role : CooperativeRole)
    (place : CooperativeData) (s : Scalar)
    (known : scalar_pointed (context f) place.pointer ≡ Some s)
    (formed :
    has_type_form f.known.shader.now.types (Value (inner.CooperativeMatrix columns rows s role)) ≡ true)
  where
    abbrev it : TypeInner
    it = inner.CooperativeMatrix columns rows s role

    abbrev tree : TypeSpecifier
    tree = (tree_there (type_names_of f) (Value it) formed).0

    -- what is called, by the tree of the type
    callee_is : typed_callee f (CooperativeLoad columns rows role place) ≡ load_tree place.row_major tree
    callee_is =
        ap (λ o. unwrap_or o (NamedType []))
        (matrix_is (context f) (type_names_of f) columns rows role place s _ known
        (tree_there (type_names_of f) (Value it) formed).1)

    resolution_is : resolution_text f (Value it) ≡ printed_type tree
    unfolding resolution_text
    resolution_is =
        ap (λ o. printed_type (unwrap_or o (NamedType [])))
        (tree_there (type_names_of f) (Value it) formed).1

    pub matrix_callee_row : (word : List ℕ) → word ≡ load_word place.row_major →
        taking_text f word (Value it) ≡ callee_text f (CooperativeLoad columns rows role place)
    unfolding taking_text callee_text
    matrix_callee_row word is =
        (λ i. is i ++ (codes "<" ++ (resolution_is i ++ codes ">")))
        ∙ (by place.row_major ∙ sym (ap printed_type callee_is))
      where
        by : (b : Bool) →
            load_word b ++ (codes "<" ++ (printed_type tree ++ codes ">")) ≡
            printed_type (load_tree b tree)
        by true = sym (loaded_text true tree)
        by false = sym (loaded_text false tree)

pub taking_row : (f : FunctionText) (word : List ℕ) (ty : TypeResolution) →
    taking_text f word ty ≡
    joined_texts word (joined_texts (codes "<") (joined_texts (resolution_text f ty) (codes ">")))
unfolding taking_text joined_texts
taking_row f word ty = refl

-- what an expression is made of that loads a matrix
pub own_matrix_load : (f : FunctionText) (table : List Availability) {handle : ℕ}
    {e : ir.Expression}
    {columns rows : CooperativeSize} {role : CooperativeRole} {place : CooperativeData} →
    CanWrite f → IsInText f handle →
    expression_has_own_form f.known.shader.now f.info.now (CooperativeLoad columns rows role place) ≡ true →
    slice_get (expressions f) handle ≡ Some e → e ≡ CooperativeLoad columns rows role place →
    made_text f table (typed_callee f (CooperativeLoad columns rows role place)) handle ≡
    own_text f table handle
own_matrix_load f table {handle} {e} {columns} {rows} {role} {place} can within may here is =
    let c =
    loaded_matrix f.known.shader.now f.known.info.now f.info.now columns rows role place may in
    let called =
    matrix_is (context f) (type_names_of f) columns rows role place c.scalar c.tree c.known c.is in
    let op = load_called (context f) columns rows role place in
    ap (λ o. made_text f table (unwrap_or o (NamedType [])) handle) called
    ∙ own_typed f table handle e (CooperativeLoad columns rows role place)
    (load_tree place.row_major c.tree) _ can within (typed_notation _ op _ _ called) here is refl
