-- What the program of shapes of an accepted module spells: each signature is that of an expression,
-- in a function, in an entry point or among the module's own, or of the zero value that a named
-- constant without a tree counts as.
use Rattle.std.proofs.Common.{[], ◌∷◌, ◌++◌, refl, ◌≡◌, ℕ, false, List, Option, Some, None}
use Rattle.std.proofs.Common.{slice_get, map}
use Rattle.shader_runs.specs.Typing.{IsOneOf, first_of, later_of, Signature}
use Rattle.shader_runs.proofs.Typing.{no_signature}
use Rattle.std.specs.List.{flat_map}
use Rattle.std.specs.Prelude.{take}
use Rattle.naga_ir.specs.Operands.{expression_operands}
use Rattle.naga_ir.specs.declared.expression.Expression.{Expression}
use Rattle.naga_ir.specs.declared.expression.Expression.TheVariants as expression
use Rattle.naga_ir.specs.declared.expression.SwizzleComponent.{SwizzleComponent}
use Rattle.naga_ir.specs.declared.module.Constant.{Constant}
use Rattle.naga_ir.specs.declared.module.Function.{Function}
use Rattle.naga_ir.specs.declared.module.Module.{Module}
use Rattle.naga_ir.specs.declared.types.VectorSize.{VectorSize}
use Rattle.naga_info.specs.declared.info.ModuleInfo.{ModuleInfo}
use Rattle.naga_info.specs.declared.info.TypeResolution.TheVariants.{Handle}
use Rattle.shader_runs.specs.Value.{Word, Spelled, PartWord, IndexWord, Selector, MemberNamed}
use Rattle.module_semantics.specs.acceptance.AgreeingOperators.{Group}
use Rattle.module_semantics.specs.ExpressionOperators.{ExpressionContext, applied_operator}
use Rattle.module_semantics.specs.ExpressionOperators.{constructor}
use Rattle.module_semantics.specs.ExpressionShapes.{ModuleDeclarations, part_selector, letter}
use Rattle.module_semantics.specs.OperatorTable.{Operator, run_word, asks}
use Rattle.module_semantics.specs.ExpressionContexts.{expression_context, declared}
use Rattle.module_semantics.specs.TypeIdentity.{component_count}
use Rattle.module_semantics.specs.Types.{type_of_values}
use Rattle.naga_form.proofs.declarations.AcceptedGroups.{IsSoundGroup}
use Rattle.naga_form.proofs.operators.AgreeingUses.{value_at}

-- ---- lists of signatures
-- the only one of a list
pub only_signature : (x y : Signature) → IsOneOf x (y ∷ []) → x ≡ y
only_signature x y first_of = refl
only_signature x y (later_of there) = absurd (no_signature x there)

-- one of two lists in a row is one of one of them
pub either_signature : {A : Type 0} (x : Signature) (xs ys : List Signature) → (IsOneOf x xs → A) →
    (IsOneOf x ys → A) → IsOneOf x (xs ++ ys) → A
either_signature x [] ys one two among = two among
either_signature x (y ∷ xs) ys one two first_of = one first_of
either_signature x (y ∷ xs) ys one two (later_of there) =
    either_signature x xs ys (λ k. one (later_of k)) two there

module _ (m : Module) (info : ModuleInfo) where
  -- the context of expressions that stand together, and what the module declares for them
  abbrev pub group_context : Group → ExpressionContext
  group_context g = expression_context m (λ h. slice_get g.known h)

  abbrev pub declared_for : Group → ModuleDeclarations
  declared_for g = declared m info (λ h. slice_get g.known h)

  -- the word by which the runs call what an expression applies
  pub data IsCalled (g : Group) (e : Expression) : Word → Type 0 where
    by_operator : (o : Operator) → applied_operator (group_context g) e ≡ Some o → asks o ≡ false →
        IsCalled g e (Spelled (run_word o))
    by_zero : (ty : ℕ) → e ≡ expression.ZeroValue ty →
        IsCalled g e (Spelled (run_word (constructor (group_context g) (Handle ty) 0)))
    by_constant : (c : ℕ) (k : Constant) → e ≡ expression.Constant c →
        slice_get m.constants c ≡ Some k →
        IsCalled g e (Spelled (run_word (constructor (group_context g) (Handle k.ty) 0)))
    by_index : (base index : ℕ) → e ≡ expression.Access base index → IsCalled g e IndexWord
    by_part : (base index : ℕ) (s : Selector) → e ≡ expression.AccessIndex base index →
        part_selector (declared_for g) base index ≡ Some s → IsCalled g e (PartWord s)
    by_letters : (size : VectorSize) (vector : ℕ) (pattern : List SwizzleComponent) →
        e ≡ expression.Swizzle size vector pattern →
        IsCalled g e (PartWord (MemberNamed (flat_map letter (take (component_count size) pattern))))

  -- the signature of an expression of a sound group
  pub record IsOfExpression (x : Signature) : Type 0 where
    pub function : Option Function
    pub group : Group
    pub sound : IsSoundGroup m info function group
    pub handle : ℕ
    pub expression : Expression
    pub there : slice_get group.expressions handle ≡ Some expression
    pub called : IsCalled group expression x.word
    pub operands : x.operands ≡ map (value_at m info group.known) (expression_operands expression)
    pub result : x.result ≡ value_at m info group.known handle

  -- the signature of the zero value of a type
  pub record IsOfZero (x : Signature) : Type 0 where
    pub ty : ℕ
    pub word : x.word
        ≡ Spelled (run_word (constructor (expression_context m (λ h. None)) (Handle ty) 0))
    pub operands : x.operands ≡ []
    pub result : x.result ≡ type_of_values m (Handle ty)
