-- What the program of shapes of an accepted module spells: each signature is that of an expression,
-- or of a zero value in an initialiser.
-- What is said of trees of constants, and of the initialisers of named ones, is a premise here.
use Rattle.module_semantics.specs.Names.{TypesAreDistinguished}
use Rattle.naga_form.proofs.operators.Signatures.{either_signature, only_signature, declared_for}
use Rattle.naga_form.proofs.operators.Signatures.{IsCalled, by_operator, by_index, by_part}
use Rattle.naga_form.proofs.operators.Signatures.{by_letters, IsOfExpression, IsOfZero}
use Rattle.std.proofs.Common.{◌≡◌, ℕ, Bool, true, false, List, [], ◌∷◌, ◌++◌, refl, sym, ap, ◌∙◌}
use Rattle.std.proofs.Common.{subst, Option, Some, None, ◌⊎◌, inl, slice_get, if◌then◌else◌}
use Rattle.std.specs.Prelude.{IsTrue, ◌||◌, unwrap_or, take}
use Rattle.std.specs.List.{flat_map}
use Rattle.std.specs.Option.{option_map, option_map_or, option_and_then, option_to_list, is_some}
use Rattle.naga_ir.specs.Operands.{expression_operands}
use Rattle.naga_ir.specs.declared.expression.Expression as ir
use Rattle.naga_ir.specs.declared.expression.Expression.TheVariants as expression
use Rattle.naga_ir.specs.declared.expression.SampleLevel.{SampleLevel}
use Rattle.naga_ir.specs.declared.expression.SampleLevel.TheVariants as level
use Rattle.naga_ir.specs.declared.module.Function as ir_function
use Rattle.naga_ir.specs.declared.module.Module as ir_module
use Rattle.naga_ir.specs.declared.operators.BinaryOperator.TheVariants.{LogicalAnd, LogicalOr}
use Rattle.naga_ir.specs.declared.types.TypeInner.{TypeInner}
use Rattle.naga_ir.specs.declared.types.TypeInner.TheVariants as inner
use Rattle.naga_info.specs.Resolution.{inner_of, handle_of}
use Rattle.naga_info.specs.declared.info.ExpressionInfo.{ExpressionInfo}
use Rattle.naga_info.specs.declared.info.ModuleInfo.{ModuleInfo}
use Rattle.naga_info.specs.declared.info.TypeResolution.{TypeResolution}
use Rattle.naga_info.specs.declared.info.TypeResolution.TheVariants.{Handle}
use Rattle.module_semantics.specs.acceptance.Accepted.{is_accepted}
use Rattle.module_semantics.specs.acceptance.AgreeingOperators.{Group, function_group}
use Rattle.module_semantics.specs.ExpressionOperators.{applied_operator, constructor, load_operator}
use Rattle.module_semantics.specs.ExpressionOperators.{type_with, is_composite, has_parts}
use Rattle.module_semantics.specs.ExpressionOperators.{part_operator}
use Rattle.module_semantics.specs.ExpressionShapes.{ModuleDeclarations, constant_tree, tree_over, tree_within}
use Rattle.module_semantics.specs.ExpressionShapes.{built, trees, applied_or, own_selector, selector}
use Rattle.module_semantics.specs.ExpressionShapes.{part_selector, part_shape, written_zero, shape_of}
use Rattle.module_semantics.specs.ExpressionShapes.{letter}
use Rattle.module_semantics.specs.FunctionShapes.{function_shape}
use Rattle.module_semantics.specs.ModuleShapes.{module_shape}
use Rattle.module_semantics.specs.OperatorTable.{Operator as TableOperator, BinarySign, WithoutForm}
use Rattle.module_semantics.specs.OperatorTable.{PartAt, run_word, asks}
use Rattle.module_semantics.specs.Shapes.{operator_shape}
use Rattle.module_semantics.specs.TypeIdentity.{component_count}
use Rattle.shader_runs.specs.Premises.{handle_types}
use Rattle.shader_runs.specs.Program.{ConstantTree, Fixed, no_constant, Expression, Function, Load}
use Rattle.shader_runs.specs.Program.{Module, Request, Result, expression_of, handle_type}
use Rattle.shader_runs.specs.Typing.{Signature, signatures_of, constant_signatures}
use Rattle.shader_runs.specs.Typing.{constants_signatures, IsOneOf, IsSpelled, in_function}
use Rattle.shader_runs.specs.Typing.{in_initialiser}
use Rattle.shader_runs.specs.Value.{ValueType, Truth, Word, Spelled, PartWord, IndexWord, Selector}
use Rattle.shader_runs.specs.Value.{MemberNamed}
use Rattle.shader_runs.proofs.Typing.{no_signature}
use Rattle.naga_form.proofs.declarations.AcceptedGroups.{IsSoundGroup}
use Rattle.naga_form.proofs.ModuleIndices.{function_at, expression_is, handle_type_is}
use Rattle.naga_form.proofs.ModuleIndices.{handle_types_are}

-- an operator over operands spells one signature, whether or not it is a short circuit
operator_spells : (p : Module) (f : Function) (k : ValueType) (o : TableOperator) (hs : List ℕ) →
    signatures_of p f k (Some (operator_shape o hs)) ≡
    record { word = Spelled (run_word o); operands = handle_types f hs; result = k } ∷ []
operator_spells p f k (BinarySign LogicalAnd) (l ∷ r ∷ []) = refl
operator_spells p f k (BinarySign LogicalOr) (l ∷ r ∷ []) = refl
operator_spells p f k o hs = refl

-- ---- what has no parts
module _ (d : ModuleDeclarations) (index : ℕ) where
  no_own_selector : (whole : Option ℕ) (it : TypeInner) → own_selector d whole it index ≡ None → is_composite it ≡ false
  no_own_selector whole (inner.Vector size s) none = absurd cc
  no_own_selector whole (inner.Matrix columns rows s) none = absurd cc
  no_own_selector whole (inner.Array base size stride) none = absurd cc
  no_own_selector whole (inner.BindingArray base size) none = absurd cc
  no_own_selector whole (inner.Struct members span) none = absurd cc
  no_own_selector whole _ none = refl

  no_pointee_selector : (base : ℕ) (o : Option TypeInner) →
      option_and_then (λ it. own_selector d (Some base) it index) o ≡ None → option_map_or is_composite o false ≡ false
  no_pointee_selector base (Some it) none = no_own_selector (Some base) it none
  no_pointee_selector base None none = refl

  no_selector : (whole : Option ℕ) (it : TypeInner) → selector d whole it index ≡ None →
      has_parts d.context.types it ≡ false
  no_selector whole (inner.Pointer base space) none = no_pointee_selector base (type_with d.context.types base) none
  no_selector whole (inner.ValuePointer (Some size) s space) none = absurd cc
  no_selector whole (inner.ValuePointer None s space) none = refl
  no_selector whole it none = no_own_selector whole it none

  no_selector_of : (whole : Option ℕ) (o : Option TypeInner) →
      option_and_then (λ it. selector d whole it index) o ≡ None →
      option_map_or (has_parts d.context.types) o false ≡ false
  no_selector_of whole (Some it) none = no_selector whole it none
  no_selector_of whole None none = refl

  -- where an expression has no part, an operator by itself is applied
  part_is_applied : (base : ℕ) → part_selector d base index ≡ None → part_operator d.context base index
      ≡ Some (WithoutForm (PartAt index))
  part_is_applied base none =
      ap (λ b. if b then None else Some (WithoutForm (PartAt index))) (by (d.context.known base) none)
    where
      by : (o : Option TypeResolution) →
          option_and_then (λ r. option_and_then (λ it. selector d (handle_of r) it index)
          (inner_of r d.context.types)) o ≡ None →
          option_map_or (has_parts d.context.types) (option_and_then (λ r. inner_of r d.context.types) o) false ≡ false
      by (Some r) none = no_selector_of (handle_of r) (inner_of r d.context.types) none
      by None none = refl

-- ---- what a function spells
module _ (m : ir_module.Module) (info : ModuleInfo)
    (of_trees : (f : Option ir_function.Function) (g : Group) → IsSoundGroup m info f g →
    (h : ℕ) (t : ConstantTree) → constant_tree (declared_for m info g) g.expressions h ≡ Some t →
    (x : Signature) → IsOneOf x (constant_signatures (module_shape m info) t) →
    IsOfExpression m info x) where
  abbrev p : Module
  p = module_shape m info

  -- at the handle of an expression
  module _ (function : ir_function.Function) (es : List ExpressionInfo)
      (sound : IsSoundGroup m info (Some function) (function_group function es)) (h : ℕ)
      (e : ir.Expression) (at : slice_get function.expressions h ≡ Some e) (x : Signature) where
    abbrev g : Group
    g = function_group function es

    abbrev d : ModuleDeclarations
    d = declared_for m info g

    abbrev own : Function
    own = function_shape m info function es

    -- the one signature over the operands of the expression
    of_one : (w : Word) → IsCalled m info g e w →
        IsOneOf x (record {
          word = w;
          operands = handle_types own (expression_operands e);
          result = handle_type own h;
        } ∷ []) → IsOfExpression m info x
    of_one w called among =
        let same = only_signature x
        (record {
          word = w;
          operands = handle_types own (expression_operands e);
          result = handle_type own h;
        }) among in
        record {
          function = Some function;
          group = g;
          sound = sound;
          handle = h;
          expression = e;
          there = at;
          called = subst (IsCalled m info g e) (sym (ap (λ y. y.word) same)) called;
          operands = ap (λ y. y.operands) same ∙ handle_types_are m info function es (expression_operands e);
          result = ap (λ y. y.result) same ∙ handle_type_is m info function es h;
        }

    -- an operator that is applied; one that asks spells nothing
    of_applied : (otherwise : Expression) → signatures_of p own (handle_type own h) (Some otherwise) ≡ [] →
        (o : Option TableOperator) → applied_operator d.context e ≡ o →
        IsOneOf x (signatures_of p own (handle_type own h)
        (Some (applied_or otherwise (expression_operands e) o))) → IsOfExpression m info x
    of_applied otherwise none None is among = absurd (no_signature x (subst (IsOneOf x) none among))
    of_applied otherwise none (Some o) is among = by (asks o) refl among
      where
        by : (b : Bool) → asks o ≡ b →
            IsOneOf x (signatures_of p own (handle_type own h)
            (Some (if b then Request (run_word o) (expression_operands e) no_constant
            else operator_shape o (expression_operands e)))) → IsOfExpression m info x
        by true asked among = absurd (no_signature x among)
        by false asked among =
            of_one (Spelled (run_word o)) (by_operator o is asked)
            (subst (IsOneOf x) (operator_spells p own (handle_type own h) o (expression_operands e)) among)

    -- the tree of the expression, if it is a constant
    tree_here : constant_tree d g.expressions h ≡ tree_over d (tree_within h d g.expressions) h e
    tree_here = ap (option_and_then (tree_over d (tree_within h d g.expressions) h)) at

    of_constant : (o : Option ConstantTree) → constant_tree d g.expressions h ≡ o →
        IsOneOf x (constant_signatures p (unwrap_or o (Fixed (Truth false)))) → IsOfExpression m info x
    of_constant (Some t) is among = of_trees (Some function) g sound h t is x among
    of_constant None is among = absurd (no_signature x among)

    -- ---- images
    -- a level of zero that is written spells nothing
    zero_spells : (l : SampleLevel) (unwritten : Bool) (ts : List ConstantTree) →
        constants_signatures p (trees (written_zero l unwritten ++ ts)) ≡ constants_signatures p (trees ts)
    zero_spells level.Zero false ts = refl
    zero_spells level.Zero true ts = refl
    zero_spells _ unwritten ts = refl

    -- an offset that is written spells what its tree does
    of_offset : (offset : Option ℕ) →
        IsOneOf x (constants_signatures p
        (trees (option_to_list (option_and_then (constant_tree d g.expressions) offset)))) → IsOfExpression m info x
    of_offset None among = absurd (no_signature x among)
    of_offset (Some k) among = by (constant_tree d g.expressions k) refl among
      where
        by : (o : Option ConstantTree) → constant_tree d g.expressions k ≡ o →
            IsOneOf x (constants_signatures p (trees (option_to_list o))) → IsOfExpression m info x
        by None is among = absurd (no_signature x among)
        by (Some t) is among =
            either_signature x (constant_signatures p t) [] (of_trees (Some function) g sound k t is x)
            (λ none. absurd (no_signature x none)) among

    of_sample : (l : SampleLevel) (unwritten : Bool) (offset : Option ℕ) →
        IsOneOf x (constants_signatures p
        (trees (written_zero l unwritten ++ option_to_list
        (option_and_then (constant_tree d g.expressions) offset)))) → IsOfExpression m info x
    of_sample l unwritten offset among =
        of_offset offset
        (subst (IsOneOf x) (zero_spells l unwritten
        (option_to_list (option_and_then (constant_tree d g.expressions) offset))) among)

  module _ (function : ir_function.Function) (es : List ExpressionInfo)
      (sound : IsSoundGroup m info (Some function) (function_group function es)) (h : ℕ) where
    abbrev context : ModuleDeclarations
    context = declared_for m info (function_group function es)

    abbrev shape : Function
    shape = function_shape m info function es

    -- what the shape of an expression spells
    spelled_by : (e : ir.Expression) → slice_get function.expressions h ≡ Some e →
        (x : Signature) →
        IsOneOf x (signatures_of p shape (handle_type shape h)
        (Some (shape_of context function.expressions h e))) → IsOfExpression m info x
    spelled_by (expression.Literal value) at x among = absurd (no_signature x among)
    spelled_by (expression.Constant handle) at x among =
        let e = expression.Constant handle in
        of_constant function es sound h e at x (context.constant_tree handle)
        (tree_here function es sound h e at x) among
    spelled_by (expression.Override handle) at x among = absurd (no_signature x among)
    spelled_by (expression.ZeroValue ty) at x among =
        let e = expression.ZeroValue ty in
        of_constant function es sound h e at x
        (built context h (constructor context.context (Handle ty) 0) [])
        (tree_here function es sound h e at x) among
    spelled_by (expression.FunctionArgument number) at x among = absurd (no_signature x among)
    spelled_by (expression.GlobalVariable handle) at x among = absurd (no_signature x among)
    spelled_by (expression.LocalVariable handle) at x among = absurd (no_signature x among)
    spelled_by (expression.Access base index) at x among =
        of_one function es sound h (expression.Access base index) at x IndexWord (by_index base index refl) among
    spelled_by (expression.AccessIndex base index) at x among = by (part_selector context base index) refl among
      where
        by : (o : Option Selector) → part_selector context base index ≡ o →
            IsOneOf x (signatures_of p shape (handle_type shape h) (Some (part_shape base index o))) →
            IsOfExpression m info x
        by (Some s) is among =
            of_one function es sound h (expression.AccessIndex base index) at x (PartWord s)
            (by_part base index s refl is) among
        by None is among =
            of_applied function es sound h (expression.AccessIndex base index) at x Result refl
            (Some (WithoutForm (PartAt index))) (part_is_applied context index base is) among
    spelled_by (expression.Swizzle size vector pattern) at x among =
        of_one function es sound h (expression.Swizzle size vector pattern) at x
        (PartWord (MemberNamed (flat_map letter (take (component_count size) pattern))))
        (by_letters size vector pattern refl) among
    spelled_by (expression.Load pointer) at x among =
        of_applied function es sound h (expression.Load pointer) at x (Load pointer) refl
        (load_operator context.context pointer) refl among
    spelled_by (expression.ImageSample image sampler gather coordinate array_index offset level depth_ref clamp)
        at x among =
        of_sample function es sound h
        (expression.ImageSample image sampler gather coordinate array_index offset level
        depth_ref clamp) at x level (is_some gather || (is_some depth_ref || clamp)) offset
        among
    spelled_by e at x among = of_applied function es sound h e at x Result refl
        (applied_operator context.context e) refl among

    -- what is spelled at a handle
    spelled_at : (x : Signature) →
        IsOneOf x (signatures_of p shape (handle_type shape h) (expression_of shape h)) → IsOfExpression m info x
    spelled_at x among =
        by (slice_get function.expressions h) refl
        (subst (λ o. IsOneOf x (signatures_of p shape (handle_type shape h) o))
        (expression_is m info function es h) among)
      where
        by : (o : Option ir.Expression) → slice_get function.expressions h ≡ o →
            IsOneOf x (signatures_of p shape (handle_type shape h)
            (option_map (shape_of context function.expressions h) o)) → IsOfExpression m info x
        by (Some e) at among = spelled_by e at x among
        by None at among = absurd (no_signature x among)

  -- ---- what the module spells
  module _ (accepted : IsTrue (is_accepted m info)) (distinguished : TypesAreDistinguished m)
      (of_initialisers : (i : ℕ) (e : ConstantTree) →
      slice_get (module_shape m info).initialisers i ≡ Some e →
      (x : Signature) → IsOneOf x (constant_signatures (module_shape m info) e) →
      IsOfExpression m info x ⊎ IsOfZero m info x) where
    -- each signature that is spelled is that of an expression, or of a zero value in an initialiser
    pub of_spelled : (x : Signature) → IsSpelled (module_shape m info) x →
        IsOfExpression m info x ⊎ IsOfZero m info x
    of_spelled x (in_initialiser i e there among) = of_initialisers i e there x among
    of_spelled x (in_function place f there h among) =
        let k = function_at m info accepted distinguished place f there in
        inl (spelled_at k.function k.known k.sound h x
        (subst (λ f. IsOneOf x (signatures_of p f (handle_type f h) (expression_of f h))) k.same
        among))
