-- Leaves of every accepted function have the types of what they stand for: arguments, locals and
-- variables of the module. What is said of constants is asked.
use Rattle.std.proofs.Common.{◌≡◌, ℕ, ◌<◌, Bool, true, false, List, [], ◌∷◌, ◌++◌, Option, Some}
use Rattle.std.proofs.Common.{None, refl, sym, ap, ◌∙◌, subst, slice_get, map, if◌then◌else◌}
use Rattle.std.specs.Option.{option_to_list, option_and_then, option_map, option_map_or}
use Rattle.std.proofs.lemmas.Option.{slice_get_within}
use Rattle.std.proofs.lemmas.Slice.Eq.{bytes_eq-Decides}
use Rattle.naga_info.proofs.Options.{map_some, then_some}
use Rattle.naga_ir.specs.declared.expression.Expression as ir
use Rattle.naga_ir.specs.declared.expression.Expression.TheVariants as expression
use Rattle.naga_ir.specs.declared.expression.SampleLevel.{SampleLevel}
use Rattle.naga_ir.specs.declared.expression.SampleLevel.TheVariants as level
use Rattle.naga_ir.specs.declared.expression.SwizzleComponent.{SwizzleComponent}
use Rattle.naga_ir.specs.declared.module.Function.{Function}
use Rattle.naga_ir.specs.declared.module.GlobalVariable.{GlobalVariable}
use Rattle.naga_ir.specs.declared.module.Module.{Module}
use Rattle.naga_ir.specs.declared.types.AddressSpace.{AddressSpace}
use Rattle.naga_ir.specs.declared.types.AddressSpace.TheVariants as space
use Rattle.naga_ir.specs.declared.types.TypeInner.{TypeInner}
use Rattle.naga_ir.specs.declared.types.TypeInner.TheVariants as inner
use Rattle.naga_ir.specs.declared.types.VectorSize.{VectorSize}
use Rattle.naga_info.specs.declared.info.ExpressionInfo.{ExpressionInfo}
use Rattle.naga_info.specs.declared.info.ModuleInfo.{ModuleInfo}
use Rattle.naga_info.specs.declared.info.TypeResolution.{TypeResolution}
use Rattle.naga_info.specs.declared.info.TypeResolution.TheVariants.{Handle, Value}
use Rattle.module_semantics.specs.acceptance.AgreeingOperators.{function_group}
use Rattle.module_semantics.specs.AlikeTypes.{are_alike, type_identity}
use Rattle.module_semantics.specs.ExpressionOperators.{is_atomic_pointer, constructor}
use Rattle.module_semantics.specs.ExpressionShapes.{ModuleDeclarations, shape_of, applied_shape, applied_or}
use Rattle.module_semantics.specs.ExpressionShapes.{part_shape, part_selector, constant_tree, trees}
use Rattle.module_semantics.specs.ExpressionShapes.{written_zero, constant_shape, tree_over}
use Rattle.module_semantics.specs.ExpressionShapes.{tree_within, built}
use Rattle.module_semantics.specs.Literals.{literal_value}
use Rattle.module_semantics.specs.acceptance.ExpressionTypes.{expression_type_fits, is_expected, only}
use Rattle.module_semantics.specs.acceptance.ExpressionTypes.{global_type, argument_type, local_type}
use Rattle.module_semantics.specs.acceptance.ExpressionTypes.{variable_type}
use Rattle.module_semantics.specs.FunctionShapes.{function_shape}
use Rattle.module_semantics.specs.acceptance.InfoSizes.{is_handle_space}
use Rattle.module_semantics.specs.ModuleShapes.{module_shape, variable_shape}
use Rattle.module_semantics.specs.acceptance.OperandDemands.{is_swizzled}
use Rattle.module_semantics.specs.OperatorTable.{Operator, AtomicLoad, BinarySign, run_word}
use Rattle.module_semantics.specs.ExpressionContexts.{declared, types_known, is_handle_variable}
use Rattle.module_semantics.specs.ExpressionContexts.{written_constant}
use Rattle.module_semantics.specs.Types.{declared_type, type_of_values, word_of_values, values_of}
use Rattle.shader_runs.specs.Premises.{LeafFits, ConstantInRange, ConstantsInRange, IsNoPointer}
use Rattle.shader_runs.specs.Premises.{constant_type as constant_tree_type}
use Rattle.shader_runs.specs.Program as shapes
use Rattle.shader_runs.specs.Program.{Constant, ConstantTree, expression_of, handle_type, Load}
use Rattle.shader_runs.specs.Program.{Fixed, Composed, no_constant, Held, AtPlace, is_held}
use Rattle.shader_runs.specs.Value.{Selector, BooleanType, PointerType, type_at}
use Rattle.naga_form.proofs.declarations.AcceptedGroups.{IsSoundGroup, own_known}
use Rattle.naga_form.proofs.operators.AgreeingUses.{value_at}
use Rattle.naga_form.proofs.Fits.{mapped_at, type_at_mapped, mapped_length}
use Rattle.naga_form.proofs.types.SameValues.{TypesAreCounted, IsFit, values_by_numbers}
use Rattle.naga_form.proofs.statements.WellFormed.{any_shape, applied_any, operand_at, values_are}
use Rattle.naga_form.proofs.statements.WellFormed.{typed_known}

-- ---- types
-- types that are alike have values of one type
pub alike_values : (m : Module) → TypesAreCounted m → (r s : TypeResolution) → IsFit m r → IsFit m s →
    are_alike m.types r s ≡ true → type_of_values m r ≡ type_of_values m s
alike_values m are r s p q alike =
    values_by_numbers m are r s p q
    ((bytes_eq-Decides (type_identity m.types r) (type_identity m.types s)).0 alike)

-- a type that only one type is like
only_alike : (m : Module) (o : Option TypeResolution) (r : TypeResolution) →
    is_expected m.types (only o) r ≡ true →
    (s : TypeResolution) × (o ≡ Some s) × (are_alike m.types r s ≡ true)
only_alike m None r wanted = absurd cc
only_alike m (Some s) r wanted = (s, refl, wanted)

-- a pointer to a local is fit, and so is a variable
pub local_fit : (m : Module) (ty : ℕ) → IsFit m (Value (inner.Pointer ty space.Function))
local_fit m ty = (refl, tt, refl)

-- a variable is held just where it is in the handle space, and its name has the type that is known
held_by_space : (m : Module) (g : GlobalVariable) → is_handle_space g.space ≡ is_held (variable_shape m g)
held_by_space m g = by (is_handle_space g.space)
  where
    by : (b : Bool) → b ≡ is_held (if b then Held (declared_type m g.ty) else AtPlace
        (word_of_values m (variable_type g.space g.ty)))
    by true = refl
    by false = refl

typed_by_space : (m : Module) (g : GlobalVariable) → type_of_values m (variable_type g.space g.ty)
    ≡ shapes.variable_type (variable_shape m g)
typed_by_space m g = by g.space
  where
    by : (at : AddressSpace) → type_of_values m (variable_type at g.ty) ≡ shapes.variable_type
        (if is_handle_space at then Held (declared_type m g.ty) else AtPlace (word_of_values m (variable_type at g.ty)))
    by space.Handle = refl
    by _ = refl

pub variable_fit : (m : Module) (at : AddressSpace) (ty : ℕ) → IsFit m (variable_type at ty)
variable_fit m space.Handle ty = tt
variable_fit m _ ty = (refl, tt, refl)

-- ---- what is asked of constants
-- The trees of a function's expressions have the types that are known and name what is there, and
-- each constant that an expression names has a tree. Acceptance doesn't say the last: the constant's
-- initialiser may be any global expression.
pub record ConstantsAreTyped (m : Module) (info : ModuleInfo) (f : Function)
    (es : List ExpressionInfo) : Type 0 where
  pub types : (h : ℕ) (t : ConstantTree) →
      constant_tree (declared m info (types_known es)) f.expressions h ≡ Some t →
      constant_tree_type (module_shape m info) t ≡ value_at m info (map (λ e. e.ty) es) h
  pub ranges : (h : ℕ) (t : ConstantTree) →
      constant_tree (declared m info (types_known es)) f.expressions h ≡ Some t →
      ConstantInRange (module_shape m info) t
  pub written : (h c : ℕ) → slice_get f.expressions h ≡ Some (expression.Constant c) →
      (t : ConstantTree) × (written_constant m info c ≡ Some t)

-- level zero is a literal
zero_in_range : (p : shapes.Module) (l : SampleLevel) (unwritten : Bool) (ts : List ConstantTree) →
    ConstantsInRange p (trees ts) → ConstantsInRange p (trees (written_zero l unwritten ++ ts))
zero_in_range p level.Zero false ts all = (tt, all)
zero_in_range p level.Zero true ts all = all
zero_in_range p _ unwritten ts all = all

offset_in_range : (p : shapes.Module) (o : Option ConstantTree) →
    ((t : ConstantTree) → o ≡ Some t → ConstantInRange p t) →
    ConstantsInRange p (trees (option_to_list o))
offset_in_range p None each = tt
offset_in_range p (Some t) each = (each t refl, tt)

-- no value of what is swizzled is a pointer
swizzled_values : (n : VectorSize) (letters : List SwizzleComponent) (it : TypeInner) (w : List ℕ) →
    is_swizzled n letters it ≡ true → IsNoPointer (values_of it w)
swizzled_values n letters (inner.Vector size s) w is = tt
swizzled_values n letters _ w is = absurd cc

-- ---- one function
module _ (m : Module) (info : ModuleInfo) (f : Function) (es : List ExpressionInfo) (are : TypesAreCounted m)
    (group : IsSoundGroup m info (Some f) (function_group f es)) where
  abbrev shape : shapes.Function
  shape = function_shape m info f es

  abbrev known : List TypeResolution
  known = map (λ e. e.ty) es

  abbrev context : ModuleDeclarations
  context = declared m info (types_known es)

  -- an expression that has only one type
  pub typed_only : (h : ℕ) (e : ir.Expression) → slice_get f.expressions h ≡ Some e →
      (o : Option TypeResolution) →
      ((r : TypeResolution) → expression_type_fits m (Some f) known e r ≡ true →
      is_expected m.types (only o) r ≡ true) →
      ((s : TypeResolution) → o ≡ Some s → IsFit m s) →
      (s : TypeResolution) × (o ≡ Some s) × (handle_type shape h ≡ type_of_values m s)
  typed_only h e at o wanted fit =
      let own = own_known m info (Some f) (function_group f es) group h e at in
      let one = only_alike m o own.0 (wanted own.0 (group.typed h e own.0 at own.1)) in (
        one.0,
        one.1,
        typed_known m info f es h own.0 own.1 ∙
            alike_values m are own.0 one.0 (group.fits h own.0 own.1) (fit one.0 one.1) one.2,
      )

  argument_at : (h n : ℕ) → slice_get f.expressions h ≡ Some (expression.FunctionArgument n) →
      handle_type shape h ≡ type_at shape.argument_types n
  argument_at h n at =
      let one =
      typed_only h (expression.FunctionArgument n) at (argument_type (Some f) n) (λ r fits. fits)
      (λ s is. let found = map_some (λ a. Handle a.ty) (slice_get f.arguments.items n) s is in subst
      (IsFit m) found.2 tt) in
      let found = map_some (λ a. Handle a.ty) (slice_get f.arguments.items n) one.0 one.1 in
      one.2 ∙ (ap (type_of_values m) (sym found.2) ∙
      sym (type_at_mapped (λ a. type_of_values m (Handle a.ty)) f.arguments.items n found.0 found.1))

  local_at : (h n : ℕ) → slice_get f.expressions h ≡ Some (expression.LocalVariable n) →
      handle_type shape h ≡ PointerType (shapes.local_pointer shape n)
  local_at h n at =
      let one =
      typed_only h (expression.LocalVariable n) at (local_type (Some f) n) (λ r fits. fits)
      (λ s is. let found = map_some (λ l. Value (inner.Pointer l.ty space.Function))
      (slice_get f.local_variables n) s is in subst (IsFit m) found.2 (local_fit m found.0.ty)) in
      let found = map_some (λ l. Value (inner.Pointer l.ty space.Function)) (slice_get f.local_variables n)
      one.0 one.1 in
      one.2 ∙ (ap (type_of_values m) (sym found.2) ∙
      ap PointerType
      (sym (mapped_at (λ l. word_of_values m
      (Value (inner.Pointer l.ty space.Function))) [] f.local_variables n found.0 found.1)))

  global_at : (h n : ℕ) → slice_get f.expressions h ≡ Some (expression.GlobalVariable n) →
      LeafFits (module_shape m info) shape (handle_type shape h) (Some (shapes.Global (is_handle_variable m n) n))
  global_at h n at =
      let one =
      typed_only h (expression.GlobalVariable n) at (global_type m n) (λ r fits. fits)
      (λ s is. let found = map_some (λ g. variable_type g.space g.ty) (slice_get m.global_variables n) s is
      in subst (IsFit m) found.2 (variable_fit m found.0.space found.0.ty)) in
      let found = map_some (λ g. variable_type g.space g.ty) (slice_get m.global_variables n) one.0 one.1 in
      let counted = mapped_length (variable_shape m) m.global_variables in
      let here = sym (mapped_at (variable_shape m) (Held BooleanType) m.global_variables n found.0 found.1) in (
        subst (λ k. n < k) (sym counted) (slice_get_within m.global_variables n found.0 found.1),
        ap (λ o. option_map_or (λ g. is_handle_space g.space) o false) found.1 ∙
            (held_by_space m found.0 ∙ ap is_held here),
        one.2 ∙ (ap (type_of_values m) (sym found.2) ∙ (typed_by_space m found.0 ∙ ap shapes.variable_type here)),
      )

  swizzled_at : (h : ℕ) (n : VectorSize) (v : ℕ) (letters : List SwizzleComponent) →
      slice_get f.expressions h ≡ Some (expression.Swizzle n v letters) →
      IsNoPointer (handle_type shape v)
  swizzled_at h n v letters at =
      let o = operand_at m.types known (is_swizzled n letters) v
      (group.demands h (expression.Swizzle n v letters) at) in
      subst IsNoPointer (sym (typed_known m info f es v o.type o.there ∙ values_are m o.type o.itself o.is))
      (swizzled_values n letters o.itself (word_of_values m o.type) o.taken)

  module _ (constants : ConstantsAreTyped m info f es) where
    abbrev Fits : ℕ → shapes.Expression → Type 0
    Fits h s = LeafFits (module_shape m info) shape (handle_type shape h) (Some s)

    applied_fits : (h : ℕ) (op : Operator) (xs : List ℕ) → Fits h (applied_shape op xs)
    applied_fits h op xs = applied_any (Fits h) op xs tt (λ j l r. tt) tt

    -- what is written as a tree
    tree_fits : (h : ℕ) (e : ir.Expression) (t : ConstantTree) → slice_get f.expressions h ≡ Some e →
        tree_over context (tree_within h context f.expressions) h e ≡ Some t → Fits h (Constant t)
    tree_fits h e t at is =
        let own = own_known m info (Some f) (function_group f es) group h e at in
        let tree : constant_tree context f.expressions h ≡ Some t =
        ap (option_and_then (tree_over context (tree_within h context f.expressions) h)) at ∙ is in (
          constants.ranges h t tree,
          typed_known m info f es h own.0 own.1 ∙
              (sym (type_at_mapped (type_of_values m) known h own.0 own.1) ∙
              sym (constants.types h t tree)),
        )

    leaf_at : (h : ℕ) (e : ir.Expression) → slice_get f.expressions h ≡ Some e →
        Fits h (shape_of context f.expressions h e)
    leaf_at h (expression.Literal value) at =
        tree_fits h (expression.Literal value) (Fixed (literal_value value)) at refl
    leaf_at h (expression.Constant handle) at =
        let w = constants.written h handle at in
        subst (λ o. Fits h (constant_shape o)) (sym w.1)
        (tree_fits h (expression.Constant handle) w.0 at w.1)
    leaf_at h (expression.Override handle) at =
        tree_fits h (expression.Override handle) (context.override_tree handle) at refl
    leaf_at h (expression.ZeroValue ty) at =
        let own = own_known m info (Some f) (function_group f es) group h (expression.ZeroValue ty) at in
        let operator = constructor context.context (Handle ty) 0 in
        let t = Composed (run_word operator) (type_of_values m own.0) no_constant in
        let is : built context h operator [] ≡ Some t =
        ap (option_map (λ r. Composed (run_word operator) (type_of_values m r) no_constant)) own.1 in
        subst (λ o. Fits h (constant_shape o)) (sym is)
        (tree_fits h (expression.ZeroValue ty) t at is)
    leaf_at h (expression.Compose ty components) at = applied_fits h _ _
    leaf_at h (expression.AccessIndex base index) at = by (part_selector context base index)
      where
        by : (s : Option Selector) → Fits h (part_shape base index s)
        by None = tt
        by (Some s) = tt
    leaf_at h (expression.Swizzle size vector pattern) at = swizzled_at h size vector pattern at
    leaf_at h (expression.FunctionArgument number) at = argument_at h number at
    leaf_at h (expression.GlobalVariable handle) at = global_at h handle at
    leaf_at h (expression.LocalVariable handle) at = local_at h handle at
    leaf_at h (expression.Load pointer) at = by (is_atomic_pointer context.context pointer)
      where
        by : (atomic : Bool) →
            Fits h (applied_or (Load pointer) (pointer ∷ []) (if atomic then Some AtomicLoad else None))
        by true = tt
        by false = tt
    leaf_at h
        (expression.ImageSample
        image sampler gather coordinate array_index offset level depth_ref clamp) at =
        zero_in_range (module_shape m info) level _ _
        (offset_in_range (module_shape m info) (option_and_then (constant_tree context f.expressions) offset)
        (λ t is. let found = then_some (constant_tree context f.expressions) offset t is in constants.ranges
        found.0 t found.2))
    leaf_at h (expression.ImageQuery image query) at = applied_fits h _ _
    leaf_at h (expression.Binary op left right) at = applied_fits h (BinarySign op) _
    leaf_at h (expression.As expr kind convert) at = applied_fits h _ _
    leaf_at h (expression.CooperativeLoad columns rows role place) at = applied_fits h _ _
    leaf_at h _ at = tt

    -- each leaf of the function
    pub leaves : (h : ℕ) → LeafFits (module_shape m info) shape (handle_type shape h) (expression_of shape h)
    leaves h = any_shape m info f es h (LeafFits (module_shape m info) shape (handle_type shape h)) tt (leaf_at h)
