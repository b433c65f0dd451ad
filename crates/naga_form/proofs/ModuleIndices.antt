-- Where each function of the program of shapes of an accepted module comes from, and what stands at
-- its handles: the shapes of the expressions, and the types of their values.
use Rattle.module_semantics.specs.Names.{TypesAreDistinguished}
use Rattle.std.proofs.Common.{◌≡◌, ℕ, zero, suc, ◌+◌, List, [], ◌∷◌, refl, sym, ap, ◌∙◌, map}
use Rattle.std.proofs.Common.{length, Some, None, slice_get, arith, ◌⊎◌, inl, inr}
use Rattle.std.specs.Prelude.{IsTrue, reverse}
use mathlib.Core.List.{reverse_aux}
use Rattle.std.specs.Option.{option_map}
use Rattle.std.proofs.lemmas.Option.{same_Some}
use Rattle.naga_ir.specs.declared.expression.Expression as ir
use Rattle.naga_ir.specs.declared.module.Function as ir_function
use Rattle.naga_ir.specs.declared.module.Module as ir_module
use Rattle.naga_info.specs.declared.info.ExpressionInfo.{ExpressionInfo}
use Rattle.naga_info.specs.declared.info.ModuleInfo.{ModuleInfo}
use Rattle.module_semantics.specs.acceptance.Accepted.{is_accepted}
use Rattle.module_semantics.specs.acceptance.AgreeingOperators.{function_group}
use Rattle.module_semantics.specs.ExpressionShapes.{ModuleDeclarations, shape_of}
use Rattle.module_semantics.specs.FunctionShapes.{function_shape, shapes_from}
use Rattle.module_semantics.specs.ModuleShapes.{module_shape}
use Rattle.module_semantics.specs.ExpressionContexts.{declared, types_known}
use Rattle.module_semantics.specs.Types.{type_of_values}
use Rattle.shader_runs.specs.Premises.{handle_types}
use Rattle.shader_runs.specs.Program.{Function, expression_of, handle_type}
use Rattle.shader_runs.specs.Value.{type_at}
use Rattle.naga_form.proofs.statements.AcceptedFunctions.{functions_known, group_at}
use Rattle.naga_form.proofs.declarations.AcceptedGroups.{IsSoundGroup}
use Rattle.naga_form.proofs.operators.AgreeingUses.{value_at}

-- ---- where an item of a list comes from
-- what stands in a list that is turned round onto another stands in one of both
in_either : {X : Type 0} (xs following : List X) (i : ℕ) (x : X) →
    slice_get (reverse_aux xs following) i ≡ Some x →
    ((k : ℕ) × (slice_get xs k ≡ Some x)) ⊎ ((k : ℕ) × (slice_get following k ≡ Some x))
in_either [] following i x there = inr (i, there)
in_either (y ∷ xs) following i x there = go (in_either xs (y ∷ following) i x there)
  where
    go : ((k : ℕ) × (slice_get xs k ≡ Some x)) ⊎ ((k : ℕ) × (slice_get (y ∷ following) k ≡ Some x)) →
        ((k : ℕ) × (slice_get (y ∷ xs) k ≡ Some x)) ⊎ ((k : ℕ) × (slice_get following k ≡ Some x))
    go (inl found) = inl (suc found.0, found.1)
    go (inr (zero, at)) = inl (0, at)
    go (inr (suc k, at)) = inr (k, at)

-- what stands in a list turned round stands in the list
pub in_reversed : {X : Type 0} (xs : List X) (i : ℕ) (x : X) → slice_get (reverse xs) i ≡ Some x →
    (k : ℕ) × (slice_get xs k ≡ Some x)
in_reversed xs i x there = go (in_either xs [] i x there)
  where
    go : ((k : ℕ) × (slice_get xs k ≡ Some x)) ⊎ ((k : ℕ) × (slice_get [] k ≡ Some x)) →
        (k : ℕ) × (slice_get xs k ≡ Some x)
    go (inl found) = found
    go (inr found) = absurd (cc)

-- what stands in a list that is made from another is made from what stands there
pub in_image : {X Y : Type 0} (f : X → Y) (xs : List X) (i : ℕ) (y : Y) →
    slice_get (map f xs) i ≡ Some y → (x : X) × (slice_get xs i ≡ Some x) × (f x ≡ y)
in_image f [] i y there = absurd cc
in_image f (x ∷ xs) zero y there = (x, refl, same_Some (f x) y there)
in_image f (x ∷ xs) (suc i) y there = in_image f xs i y there

-- ---- functions
-- a shape of the module, with its function or entry point and what is known of it
pub record IsShapeOf (m : ir_module.Module) (info : ModuleInfo) (f : Function) : Type 0 where
  pub function : ir_function.Function
  pub known : List ExpressionInfo
  pub sound : IsSoundGroup m info (Some function) (function_group function known)
  pub same : f ≡ function_shape m info function known

module _ (m : ir_module.Module) (info : ModuleInfo) (accepted : IsTrue (is_accepted m info))
    (distinguished : TypesAreDistinguished m) where
  abbrev shape : ir_function.Function × List ExpressionInfo → Function
  shape p = function_shape m info p.0 p.1

  -- each function of the program is the shape of one of the module's, or of an entry point's
  pub function_at : (index : ℕ) (f : Function) → slice_get (module_shape m info).functions index ≡ Some f →
      IsShapeOf m info f
  function_at index f there =
      let found = in_reversed (map shape (functions_known m info)) index f there in
      let image = in_image shape (functions_known m info) found.0 f found.1 in
      record {
        function = image.0.0;
        known = image.0.1;
        sound = group_at m info accepted found.0 image.0.0 image.0.1 image.1;
        same = sym image.2;
      }

-- ---- handles
-- what is evaluated at an index of expressions that stand in a function from a handle on
pub shapes_at : (d : ModuleDeclarations) (all : List ir.Expression) (n : ℕ) (es : List ir.Expression) (h : ℕ) →
    slice_get (shapes_from d all n es) h ≡ option_map (shape_of d all (n + h)) (slice_get es h)
shapes_at d all n [] h = refl
shapes_at d all n (e ∷ es) zero =
    let at : n ≡ n + 0 = omega arith in ap (λ k. Some (shape_of d all k e)) at
shapes_at d all n (e ∷ es) (suc h) =
    let at : (n + 1) + h ≡ n + suc h = omega arith in
    shapes_at d all (n + 1) es h ∙ ap (λ k. option_map (shape_of d all k) (slice_get es h)) at

pub shapes_length : (d : ModuleDeclarations) (all : List ir.Expression) (n : ℕ) (es : List ir.Expression) →
    length (shapes_from d all n es) ≡ length es
shapes_length d all n [] = refl
shapes_length d all n (e ∷ es) = ap suc (shapes_length d all (n + 1) es)

-- a list that is made from another that is made from a third
map_twice : {X Y Z : Type 0} (f : X → Y) (g : Y → Z) (xs : List X) →
    map (λ x. g (f x)) xs ≡ map g (map f xs)
map_twice f g [] = refl
map_twice f g (x ∷ xs) = ap (λ ys. g (f x) ∷ ys) (map_twice f g xs)

module _ (m : ir_module.Module) (info : ModuleInfo) (function : ir_function.Function) (es : List ExpressionInfo) where
  abbrev own : Function
  own = function_shape m info function es

  -- the expression of a handle
  pub expression_is : (h : ℕ) →
      expression_of own h ≡
      option_map (shape_of (declared m info (types_known es)) function.expressions h) (slice_get function.expressions h)
  expression_is h =
      let at : 0 + h ≡ h = omega arith in
      let d = declared m info (types_known es) in
      shapes_at d function.expressions 0 function.expressions h
      ∙ ap (λ k. option_map (shape_of d function.expressions k) (slice_get function.expressions h)) at

  pub expression_at : (h : ℕ) (e : ir.Expression) → slice_get function.expressions h ≡ Some e →
      expression_of own h ≡ Some (shape_of (declared m info (types_known es)) function.expressions h e)
  expression_at h e at =
      expression_is h
      ∙ ap (option_map (shape_of (declared m info (types_known es)) function.expressions h)) at

  pub no_expression_at : (h : ℕ) → slice_get function.expressions h ≡ None → expression_of own h ≡ None
  no_expression_at h at =
      expression_is h
      ∙ ap (option_map (shape_of (declared m info (types_known es)) function.expressions h)) at

  -- the type of its values
  pub handle_type_is : (h : ℕ) → handle_type own h ≡ value_at m info (function_group function es).known h
  handle_type_is h = ap (λ ks. type_at ks h) (map_twice (λ e. e.ty) (type_of_values m) es)

  pub handle_types_are : (hs : List ℕ) →
      handle_types own hs ≡ map (value_at m info (function_group function es).known) hs
  handle_types_are [] = refl
  handle_types_are (h ∷ hs) = λ i. handle_type_is h i ∷ handle_types_are hs i
