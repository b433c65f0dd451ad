-- In an accepted module the constants that an expression of a function writes out are what the runs ask of
-- them: what they index or take a part of is no pointer, and `&&` and `||` of `bool` are `bool`. What
-- is said of trees of constants is a premise here.
use Rattle.std.proofs.Common.{◌≡◌, ℕ, Bool, true, false, List, [], ◌∷◌, ◌++◌, Option, Some, None}
use Rattle.std.proofs.Common.{refl, sym, ap, ◌∙◌, subst, slice_get, if◌then◌else◌}
use Rattle.std.specs.Prelude.{◌||◌}
use Rattle.std.specs.Option.{option_map, option_and_then, option_to_list, is_some}
use Rattle.naga_ir.specs.Operands.{expression_operands}
use Rattle.naga_ir.specs.declared.expression.Expression as ir
use Rattle.naga_ir.specs.declared.expression.Expression.TheVariants as expression
use Rattle.naga_ir.specs.declared.expression.SampleLevel.{SampleLevel}
use Rattle.naga_ir.specs.declared.expression.SampleLevel.TheVariants as level
use Rattle.naga_ir.specs.declared.module.Function as ir_function
use Rattle.naga_ir.specs.declared.module.Module as ir_module
use Rattle.naga_info.specs.declared.info.ExpressionInfo.{ExpressionInfo}
use Rattle.naga_info.specs.declared.info.ModuleInfo.{ModuleInfo}
use Rattle.naga_info.specs.declared.info.TypeResolution.TheVariants.{Handle}
use Rattle.naga_info.proofs.Options.{then_some}
use Rattle.module_semantics.specs.acceptance.AgreeingOperators.{Group, function_group}
use Rattle.module_semantics.specs.ExpressionOperators.{applied_operator, constructor, load_operator}
use Rattle.module_semantics.specs.ExpressionShapes.{ModuleDeclarations, applied_or, built, constant_shape}
use Rattle.module_semantics.specs.ExpressionShapes.{constant_tree, part_selector, part_shape}
use Rattle.module_semantics.specs.ExpressionShapes.{shape_of, tree_over, tree_within, trees}
use Rattle.module_semantics.specs.ExpressionShapes.{written_zero}
use Rattle.module_semantics.specs.FunctionShapes.{function_shape}
use Rattle.module_semantics.specs.ModuleShapes.{module_shape}
use Rattle.module_semantics.specs.OperatorTable.{Operator as TableOperator, PartAt, WithoutForm, asks}
use Rattle.module_semantics.specs.OperatorTable.{run_word}
use Rattle.module_semantics.specs.Shapes.{operator_shape}
use Rattle.module_semantics.proofs.Shapes.{operator_any}
use Rattle.shader_runs.specs.Program.{ConstantTree, Expression, Function, Load, Module, Request}
use Rattle.shader_runs.specs.Program.{Result, expression_of, no_constant}
use Rattle.shader_runs.specs.Typing.{LeafTreesFit, TreeFits, TreesFit}
use Rattle.shader_runs.specs.Value.{Selector}
use Rattle.naga_form.proofs.declarations.AcceptedGroups.{IsSoundGroup}
use Rattle.naga_form.proofs.ModuleIndices.{expression_is}
use Rattle.naga_form.proofs.operators.Signatures.{declared_for}

module _ (m : ir_module.Module) (info : ModuleInfo)
    (of_trees : (f : Option ir_function.Function) (g : Group) → IsSoundGroup m info f g → (h : ℕ)
    (t : ConstantTree) → constant_tree (declared_for m info g) g.expressions h ≡ Some t →
    TreeFits (module_shape m info) t) where
  abbrev p : Module
  p = module_shape m info

  -- an operator that is applied writes out no constant
  applied_fits : (otherwise : Expression) → LeafTreesFit p (Some otherwise) → (hs : List ℕ)
      (o : Option TableOperator) → LeafTreesFit p (Some (applied_or otherwise hs o))
  applied_fits otherwise fits hs None = fits
  applied_fits otherwise fits hs (Some o) = by (asks o)
    where
      by : (b : Bool) →
          LeafTreesFit p
          (Some
          (if b then Request (run_word o) hs no_constant else operator_shape o hs))
      by true = tt
      by false = operator_any (λ e. LeafTreesFit p (Some e)) o hs (λ j l r. tt) tt

  constant_fits : (o : Option ConstantTree) → ((t : ConstantTree) → o ≡ Some t → TreeFits p t) →
      LeafTreesFit p (Some (constant_shape o))
  constant_fits None all = tt
  constant_fits (Some t) all = all t refl

  offset_fits : (o : Option ConstantTree) → ((t : ConstantTree) → o ≡ Some t → TreeFits p t) →
      TreesFit p (trees (option_to_list o))
  offset_fits None all = tt
  offset_fits (Some t) all = (all t refl, tt)

  levels_fit : (l : SampleLevel) (unwritten : Bool) (o : Option ConstantTree) →
      ((t : ConstantTree) → o ≡ Some t → TreeFits p t) →
      TreesFit p (trees (written_zero l unwritten ++ option_to_list o))
  levels_fit level.Zero false o all = (tt, offset_fits o all)
  levels_fit level.Zero true o all = offset_fits o all
  levels_fit _ unwritten o all = offset_fits o all

  module _ (function : ir_function.Function) (es : List ExpressionInfo)
      (sound : IsSoundGroup m info (Some function) (function_group function es)) (h : ℕ) where
    abbrev g : Group
    g = function_group function es

    abbrev d : ModuleDeclarations
    d = declared_for m info g

    abbrev shape : Function
    shape = function_shape m info function es

    -- the tree of the expression, if it is a constant
    tree_here : (e : ir.Expression) → slice_get function.expressions h ≡ Some e →
        constant_tree d g.expressions h ≡ tree_over d (tree_within h d g.expressions) h e
    tree_here e at = ap (option_and_then (tree_over d (tree_within h d g.expressions) h)) at

    shape_fits : (e : ir.Expression) → slice_get function.expressions h ≡ Some e →
        LeafTreesFit p (Some (shape_of d function.expressions h e))
    shape_fits (expression.Literal value) at = tt
    shape_fits (expression.Constant handle) at =
        constant_fits (d.constant_tree handle)
        (λ t is. of_trees (Some function) g sound h t (tree_here (expression.Constant handle) at ∙ is))
    shape_fits (expression.Override handle) at = tt
    shape_fits (expression.ZeroValue ty) at =
        constant_fits (built d h (constructor d.context (Handle ty) 0) [])
        (λ t is. of_trees (Some function) g sound h t (tree_here (expression.ZeroValue ty) at ∙ is))
    shape_fits (expression.AccessIndex base index) at = by (part_selector d base index)
      where
        by : (o : Option Selector) → LeafTreesFit p (Some (part_shape base index o))
        by (Some s) = tt
        by None = applied_fits Result tt (base ∷ []) (Some (WithoutForm (PartAt index)))
    shape_fits (expression.Load pointer) at =
        applied_fits (Load pointer) tt (pointer ∷ []) (load_operator d.context pointer)
    shape_fits
        (expression.ImageSample
        image sampler gather coordinate array_index offset level depth_ref clamp) at =
        levels_fit level (is_some gather || (is_some depth_ref || clamp))
        (option_and_then (constant_tree d function.expressions) offset)
        (λ t is.
        let x = then_some (constant_tree d function.expressions) offset t is in
        of_trees (Some function) g sound x.0 t x.2)
    shape_fits (expression.Access base index) at = tt
    shape_fits (expression.Swizzle size vector pattern) at = tt
    shape_fits (expression.FunctionArgument number) at = tt
    shape_fits (expression.GlobalVariable handle) at = tt
    shape_fits (expression.LocalVariable handle) at = tt
    shape_fits e at = applied_fits Result tt (expression_operands e) (applied_operator d.context e)

    -- what stands at a handle
    pub leaf_trees_fit : LeafTreesFit p (expression_of shape h)
    leaf_trees_fit =
        subst (LeafTreesFit p) (sym (expression_is m info function es h))
        (by (slice_get function.expressions h) refl)
      where
        by : (o : Option ir.Expression) → slice_get function.expressions h ≡ o →
            LeafTreesFit p (option_map (shape_of d function.expressions h) o)
        by None at = tt
        by (Some e) at = shape_fits e at
