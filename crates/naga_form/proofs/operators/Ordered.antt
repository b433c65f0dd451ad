-- Operands stand before their expressions in the shapes of every accepted function.
use Rattle.std.proofs.Common.{◌≡◌, ℕ, ◌+◌, true, List, [], ◌∷◌, ◌++◌, Option, Some}
use Rattle.std.proofs.Common.{None, refl, sym, ap, ◌∙◌, arith, subst, slice_get, length, nat_lt}
use Rattle.std.specs.Option.{is_some, option_to_list}
use Rattle.std.specs.Prelude.{if◌then◌else◌}
use Rattle.std.proofs.lemmas.Bool.{and_parts, ltb-true}
use Rattle.naga_ir.specs.Operands.{expression_operands, level_operands}
use Rattle.naga_ir.specs.declared.expression.Expression as ir
use Rattle.naga_ir.specs.declared.expression.Expression.TheVariants as expression
use Rattle.naga_ir.specs.declared.module.Function.{Function}
use Rattle.naga_ir.specs.declared.module.Module.{Module}
use Rattle.naga_info.specs.declared.info.ExpressionInfo.{ExpressionInfo}
use Rattle.naga_info.specs.declared.info.ModuleInfo.{ModuleInfo}
use Rattle.module_semantics.specs.ExpressionShapes.{ModuleDeclarations, shape_of, constant_tree}
use Rattle.module_semantics.specs.FunctionShapes.{function_shape}
use Rattle.module_semantics.specs.acceptance.Ranges.{all_below, function_in_range}
use Rattle.module_semantics.specs.acceptance.Ranges.{expression_in_range, names_in_range}
use Rattle.module_semantics.specs.Premises.{OperandsStandBefore}
use Rattle.module_semantics.specs.ExpressionContexts.{declared, types_known}
use Rattle.module_semantics.proofs.ExpressionShapes.{shape_operands}
use Rattle.module_semantics.proofs.Lists.{numbered_at}
use Rattle.shader_runs.specs.Premises.{AllBelow}
use Rattle.shader_runs.specs.Program.{ConstantTree, operands_of, expression_of}
use Rattle.naga_form.proofs.statements.AcceptedFunctions.{ranges_are}
use Rattle.naga_form.proofs.statements.WellFormed.{any_shape}

-- handles that pass the test of all
pub each_below : (h : ℕ) (xs : List ℕ) → all_below h xs ≡ true → AllBelow h xs
each_below h [] all = tt
each_below h (x ∷ xs) all =
    let parts = and_parts (nat_lt x h) (all_below h xs) all in
    (ltb-true x h parts.0, each_below h xs parts.1)

-- what is left where the last ones are left out
following : (h : ℕ) (xs ys zs : List ℕ) → (AllBelow h ys → AllBelow h zs) → AllBelow h (xs ++ ys) →
    AllBelow h (xs ++ zs)
following h [] ys zs less all = less all
following h (x ∷ xs) ys zs less all = (all.0, following h xs ys zs less all.1)

pub shape_ordered : (d : ModuleDeclarations) (es : List ir.Expression) (h : ℕ) (e : ir.Expression) →
    AllBelow h (expression_operands e) → AllBelow h (operands_of (Some (shape_of d es h e)))
shape_ordered d es h
    (expression.ImageSample
    image sampler gather coordinate array_index (Some offset) level depth_ref clamp) below =
    by (constant_tree d es offset)
  where
    by : (o : Option ConstantTree) →
        AllBelow h
        (image ∷ sampler ∷ coordinate ∷ option_to_list array_index ++ option_to_list depth_ref ++
        level_operands level ++ (if is_some o then [] else offset ∷ []))
    by None = below
    by (Some t) =
        following h
        (image ∷ sampler ∷ coordinate ∷ option_to_list array_index ++ option_to_list depth_ref ++
        level_operands level)
        (offset ∷ []) [] (λ one. tt) below
shape_ordered d es h e below = subst (AllBelow h) (sym (shape_operands d es h e refl)) below

-- each expression's operands stand before it
pub operands_below : (m : Module) (callees : ℕ) (f : Function) → function_in_range m callees f ≡ true →
    (h : ℕ) (e : ir.Expression) → slice_get f.expressions h ≡ Some e →
    all_below h (expression_operands e) ≡ true
operands_below m callees f ranges h e at =
    let from : 0 + h ≡ h = omega arith in
    let test =
    expression_in_range m (length f.arguments.items) (length f.local_variables) in
    (and_parts (all_below h (expression_operands e))
    (names_in_range m (length f.arguments.items) (length f.local_variables) e)
    (sym (ap (λ n. test n e) from) ∙ numbered_at test 0 f.expressions h e (ranges_are m callees f ranges).0 at)).0

-- so do those of its shape
pub ordered : (m : Module) (info : ModuleInfo) (callees : ℕ) (f : Function)
    (es : List ExpressionInfo) → function_in_range m callees f ≡ true → (h : ℕ) →
    AllBelow h (operands_of (expression_of (function_shape m info f es) h))
ordered m info callees f es ranges h =
    any_shape m info f es h (λ o. AllBelow h (operands_of o)) tt
    (λ e at. shape_ordered (declared m info (types_known es)) f.expressions h e
    (each_below h (expression_operands e) (operands_below m callees f ranges h e at)))

-- and so do the operands of each expression
pub operands_stand_before : (m : Module) (callees : ℕ) (f : Function) →
    function_in_range m callees f ≡ true → OperandsStandBefore f.expressions
operands_stand_before m callees f ranges h e at =
    each_below h (expression_operands e) (operands_below m callees f ranges h e at)
