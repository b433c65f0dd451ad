-- What is so of counts when the writer is asked.
use Rattle.std.proofs.Common.{◌≡◌, ◌∙◌, ◌+◌, ◌++◌, ℕ, Bool, List, [], ◌∷◌, ap, refl, subst, sym, true, false}
use Rattle.std.proofs.Common.{if◌then◌else◌, min}
use Rattle.std.specs.List.{enumerate_from}
use Prim.Native.Nat.{zero, suc}
use Rattle.naga_acceptance.specs.Counts.{all_with_counts, functions_of, operand_handles, use_count}
use Rattle.naga_acceptance.specs.Counts.{with_counts, with_counts_from}
use Rattle.naga_info.specs.UseCounts.{greatest_count}
use Rattle.naga_info.specs.declared.info.ExpressionInfo.{ExpressionInfo}
use Rattle.naga_info.specs.declared.info.ModuleInfo.{ModuleInfo}
use Rattle.naga_ir.specs.Operands.{expression_operands}
use Rattle.naga_ir.specs.declared.expression.Expression.{Expression}
use Rattle.naga_ir.specs.declared.module.Function.{Function}
use Rattle.naga_ir.specs.declared.module.Module.{Module}
use Rattle.naga_wgsl_out.specs.Checked.{IsCounted}
use Rattle.operand_levels.specs.Levels.{all_bound_where_deep, bound_after, bound_where_deep, is_too_deep}
use Rattle.operand_levels.specs.Levels.{level_left, level_over, raised_where_deep, with_raised}
use Rattle.operand_levels.specs.Raised.{AllRaised, AllShallow}
use Rattle.operand_levels.proofs.Raising.{all_raised_still}
use Rattle.module_answers.specs.Counts.{HasRaised, IsBound}

-- ---- counts that are made anew are those that were made before any was raised
counts_of_raised : (count : ℕ → ℕ) (h : ℕ) (ks : List ExpressionInfo) (i : ℕ) →
    with_counts_from count h (with_raised ks i) ≡ with_counts_from count h ks
counts_of_raised count h [] i = refl
counts_of_raised count h (k ∷ ks) zero = refl
counts_of_raised count h (k ∷ ks) (suc i) =
    ap (λ xs. record k { ref_count = min (count h) greatest_count } ∷ xs) (counts_of_raised count (h + 1) ks i)

counts_where_deep : (count : ℕ → ℕ) (ks : List ExpressionInfo) (i : ℕ) (is_deep : Bool) →
    with_counts_from count 0 (if is_deep then with_raised ks i else ks) ≡ with_counts_from count 0 ks
counts_where_deep count ks i true = counts_of_raised count 0 ks i
counts_where_deep count ks i false = refl

counts_of_bound : (count : ℕ → ℕ) (f : Function) (levels : List ℕ) (ks : List ExpressionInfo)
    (ps : List (ℕ × Expression)) →
    with_counts_from count 0 (bound_after f levels ks ps) ≡ with_counts_from count 0 ks
counts_of_bound count f levels ks [] = refl
counts_of_bound count f levels ks (p ∷ ps) =
    let level = level_over levels (expression_operands p.1) in
    let known = raised_where_deep ks p level in
    counts_of_bound count f (levels ++ (level_left f known p level ∷ [])) known ps
    ∙ counts_where_deep count ks p.0 (is_too_deep p.1 level)

counts_of_counted : (count : ℕ → ℕ) (h : ℕ) (ks : List ExpressionInfo) →
    with_counts_from count h (with_counts_from count h ks) ≡ with_counts_from count h ks
counts_of_counted count h [] = refl
counts_of_counted count h (k ∷ ks) =
    ap (λ xs. record k { ref_count = min (count h) greatest_count } ∷ xs) (counts_of_counted count (h + 1) ks)

all_counted_anew : (fs : List Function) (kss : List (List ExpressionInfo)) →
    all_with_counts fs (all_bound_where_deep fs (all_with_counts fs kss)) ≡ all_with_counts fs kss
all_counted_anew [] kss = refl
all_counted_anew (f ∷ fs) [] = refl
all_counted_anew (f ∷ fs) (ks ∷ kss) =
    let count = use_count (operand_handles f) in
    let own : with_counts f (bound_where_deep f (with_counts f ks)) ≡ with_counts f ks =
    counts_of_bound count f [] (with_counts f ks) (enumerate_from 0 f.expressions) ∙ counts_of_counted count 0 ks in
    λ i. own i ∷ all_counted_anew fs kss i

-- ---- texts that have what standard compilers ask for: the counts are raised after they are made
pub raised_after : (m : Module) (old counted new : ModuleInfo) → IsCounted m old counted →
    AllRaised counted.functions.items new.functions.items →
    AllRaised counted.entry_points.items new.entry_points.items →
    new.const_expression_types ≡ counted.const_expression_types → HasRaised m old new
raised_after m old counted new is functions entry_points types = record {
  functions = subst (λ ks. AllRaised ks new.functions.items) is.functions functions;
  entry_points = subst (λ ks. AllRaised ks new.entry_points.items) is.entry_points entry_points;
  types = types ∙ is.types;
}

pub bound_after_count : (m : Module) (old counted new : ModuleInfo) → IsCounted m old counted →
    new.functions.items ≡ all_bound_where_deep m.functions counted.functions.items →
    new.entry_points.items
    ≡ all_bound_where_deep (functions_of m.entry_points.items) counted.entry_points.items →
    new.const_expression_types ≡ counted.const_expression_types →
    AllShallow m.functions new.functions.items →
    AllShallow (functions_of m.entry_points.items) new.entry_points.items → IsBound m old new
bound_after_count m old counted new is functions entry_points types shallow shallow_entry_points = record {
  functions = subst (λ ks. new.functions.items ≡ all_bound_where_deep m.functions ks) is.functions functions;
  entry_points = subst (λ ks. new.entry_points.items ≡ all_bound_where_deep (functions_of m.entry_points.items) ks)
      is.entry_points entry_points;
  types = types ∙ is.types;
  shallow = shallow;
  shallow_entry_points = shallow_entry_points;
}

-- none was raised
pub counted_still : (m : Module) (old counted new : ModuleInfo) → IsCounted m old counted →
    new.functions.items ≡ counted.functions.items → new.entry_points.items ≡ counted.entry_points.items →
    new.const_expression_types ≡ counted.const_expression_types → IsCounted m old new
counted_still m old counted new is functions entry_points types = record {
  functions = functions ∙ is.functions;
  entry_points = entry_points ∙ is.entry_points;
  types = types ∙ is.types;
}

-- they are counted anew
pub counted_anew : (m : Module) (old raised new : ModuleInfo) → IsBound m old raised → IsCounted m raised new →
    IsCounted m old new
counted_anew m old raised new bound is = record {
  functions = is.functions ∙ (ap (all_with_counts m.functions) bound.functions
      ∙ all_counted_anew m.functions old.functions.items);
  entry_points = is.entry_points ∙ (ap (all_with_counts (functions_of m.entry_points.items)) bound.entry_points
      ∙ all_counted_anew (functions_of m.entry_points.items) old.entry_points.items);
  types = is.types ∙ bound.types;
}

pub raised_still : (m : Module) (old new : ModuleInfo) → IsCounted m old new → HasRaised m old new
raised_still m old new is = record {
  functions = subst (AllRaised (all_with_counts m.functions old.functions.items)) (sym is.functions)
      (all_raised_still (all_with_counts m.functions old.functions.items));
  entry_points = subst (AllRaised (all_with_counts (functions_of m.entry_points.items) old.entry_points.items))
      (sym is.entry_points)
      (all_raised_still (all_with_counts (functions_of m.entry_points.items) old.entry_points.items));
  types = is.types;
}
