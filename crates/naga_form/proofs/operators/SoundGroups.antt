-- Each group of expressions that stand together in an accepted module is sound, whether it is of a
-- function, of an entry point or of the module itself.
use Rattle.std.proofs.Common.{◌≡◌, ℕ, zero, suc, List, [], ◌∷◌, refl, ap, subst, Option, Some, None}
use Rattle.std.proofs.Common.{slice_get, map, ◌⊎◌, inl, inr, ◌∙◌}
use Rattle.std.specs.Prelude.{IsTrue}
use Rattle.std.proofs.lemmas.Option.{same_Some}
use Rattle.naga_ir.specs.declared.module.Function.{Function}
use Rattle.naga_ir.specs.declared.module.Module.{Module}
use Rattle.naga_info.specs.declared.info.ExpressionInfo.{ExpressionInfo}
use Rattle.naga_info.specs.declared.info.ModuleInfo.{ModuleInfo}
use Rattle.module_semantics.specs.acceptance.Accepted.{is_accepted}
use Rattle.module_semantics.specs.acceptance.AgreeingOperators.{Group, function_group}
use Rattle.module_semantics.specs.acceptance.AgreeingOperators.{function_groups, further_groups_of}
use Rattle.module_semantics.specs.acceptance.AgreeingOperators.{groups_of}
use Rattle.naga_form.proofs.declarations.AcceptedGroups.{IsSoundGroup, functions_are}
use Rattle.naga_form.proofs.declarations.AcceptedGroups.{entry_points_are, declarations_are}
use Rattle.naga_form.proofs.declarations.AcceptedGroups.{own_group}
use Rattle.naga_form.proofs.operators.AgreeingUses.{IsIn}
use Rattle.module_semantics.proofs.Lists.{in_joined}
use Rattle.naga_form.proofs.ModuleIndices.{in_image}

-- where a group of functions comes from
record IsOfFunctions (fs : List Function) (ess : List (List ExpressionInfo)) (g : Group) : Type 0 where
  index : ℕ
  function : Function
  known : List ExpressionInfo
  here : slice_get fs index ≡ Some function
  there : slice_get ess index ≡ Some known
  same : function_group function known ≡ g

of_functions : (fs : List Function) (ess : List (List ExpressionInfo)) (i : ℕ) (g : Group) →
    slice_get (function_groups fs ess) i ≡ Some g → IsOfFunctions fs ess g
of_functions [] ess i g at = absurd cc
of_functions (f ∷ fs) [] i g at = absurd cc
of_functions (f ∷ fs) (es ∷ ess) zero g at =
    record {
      index = 0;
      function = f;
      known = es;
      here = refl;
      there = refl;
      same = same_Some (function_group f es) g at;
    }
of_functions (f ∷ fs) (es ∷ ess) (suc i) g at =
    let k = of_functions fs ess i g at in
    record {
      index = suc k.index;
      function = k.function;
      known = k.known;
      here = k.here;
      there = k.there;
      same = k.same;
    }

module _ (m : Module) (info : ModuleInfo) (accepted : IsTrue (is_accepted m info)) where
  pub groups_are : (g : Group) → IsIn (groups_of m info) g → (f : Option Function) × IsSoundGroup m info f g
  groups_are g index =
      by (in_joined (function_groups m.functions info.functions.items) (further_groups_of m info) index.0 g index.1)
    where
      further : ((k : ℕ)
          × (slice_get (function_groups (map (λ p. p.function) m.entry_points.items) info.entry_points.items) k
          ≡ Some g)) ⊎
          ((k : ℕ) × (slice_get (own_group m info accepted ∷ []) k ≡ Some g)) → (f : Option Function)
          × IsSoundGroup m info f g
      further (inl here) =
          let k = of_functions (map (λ p. p.function) m.entry_points.items) info.entry_points.items here.0 g here.1 in
          let p = in_image (λ p. p.function) m.entry_points.items k.index k.function k.here in (
            Some p.0.function,
            subst (IsSoundGroup m info (Some p.0.function)) (ap (λ f. function_group f k.known) p.2 ∙ k.same)
                (entry_points_are m info accepted k.index p.0 k.known p.1 k.there),
          )
      further (inr (zero, same)) =
          (None, subst (IsSoundGroup m info None) (same_Some _ g same) (declarations_are m info accepted))
      further (inr (suc k, same)) = absurd cc

      by : ((k : ℕ) × (slice_get (function_groups m.functions info.functions.items) k ≡ Some g)) ⊎
          ((k : ℕ) × (slice_get (further_groups_of m info) k ≡ Some g)) → (f : Option Function) ×
          IsSoundGroup m info f g
      by (inl here) =
          let k = of_functions m.functions info.functions.items here.0 g here.1 in (
            Some k.function,
            subst (IsSoundGroup m info (Some k.function)) k.same
                (functions_are m info accepted k.index k.function k.known k.here k.there),
          )
      by (inr later) =
          further (in_joined (function_groups (map (λ p. p.function) m.entry_points.items) info.entry_points.items)
          _ later.0 g later.1)
