-- The tree of each of the module's own expressions that has a form is built of literals, names and
-- values of types from parts alone: it has no index, no part and no `&&` or `||`.
use Rattle.std.proofs.Common.{◌≡◌, ℕ, zero, suc, Bool, true, false, List, [], ◌∷◌, Option, Some}
use Rattle.std.proofs.Common.{None, refl, subst, slice_get, length, if◌then◌else◌}
use Rattle.std.specs.List.{list_all}
use Rattle.std.specs.Prelude.{◌||◌, unwrap_or}
use Rattle.std.specs.Option.{option_map, option_map_or, option_and_then, is_some}
use Rattle.std.proofs.lemmas.Bool.{and_parts}
use Rattle.std.proofs.lemmas.Option.{same_Some}
use Rattle.naga_info.proofs.Options.{then_some, map_some}
use Rattle.naga_info.specs.declared.info.ModuleInfo.{ModuleInfo}
use Rattle.naga_info.specs.declared.info.TypeResolution.TheVariants.{Handle}
use Rattle.naga_ir.specs.declared.expression.Expression.{Expression}
use Rattle.naga_ir.specs.declared.expression.Expression.TheVariants as expression
use Rattle.naga_ir.specs.declared.module.Constant.{Constant}
use Rattle.naga_ir.specs.declared.module.Module.{Module}
use Rattle.module_semantics.specs.ExpressionContexts.{constant_number, constant_over, declared_over}
use Rattle.module_semantics.specs.ExpressionContexts.{global_tree, global_tree_within}
use Rattle.module_semantics.specs.ExpressionContexts.{global_types_known, zero_of_type}
use Rattle.module_semantics.specs.ExpressionForms.{constant_has_form_over, global_has_form}
use Rattle.module_semantics.specs.ExpressionForms.{global_has_form_over, global_has_form_within}
use Rattle.module_semantics.specs.ExpressionOperators.{constructor}
use Rattle.module_semantics.specs.ExpressionShapes.{ModuleDeclarations, built, computed_over, tree_then, trees}
use Rattle.module_semantics.specs.ExpressionShapes.{trees_of}
use Rattle.module_semantics.specs.OperatorTable.{Operator, Splat, run_word}
use Rattle.module_semantics.specs.Undeclared.{is_spellable}
use Rattle.shader_runs.specs.Program.{ConstantTree, Fixed, NamedConstant, Composed}
use Rattle.shader_runs.specs.Program.{ConstantTrees, no_constant, constant}

abbrev mutual
  pub IsBuilt : ConstantTree → Type 0
  IsBuilt (Fixed v) = Unit {0}
  IsBuilt (NamedConstant i) = Unit {0}
  IsBuilt (Composed w ty es) = AreBuilt es
  IsBuilt _ = ⊥

  pub AreBuilt : ConstantTrees → Type 0
  AreBuilt no_constant = Unit {0}
  AreBuilt (constant e es) = IsBuilt e × AreBuilt es

module _ (m : Module) (info : ModuleInfo) where
  -- over what is said of the expressions before it
  module _ (own : ℕ → Bool) (global : ℕ → Option ConstantTree)
      (each : (k : ℕ) → own k ≡ true → (t : ConstantTree) → global k ≡ Some t → IsBuilt t) where
    abbrev inside : ModuleDeclarations
    inside = declared_over m (constant_over m global) (global_types_known info)

    all_built : (hs : List ℕ) → list_all own hs ≡ true → (ts : List ConstantTree) →
        trees_of global hs ≡ Some ts → AreBuilt (trees ts)
    all_built [] is ts e = subst (λ us. AreBuilt (trees us)) (same_Some [] ts e) tt
    all_built (h ∷ hs) is ts e =
        let both = and_parts (own h) (list_all own hs) is in
        by (global h) (trees_of global hs) (each h both.0) (all_built hs both.1) e
      where
        by : (o : Option ConstantTree) (os : Option (List ConstantTree)) →
            ((t : ConstantTree) → o ≡ Some t → IsBuilt t) →
            ((us : List ConstantTree) → os ≡ Some us → AreBuilt (trees us)) →
            tree_then o os ≡ Some ts → AreBuilt (trees ts)
        by None os one more e = absurd cc
        by (Some t) None one more e = absurd cc
        by (Some t) (Some us) one more e =
            subst (λ vs. AreBuilt (trees vs)) (same_Some (t ∷ us) ts e) (one t refl, more us refl)

    made_built : (h : ℕ) (o : Operator) (ts : List ConstantTree) → AreBuilt (trees ts) →
        (t : ConstantTree) → built inside h o ts ≡ Some t → IsBuilt t
    made_built h o ts are t e =
        let parts = map_some (λ r. Composed (run_word o) (inside.value_type r) (trees ts))
        (global_types_known info h) t e in
        subst IsBuilt parts.2 are

    constant_built : (c : ℕ) → constant_has_form_over m own c ≡ true → (t : ConstantTree) →
        constant_over m global c ≡ Some t → IsBuilt t
    constant_built c is t e = by (slice_get m.constants c) is e
      where
        or_zero : (k : Constant) (o : Option ConstantTree) →
            ((u : ConstantTree) → o ≡ Some u → IsBuilt u) → IsBuilt (unwrap_or o (zero_of_type m k.ty))
        or_zero k None all = tt
        or_zero k (Some u) all = all u refl

        written : (k : Constant) (b : Bool) → (b || own k.init) ≡ true →
            IsBuilt (if b then NamedConstant (constant_number m c) else unwrap_or (global k.init) (zero_of_type m k.ty))
        written k true is = tt
        written k false is = or_zero k (global k.init) (each k.init is)

        by : (o : Option Constant) → option_map_or (λ k. is_some k.name || own k.init) o false ≡ true →
            option_map
            (λ k. if is_some k.name then NamedConstant (constant_number m c)
            else unwrap_or (global k.init) (zero_of_type m k.ty)) o ≡ Some t → IsBuilt t
        by None is e = absurd cc
        by (Some k) is e = subst IsBuilt (same_Some _ t e) (written k (is_some k.name) is)

    over_built : (h : ℕ) (e : Expression) → global_has_form_over m own e ≡ true →
        (t : ConstantTree) → computed_over inside global h e ≡ Some t → IsBuilt t
    over_built h (expression.Literal value) is t e = subst IsBuilt (same_Some _ t e) tt
    over_built h (expression.Constant c) is t e = constant_built c is t e
    over_built h (expression.Override o) is t e = subst IsBuilt (same_Some _ t e) tt
    over_built h (expression.ZeroValue ty) is t e =
        made_built h (constructor inside.context (Handle ty) 0) [] tt t e
    over_built h (expression.Compose ty components) is t e =
        let o = constructor inside.context (Handle ty) (length components.items) in
        let ts = then_some (built inside h o) (trees_of global components.items) t e in
        made_built h o ts.0
        (all_built components.items
        (and_parts (is_spellable m (Handle ty)) (list_all own components.items) is).1 ts.0 ts.1) t ts.2
    over_built h (expression.Splat size value) is t e =
        let one = then_some (λ u. built inside h (Splat size) (u ∷ [])) (global value) t e in
        made_built h (Splat size) (one.0 ∷ []) (each value is one.0 one.1, tt) t one.2
    over_built h _ is t e = absurd cc

  within_built : (levels h : ℕ) → global_has_form_within levels m h ≡ true → (t : ConstantTree) →
      global_tree_within levels m info h ≡ Some t → IsBuilt t
  within_built zero h is t e = absurd cc
  within_built (suc levels) h is t e =
      by (within_built levels) (slice_get m.global_expressions h) is e
    where
      by : ((k : ℕ) → global_has_form_within levels m k ≡ true → (u : ConstantTree) →
          global_tree_within levels m info k ≡ Some u → IsBuilt u) → (o : Option Expression) →
          option_map_or (global_has_form_over m (global_has_form_within levels m)) o false ≡ true →
          option_and_then
          (computed_over
          (declared_over m (constant_over m (global_tree_within levels m info)) (global_types_known info))
          (global_tree_within levels m info) h) o ≡ Some t → IsBuilt t
      by each None is e = absurd cc
      by each (Some x) is e =
          over_built (global_has_form_within levels m) (global_tree_within levels m info) each h x is
          t e

  pub formed_is_built : (h : ℕ) → global_has_form m h ≡ true → (t : ConstantTree) →
      global_tree m info h ≡ Some t → IsBuilt t
  formed_is_built h is t e = within_built (suc h) h is t e
