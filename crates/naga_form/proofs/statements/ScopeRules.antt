-- The check of scope decides whether the rules of scope hold in each function of an accepted
-- module.
use Rattle.std.proofs.Common.{[], ◌≡◌, ℕ, ◌+◌, List, ◌∷◌, map, refl, ap, subst, ◌∙◌, sym}
use Rattle.std.specs.Prelude.{IsTrue, reverse, ◌↔◌}
use Rattle.std.specs.List.{list_all}
use Rattle.std.proofs.lemmas.Bool.{and_from}
use Rattle.indexmap.proofs.ReorderLemmas.{map-reverse}
use Rattle.naga_ir.specs.declared.module.Module.{Module}
use Rattle.naga_info.specs.declared.info.ModuleInfo.{ModuleInfo}
use Rattle.module_semantics.specs.acceptance.Accepted.{is_accepted}
use Rattle.naga_naming.specs.Keys.{NameMap}
use Rattle.shader_runs.specs.Program as shapes
use Rattle.shader_runs.specs.Program.{expression_of, operands_of}
use Rattle.shader_runs.specs.Scope.{Naming, fits_function}
use Rattle.shader_runs.specs.Form.{functions_of}
use Rattle.shader_runs.specs.Premises.{AllBelow}
use Rattle.shader_runs.proofs.ScopeRules.{scope_check_is_the_rules}
use Rattle.shader_runs.proofs.Update.{and_left, and_right}
use Rattle.module_semantics.specs.FunctionNumbers.{all_functions, all_infos}
use Rattle.module_semantics.specs.Names.{expression_name, LabelNames, module_names}
use Rattle.module_semantics.specs.Premises.{EachScopeHolds, scope_holds, scope_holds_under}
use Rattle.module_semantics.specs.Premises.{ScopesHold}
use Rattle.module_semantics.specs.FunctionShapes.{function_shapes}
use Rattle.module_semantics.specs.Namings.{namings_from, namings_under}
use Rattle.module_semantics.specs.ModuleShapes.{module_shape}
use Rattle.naga_form.proofs.statements.AcceptedFunctions.{accepted_at}
use Rattle.naga_form.proofs.statements.FunctionsFit.{AllAfter, all_from, all_distinguished}
use Rattle.naga_form.proofs.statements.FunctionsFit.{shape_numbered, Tells}
use Rattle.naga_form.proofs.operators.Ordered.{ordered}

pub functions_of-map : (ns : List Naming) → functions_of ns ≡ map (λ n. n.function) ns
functions_of-map [] = refl
functions_of-map (n ∷ ns) = ap (λ fs. n.function ∷ fs) (functions_of-map ns)

pub functions_of_namings : (named : LabelNames) (names : NameMap) (m : Module) (g : ℕ)
    (fs : List shapes.Function) → map (λ n. n.function) (namings_from named names m g fs) ≡ fs
functions_of_namings named names m g [] = refl
functions_of_namings named names m g (f ∷ fs) =
    ap (λ fs. f ∷ fs) (functions_of_namings named names m (g + 1) fs)

-- the functions of the namings are the module's
pub same_functions : (m : Module) (info : ModuleInfo) (named : LabelNames) →
    functions_of (namings_under named (module_names m) m info) ≡ (module_shape m info).functions
same_functions m info named =
    let shapes = function_shapes m info (all_functions m) (all_infos info) in
    let listed = namings_from named (module_names m) m 0 shapes in
    functions_of-map (reverse listed)
    ∙ (map-reverse (λ n. n.function) listed
    ∙ ap reverse (functions_of_namings named (module_names m) m 0 shapes))

-- operands stand before their expressions
abbrev IsOrdered : List shapes.Function → Naming → Type 0
IsOrdered callees n = (h : ℕ) → AllBelow h (operands_of (expression_of n.function h))

nothing_asked : (ns : List Naming) → AllAfter (λ callees n. Unit {0}) ns
nothing_asked [] = tt
nothing_asked (n ∷ ns) = (tt, nothing_asked ns)

each_is_checked : (ns : List Naming) → AllAfter IsOrdered ns →
    (IsTrue (list_all fits_function ns) ↔ EachScopeHolds (functions_of ns))
each_is_checked [] all = (λ t. tt, λ r. refl)
each_is_checked (n ∷ ns) all =
    let here = scope_check_is_the_rules n all.0 in
    let rest = each_is_checked ns all.1 in (
      λ t. (
        here.0 (and_left (fits_function n) (list_all fits_function ns) t),
        rest.0 (and_right (fits_function n) (list_all fits_function ns) t),
      ),
      λ r. and_from (fits_function n) (list_all fits_function ns) (here.1 r.0) (rest.1 r.1),
    )

module _ (m : Module) (info : ModuleInfo) (accepted : IsTrue (is_accepted m info)) where
  -- under whatever names labels have
  module _ (named : LabelNames) where
    abbrev all_named : List Naming
    all_named = namings_under named (module_names m) m info

    all_are_ordered : AllAfter IsOrdered all_named
    all_are_ordered =
        all_from m info accepted (λ callees n. Unit {0}) IsOrdered
        (λ k f es at names callees number tells none.
        let is = accepted_at m info accepted k f es at in ordered m info is.callees f es is.ranges)
        all_named
        (subst (Tells (shape_numbered m info accepted)) (sym (same_functions m info named))
        (all_distinguished m info accepted))
        (nothing_asked all_named)

    pub scopes_are_checked_under : IsTrue (scope_holds_under named m info) ↔ ScopesHold m info
    scopes_are_checked_under =
        subst (λ fs. IsTrue (scope_holds_under named m info) ↔ EachScopeHolds fs)
        (same_functions m info named) (each_is_checked all_named all_are_ordered)

  pub scopes_are_checked : IsTrue (scope_holds m info) ↔ ScopesHold m info
  scopes_are_checked = scopes_are_checked_under (expression_name m)
