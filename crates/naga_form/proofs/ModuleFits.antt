-- A module meets what the law of runs asks of it, under its names.
use Rattle.std.proofs.Common.{[], ◌≡◌, ℕ, suc, ◌+◌, ◌<◌, Bool, true, false, List, ◌∷◌, length, Some}
use Rattle.std.proofs.Common.{refl, sym, ap, subst, ◌∙◌, arith, add-one}
use Rattle.std.specs.Prelude.{IsTrue, slice_get}
use Rattle.std.specs.List.{list_all}
use mathlib.Core.List.{reverse_aux}
use Rattle.std.proofs.lemmas.List.{length-reverse}
use Rattle.std.proofs.lemmas.Bool.{and_from, and_parts}
use Rattle.naga_ir.specs.declared.module.Function as ir_function
use Rattle.naga_ir.specs.declared.module.Module.{Module}
use Rattle.module_semantics.specs.ModuleShapes.{module_shape, variable_shape}
use Rattle.naga_info.specs.declared.info.ExpressionInfo.{ExpressionInfo}
use Rattle.naga_info.specs.declared.info.ModuleInfo.{ModuleInfo}
use Rattle.module_semantics.proofs.SideBySide.{zip_parts}
use Rattle.naga_form.proofs.names.DistinguishedItems.{types_are_distinguished}
use Rattle.naga_form.proofs.names.Names.{one_function}
use Rattle.module_semantics.specs.FunctionNumbers.{all_functions, all_infos}
use Rattle.naga_naming.proofs.Refusal.{element}
use Rattle.shader_runs.specs.Program as shapes
use Rattle.shader_runs.specs.Scope.{Naming, fits_function, ModuleNames}
use Rattle.shader_runs.specs.Form.{functions_of}
use Rattle.shader_runs.specs.Premises.{ConstantsFit, ConstantInRange, EachWord}
use Rattle.shader_runs.specs.Premises.{ModuleNamesAreDistinct, OperatesOutside}
use Rattle.shader_runs.specs.Correct.{ModuleFits}
use Rattle.shader_runs.proofs.Names.{length-functions_of}
use Rattle.shader_runs.proofs.Update.{and_left, and_right}
use Rattle.module_semantics.specs.Premises.{scope_holds_under}
use Rattle.module_semantics.specs.Names.{AreLabelNames, LabelNames, module_names}
use Rattle.module_semantics.specs.FunctionShapes.{function_shapes}
use Rattle.module_semantics.specs.Namings.{function_naming, namings_from, namings_under, outer_names}
use Rattle.module_semantics.specs.StatementForms.{block_has_forms}
use Rattle.module_semantics.specs.Written.{AllWrittenHaveForms}
use Rattle.naga_form.proofs.Facts.{further, from_start}
use Rattle.naga_form.proofs.statements.EmptyCases.{no_case_falls}
use Rattle.naga_form.proofs.names.NamedFits.{is_free}
use Rattle.naga_form.proofs.declarations.ConstantsFit.{constants_are_typed, constants_fit}
use Rattle.naga_form.proofs.statements.FunctionsFit.{IsFree, AllAfter, all_fit_freely}
use Rattle.naga_form.proofs.statements.AcceptedFunctions.{all_counted, functions_known, group_at}
use Rattle.naga_form.proofs.operators.Leaves.{ConstantsAreTyped}
use Rattle.module_semantics.specs.acceptance.Accepted.{is_accepted}
use Rattle.naga_form.proofs.declarations.AcceptedGroups.{types_are_fit}
use Rattle.naga_form.proofs.statements.ScopeRules.{same_functions}
use Rattle.module_semantics.specs.ExpressionContexts.{declared, global_tree, types_known}
use Rattle.shader_runs.specs.Program.{ConstantTree}
use Rattle.naga_form.proofs.declarations.ConstantInitialisers.{initialiser_of}
use Rattle.naga_form.proofs.operators.ConstantTrees.{global_tree_in_range}
use Rattle.naga_form.proofs.Fits.{mapped_length}
use Rattle.naga_form.proofs.names.FixedNames.{constants_tell}
use Rattle.naga_form.proofs.names.ItemKeys.{CountsItems}
use Rattle.naga_form.proofs.declarations.NamedConstants.{constants_length}
use Rattle.naga_form.proofs.names.OutsideWords.{global_words as global_words_outside}
use Rattle.naga_form.proofs.names.OutsideWords.{initialiser_words_outside}
use Rattle.naga_back.specs.declared.flags.WriterFlags.{WriterFlags}
use Rattle.naga_back.specs.Flags.{annotates_types}

-- ---- lists
-- there are as many shapes as functions
pub shapes_counted : (m : Module) (info : ModuleInfo) (fs : List ir_function.Function)
    (ess : List (List ExpressionInfo)) → length fs ≡ length ess →
    length (function_shapes m info fs ess) ≡ length fs
shapes_counted m info [] ess paired = refl
shapes_counted m info (f ∷ fs) [] paired = absurd (omega (arith, paired))
shapes_counted m info (f ∷ fs) (es ∷ ess) paired =
    ap suc (shapes_counted m info fs ess (omega (arith, paired)))

-- what holds of all of a list that is turned round onto another holds of all of both
following_all : {X : Type 0} (test : X → Bool) (xs following : List X) →
    IsTrue (list_all test (reverse_aux xs following)) → IsTrue (list_all test following)
following_all test [] following all = all
following_all test (x ∷ xs) following all =
    and_right (test x) (list_all test following) (following_all test xs (x ∷ following) all)

all_reversed : {X : Type 0} (test : X → Bool) (xs following : List X) →
    IsTrue (list_all test (reverse_aux xs following)) → IsTrue (list_all test xs)
all_reversed test [] following all = refl
all_reversed test (x ∷ xs) following all =
    and_from (test x) (list_all test xs)
    (and_left (test x) (list_all test following) (following_all test xs (x ∷ following) all))
    (all_reversed test xs (x ∷ following) all)

-- ---- an accepted module
module _ (m : Module) (info : ModuleInfo) (accepted : IsTrue (is_accepted m info)) where
  abbrev p : shapes.Module
  p = module_shape m info

  abbrev names : ModuleNames
  names = outer_names (module_names m) m

  functions_shaped : length p.functions ≡ length (all_functions m)
  functions_shaped =
      length-reverse (function_shapes m info (all_functions m) (all_infos info))
      ∙ shapes_counted m info (all_functions m) (all_infos info) (all_counted m info accepted)

  -- its program of shapes has what it declares
  pub counts : CountsItems m p
  counts = record {
    functions = functions_shaped;
    constants = constants_length m info;
    globals = mapped_length (variable_shape m) m.global_variables;
  }

  module _ (named : LabelNames) (are : AreLabelNames m named) where
    -- nothing is left of each function, after those before it
    all_free : (g : ℕ) (fs : List ir_function.Function) (ess : List (List ExpressionInfo)) →
        ((i : ℕ) (f : ir_function.Function) → slice_get fs i ≡ Some f →
        slice_get (all_functions m) (g + i) ≡ Some f) →
        IsTrue (list_all fits_function
        (namings_from named (module_names m) m g (function_shapes m info fs ess))) →
        (following : List Naming) → length following ≡ g → AllAfter (IsFree false p names) following →
        AllAfter (IsFree false p names)
        (reverse_aux (namings_from named (module_names m) m g (function_shapes m info fs ess)) following)
    all_free g [] ess there scoped following at so_far = so_far
    all_free g (f ∷ fs) [] there scoped following at so_far = so_far
    all_free g (f ∷ fs) (es ∷ ess) there scoped following at so_far =
        let here : g + 0 ≡ g = omega arith in
        let found = subst (λ h. slice_get (all_functions m) h ≡ Some f) here (there 0 f refl) in
        let own = function_naming (module_names m) (named g) m info g f es in
        let scopes =
        and_parts (fits_function own)
        (list_all fits_function
        (namings_from named (module_names m) m (g + 1) (function_shapes m info fs ess))) scoped in
        let this = is_free m info (types_are_fit m info accepted) p counts g f found (named g)
        (are g f found) es (functions_of following) (length-functions_of following ∙ at) scopes.0 in
        all_free (g + 1) fs ess (further (all_functions m) g f fs there) scopes.1 (own ∷ following)
        (ap suc at ∙ sym (add-one g)) (this, so_far)

  pub constants_typed : (k : ℕ) (f : ir_function.Function) (es : List ExpressionInfo) →
      slice_get (functions_known m info) k ≡ Some (f, es) → ConstantsAreTyped m info f es
  constants_typed k f es at =
      constants_are_typed m info accepted (types_are_distinguished m) f es
      (group_at m info accepted k f es at)

  pub functions_tell : ModuleNamesAreDistinct p names
  functions_tell = record {
    functions = λ g k lg lk e.
        let a = element (all_functions m) g (subst (λ n. g < n) functions_shaped lg) in
        let b = element (all_functions m) k (subst (λ n. k < n) functions_shaped lk) in
        one_function m g k a.0 b.0 a.1 b.1 e;
  }

  -- the tree of one of the module's own expressions names what is there
  pub global_in_range : (h : ℕ) (e : ConstantTree) → h < length m.global_expressions →
      global_tree m info h ≡ Some e → ConstantInRange p e
  global_in_range h e lt = global_tree_in_range m info accepted (types_are_distinguished m) h e

  -- and its words are those of operators
  pub global_words : (h : ℕ) (e : ConstantTree) → global_tree m info h ≡ Some e →
      EachWord (OperatesOutside p names) e
  global_words = global_words_outside m info (types_are_fit m info accepted) p counts

  -- what is asked of its named constants
  pub constants : ConstantsFit p names
  constants =
      constants_fit m info accepted (types_are_distinguished m) names
      (λ i e at.
      let found = initialiser_of m info accepted (types_are_distinguished m) i e at in
      subst (EachWord (OperatesOutside p names)) found.is
      (initialiser_words_outside m info (types_are_fit m info accepted) p counts found.constant))
      (constants_tell m p counts)

  module _ (flags : WriterFlags) (have : AllWrittenHaveForms (annotates_types flags) m info) where
    -- the statements of each function that is known have forms
    forms_at : (k : ℕ) (f : ir_function.Function) (es : List ExpressionInfo) →
        slice_get (functions_known m info) k ≡ Some (f, es) → block_has_forms f.body ≡ true
    forms_at k f es at =
        let both = zip_parts (all_functions m) (all_infos info) k (f, es) at in
        (have k f es both.0 both.1).statements

    -- what the law of runs asks: all is said by acceptance but what names, words and scope show
    pub module_fits_under : (named : LabelNames) → AreLabelNames m named →
        IsTrue (scope_holds_under named m info) →
        ModuleFits (module_shape m info) (outer_names (module_names m) m)
        (namings_under named (module_names m) m info)
    module_fits_under named are scope =
        let listed =
        namings_from named (module_names m) m 0
        (function_shapes m info (all_functions m) (all_infos info)) in
        record {
          functions = same_functions m info named;
          distinct = functions_tell;
          constants = constants;
          all = all_fit_freely m info accepted (types_are_distinguished m) constants_typed
              (λ k f es at. no_case_falls (declared m info (types_known es)).context f.body
              (forms_at k f es at)) names
              (namings_under named (module_names m) m info) (same_functions m info named) false
              forms_at
              (all_free named are 0 (all_functions m) (all_infos info)
              (from_start (all_functions m))
              (all_reversed fits_function listed [] scope) [] refl tt);
        }
