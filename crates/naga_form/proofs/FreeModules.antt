-- The program of shapes of every accepted module in which the rules of scope hold meets, with its
-- cases unfolded and under free names, what the laws of runs ask. So what these laws say of the
-- module's run alone, that one world keeps its types and that it is never stuck, holds of it,
-- whether texts are written for it or not.
--
-- Throughout, m is a module and info what is known of it, k is the number of a function f, es is
-- what is known of its expressions, callees are the functions before it and own its names.
use Rattle.module_semantics.specs.Names.{TypesAreDistinguished}
use Rattle.std.proofs.Common.{◌≡◌, ℕ, true, List, [], ◌∷◌, length, Some, refl, sym, ap, ◌∙◌, subst}
use Rattle.std.proofs.Common.{slice_get, arith}
use Rattle.std.specs.Prelude.{IsTrue}
use Rattle.naga_ir.specs.declared.module.Function as ir_function
use Rattle.naga_ir.specs.declared.module.Module as ir_module
use Rattle.naga_info.specs.declared.info.ExpressionInfo.{ExpressionInfo}
use Rattle.naga_info.specs.declared.info.ModuleInfo.{ModuleInfo}
use Rattle.module_semantics.specs.acceptance.Accepted.{is_accepted}
use Rattle.module_semantics.specs.FunctionShapes.{function_shape}
use Rattle.module_semantics.specs.Meanings.{HasTypedWorld, NoRunIsStuck}
use Rattle.module_semantics.specs.ModuleShapes.{module_shape}
use Rattle.module_semantics.specs.Premises.{EachScopeHolds, ScopesHold}
use Rattle.shader_runs.specs.Program as shapes
use Rattle.shader_runs.specs.Program.{ConstantTree, handle_type, expression_of}
use Rattle.shader_runs.specs.World.{Settings}
use Rattle.shader_runs.specs.Correct.{KeepsTypes, ModuleFits}
use Rattle.shader_runs.specs.Form.{functions_of}
use Rattle.shader_runs.specs.Premises.{AllFit, AreRegular, ConstantsFit, EachWord, FunctionFits}
use Rattle.shader_runs.specs.Premises.{OperatesOutside, SettingsFit}
use Rattle.shader_runs.specs.Progress.{IsNotStuck}
use Rattle.shader_runs.specs.Results.{AllRegular, ResultsAreReturnedIn}
use Rattle.shader_runs.specs.Scope.{ModuleNames, Names, Naming}
use Rattle.shader_runs.specs.ScopeRules.{ScopeHolds}
use Rattle.shader_runs.proofs.Progress.{runs_are_not_stuck}
use Rattle.shader_runs.proofs.Results.{results_are_returned}
use Rattle.shader_runs.proofs.ScopeRules.{scope_check_is_the_rules}
use Rattle.shader_runs.proofs.OneWorld.{has_typed_world}
use Rattle.shader_runs.proofs.Unfolded.{module_unfolded, typed_unfolded, unfolded_all}
use Rattle.shader_runs.proofs.Unfolded.{unfolded_counted, unfolded_function, unfolded_functions}
use Rattle.shader_runs.proofs.Unfolded.{unfolded_module, unfolded_numbered}
use Rattle.shader_runs.proofs.UnfoldedRules.{constants_unfolded, leaf_unfolded, none_falls}
use Rattle.shader_runs.proofs.UnfoldedRules.{regular_unfolded, scope_unfolded, well_unfolded}
use Rattle.naga_form.proofs.statements.AcceptedFunctions.{functions_known, accepted_at, group_at}
use Rattle.naga_form.proofs.declarations.AcceptedGroups.{types_are_counted}
use Rattle.naga_form.proofs.declarations.ConstantInitialisers.{initialiser_of}
use Rattle.naga_form.proofs.declarations.ConstantsFit.{constants_fit, constants_are_typed}
use Rattle.naga_form.proofs.names.FreeNames.{free_names, free_naming, freely_named, free_functions}
use Rattle.naga_form.proofs.names.FreeNames.{free_within, free_distinct, free_functions_distinct}
use Rattle.naga_form.proofs.names.FreeNames.{free_constants_distinct, function_not_hidden}
use Rattle.naga_form.proofs.names.FreeWords.{free_request}
use Rattle.naga_form.proofs.statements.FunctionsFit.{AllAfter, Tells, all_from, all_distinguished}
use Rattle.naga_form.proofs.statements.FunctionsFit.{named, regular_at, shape_numbered, stand_after}
use Rattle.naga_form.proofs.statements.FunctionsFit.{worded_at}
use Rattle.naga_form.proofs.operators.Leaves.{leaves}
use Rattle.naga_form.proofs.operators.Ordered.{ordered}
use Rattle.naga_form.proofs.statements.Regular.{StandAfter}
use Rattle.naga_form.proofs.operators.ShapeWords.{function_words, initialiser_words_outside}
use Rattle.naga_form.proofs.operators.ShapeWords.{operator_asks}
use Rattle.naga_form.proofs.statements.WellFormed.{all_well_formed}
use Rattle.naga_form.proofs.statements.Worded.{AsksFreely}

module _ (m : ir_module.Module) (info : ModuleInfo) (accepted : IsTrue (is_accepted m info))
    (distinguished : TypesAreDistinguished m) where
  abbrev pub program : shapes.Module
  program = module_shape m info

  abbrev pub unfolded : shapes.Module
  unfolded = unfolded_module program

  abbrev pub names : ModuleNames
  names = free_names free_request

  abbrev pub namings : List Naming
  namings = free_naming free_request program.functions

  -- ---- one function, after these, whatever its body is
  module _ (k : ℕ) (f : ir_function.Function) (es : List ExpressionInfo)
      (at : slice_get (functions_known m info) k ≡ Some (f, es)) (q : shapes.Module)
      (body : shapes.Statements) where
    abbrev shape : shapes.Function
    shape = record (function_shape m info f es) { body = body }

    abbrev own : Naming
    own = freely_named free_request k shape

    -- all words ask for events
    all_ask : AsksFreely true q own
    all_ask = record {
      operators = λ op has does sound.
          operator_asks m info (types_are_counted m info accepted distinguished) q shape k op sound
          does;
      callees = λ g lt. function_not_hidden free_request q k shape g;
    }

    regular_freely : (callees : List shapes.Function) →
        StandAfter m info (accepted_at m info accepted k f es at).callees callees →
        AreRegular q callees own (function_shape m info f es).body
    regular_freely callees following =
        regular_at m info accepted k f es at q body own.names distinguished callees following
        (omega arith)
        (worded_at m info accepted k f es at q body own.names true (omega arith) all_ask refl)

  -- so many callees of the module stand after it, and so they do with their cases unfolded
  all_after : (k : ℕ) (f : ir_function.Function) (es : List ExpressionInfo)
      (at : slice_get (functions_known m info) k ≡ Some (f, es)) (callees : List shapes.Function) →
      length callees ≡ k → Tells (shape_numbered m info accepted) callees →
      StandAfter m info (accepted_at m info accepted k f es at).callees callees
  all_after k f es at callees number tells =
      let is = accepted_at m info accepted k f es at in
      let before = is.before in
      stand_after m info accepted is.callees callees (omega (arith, before, number)) tells

  after_unfolded : (count : ℕ) (callees : List shapes.Function) →
      StandAfter m info count callees → StandAfter m info count (unfolded_functions callees)
  after_unfolded count callees following = record {
    shape_of_callee = λ g f lt there.
        let one = following.shape_of_callee g f lt there in
        (one.0, unfolded_all one.1, unfolded_numbered callees g _ one.2);
  }

  -- ---- results
  -- the statements of each function are regular
  counted : (fs : List shapes.Function) →
      free_within free_request (length fs)
      ≡ free_within free_request (length (functions_of (free_naming free_request fs)))
  counted fs =
      ap (λ gs. free_within free_request (length gs)) (sym (free_functions free_request fs))

  named_freely : (fs : List shapes.Function) →
      AllAfter (λ callees f. f.names ≡ free_within free_request (length callees))
      (free_naming free_request fs)
  named_freely [] = tt
  named_freely (f ∷ fs) =
      (counted fs, named_freely fs)

  each_regular : (k : ℕ) (f : ir_function.Function) (es : List ExpressionInfo) →
      slice_get (functions_known m info) k ≡ Some (f, es) → (own : Names)
      (callees : List shapes.Function) → length callees ≡ k →
      Tells (shape_numbered m info accepted) callees →
      own ≡ free_within free_request (length callees) →
      AreRegular program callees (named (function_shape m info f es) own)
      (function_shape m info f es).body
  each_regular k f es at own callees number tells is =
      subst (λ own. AreRegular program callees (named (function_shape m info f es) own)
      (function_shape m info f es).body) (ap (free_within free_request) (sym number) ∙ sym is)
      (regular_freely k f es at program (function_shape m info f es).body callees
      (all_after k f es at callees number tells))

  regular_of : (fs : List Naming) →
      AllAfter (λ callees f. AreRegular program callees f f.function.body) fs →
      AllRegular program fs
  regular_of [] all = tt
  regular_of (f ∷ fs) all = (all.0, regular_of fs all.1)

  tells : Tells (shape_numbered m info accepted) (functions_of namings)
  tells =
      subst (Tells (shape_numbered m info accepted))
      (sym (free_functions free_request program.functions)) (all_distinguished m info accepted)

  -- no call misses a result that its callee returns on all paths
  pub gives_results : ResultsAreReturnedIn program
  gives_results =
      results_are_returned program namings (free_functions free_request program.functions)
      (regular_of namings
      (all_from m info accepted (λ callees f. f.names ≡ free_within free_request (length callees))
      (λ callees f. AreRegular program callees f f.function.body) each_regular namings tells
      (named_freely program.functions)))

  -- ---- constants
  initialiser_operates : (i : ℕ) (e : ConstantTree) → slice_get program.initialisers i ≡ Some e →
      EachWord (OperatesOutside program names) e
  initialiser_operates i e at =
      let found = initialiser_of m info accepted distinguished i e at in
      subst (EachWord (OperatesOutside program names)) found.is
      (initialiser_words_outside m info (types_are_counted m info accepted distinguished) program
      found.constant)

  constants : ConstantsFit program names
  constants =
      constants_fit m info accepted distinguished names initialiser_operates
      (free_constants_distinct free_request program)

  -- ---- functions, with their cases unfolded
  -- named freely after these, and its scope holds
  abbrev IsLeftlyNamed : List shapes.Function → Naming → Type 0
  IsLeftlyNamed callees f =
      (f.names ≡ free_within free_request (length callees)) × ScopeHolds f.function

  are_freely_named : (fs : List shapes.Function) → EachScopeHolds fs →
      AllAfter IsLeftlyNamed (free_naming free_request fs)
  are_freely_named [] scopes = tt
  are_freely_named (f ∷ fs) scopes = (
    (counted fs, scopes.0),
    are_freely_named fs scopes.1,
  )

  abbrev unfolded_naming : Naming → Naming
  unfolded_naming f = named (unfolded_function f.function) f.names

  abbrev unfolded_namings : List Naming → List Naming
  unfolded_namings [] = []
  unfolded_namings (f ∷ fs) = unfolded_naming f ∷ unfolded_namings fs

  functions_unfolded : (fs : List Naming) →
      functions_of (unfolded_namings fs) ≡ unfolded_functions (functions_of fs)
  functions_unfolded [] = refl
  functions_unfolded (f ∷ fs) = ap (λ gs. unfolded_function f.function ∷ gs) (functions_unfolded fs)

  abbrev FitsUnfolded : List shapes.Function → Naming → Type 0
  FitsUnfolded callees f =
      FunctionFits unfolded names (unfolded_functions callees) (unfolded_naming f)

  fits_unfolded : (k : ℕ) (f : ir_function.Function) (es : List ExpressionInfo) →
      slice_get (functions_known m info) k ≡ Some (f, es) → (own : Names)
      (callees : List shapes.Function) → length callees ≡ k →
      Tells (shape_numbered m info accepted) callees →
      IsLeftlyNamed callees (named (function_shape m info f es) own) →
      FitsUnfolded callees (named (function_shape m info f es) own)
  fits_unfolded k f es at own callees number tells is =
      let shape = function_shape m info f es in
      let body = unfolded_all shape.body in
      let types = types_are_counted m info accepted distinguished in
      let group = group_at m info accepted k f es at in
      let this = accepted_at m info accepted k f es at in
      let stands = ordered m info this.callees f es this.ranges in
      subst (λ own. FitsUnfolded callees (named shape own))
      (ap (free_within free_request) (sym number) ∙ sym is.0)
      (record {
        outer = refl;
        earlier = sym (unfolded_counted callees ∙ number);
        ordered = stands;
        words = function_words m info types unfolded f es body k;
        leaves = λ h. leaf_unfolded program shape (handle_type shape h) (expression_of shape h)
            (leaves m info f es types group
            (constants_are_typed m info accepted distinguished f es group) h);
        regular = regular_unfolded unfolded (unfolded_functions callees)
            (freely_named free_request k (unfolded_function shape)) shape.body
            (regular_freely k f es at unfolded body (unfolded_functions callees)
            (after_unfolded this.callees callees (all_after k f es at callees number tells)));
        cases = none_falls shape.body;
        distinct = free_distinct free_request unfolded k (unfolded_function shape);
        scope = (scope_check_is_the_rules
            (freely_named free_request k (unfolded_function shape)) stands).1
            (scope_unfolded shape is.1);
      })

  fit_unfolded : (fs : List Naming) → AllAfter FitsUnfolded fs →
      AllFit unfolded names (unfolded_namings fs)
  fit_unfolded [] all = tt
  fit_unfolded (f ∷ fs) all = (
    subst (λ callees. FunctionFits unfolded names callees (unfolded_naming f))
        (sym (functions_unfolded fs)) all.0,
    fit_unfolded fs all.1,
  )

  -- ---- the module
  module _ (scopes : ScopesHold m info) where
    -- unfolded and under free names it meets what the laws of runs ask
    fits_freely : ModuleFits unfolded names (unfolded_namings namings)
    fits_freely = record {
      functions = functions_unfolded namings
          ∙ ap unfolded_functions (free_functions free_request program.functions);
      distinct = free_functions_distinct free_request unfolded;
      constants = constants_unfolded program names constants;
      all = fit_unfolded namings
          (all_from m info accepted IsLeftlyNamed FitsUnfolded fits_unfolded namings tells
          (are_freely_named program.functions scopes));
    }

    settings_unfolded : (settings : Settings) → SettingsFit program settings →
        SettingsFit unfolded settings
    settings_unfolded settings fit = record { overrides = fit.overrides; globals = fit.globals }

    -- one world keeps the types
    pub has_world : HasTypedWorld m info
    has_world settings fit meaning typed =
        let found =
        has_typed_world unfolded names (unfolded_namings namings) fits_freely settings
        (settings_unfolded settings fit) meaning (typed_unfolded program meaning typed) in (
          found.0,
          λ turns g f there arguments have past.
              subst KeepsTypes
              (module_unfolded program settings meaning found.0 turns g arguments past)
              (found.1 turns g (unfolded_function f) (unfolded_numbered program.functions g f there)
              arguments have past),
        )

    -- no run of the module is stuck
    pub never_stuck : NoRunIsStuck m info
    never_stuck settings fit meaning typed g f found arguments have world turns past =
        subst IsNotStuck (module_unfolded program settings meaning world turns g arguments past)
        (runs_are_not_stuck unfolded names (unfolded_namings namings) fits_freely
        (well_unfolded program.functions (all_well_formed m info accepted)) settings
        (settings_unfolded settings fit) meaning (typed_unfolded program meaning typed) g
        (unfolded_function f) (unfolded_numbered program.functions g f found) arguments have world
        turns past).0
