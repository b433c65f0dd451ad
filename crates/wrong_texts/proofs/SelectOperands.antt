-- The operands in the module's order are refused, and the right text is not.
use Rattle.std.proofs.Common.{◌≡◌, ℕ, zero, suc, pos, Bool, true, false, List, [], ◌∷◌, ◌∙◌, Option}
use Rattle.std.proofs.Common.{Some, ap, codes, refl, rules, subst, sym}
use Rattle.std.proofs.lemmas.Bool.{false≢true}
use Rattle.std.specs.Fmt.{digits}
use Rattle.std.specs.Prelude.{◌==◌, IsTrue}
use Rattle.std.specs.Str.{chars}
use Rattle.ucd_category.proofs.Computing.{ucd_category}
use Rattle.naga_naming.specs.Label.{ascii_of, hexadecimal, is_numeric, stem_of}
use Rattle.naga_naming.specs.declared.key.NameKey.TheVariants as key
use Rattle.naga_spelling.specs.Spelling.{type_segments}
use Rattle.module_semantics.specs.AlikeTypes.{handle_key}
use Rattle.module_semantics.specs.Faithful.{RunsAs}
use Rattle.module_semantics.specs.FunctionShapes.{function_shape}
use Rattle.module_semantics.specs.ModuleShapes.{module_shape}
use Rattle.module_semantics.specs.Names.{module_names, name_in, numbered_name, wgsl_names}
use Rattle.module_semantics.specs.acceptance.Accepted.{is_accepted}
use Rattle.module_semantics.specs.acceptance.Ranges.{module_ranges_fit}
use Rattle.module_semantics.specs.acceptance.Soundness.{module_is_sound}
use Rattle.naga_form.specs.Declarations.{written_program}
use Rattle.naga_form.specs.TypeTrees.{type_tree}
use Rattle.shader_runs.specs.Constants.{follow_module, run_module}
use Rattle.shader_runs.specs.Correct.{KeepsTypes}
use Rattle.shader_runs.specs.Outcome.{Gives, ReachedOrHalted}
use Rattle.shader_runs.specs.Premises.{IsTyped, LeafTyped, SettingsFit, handle_types}
use Rattle.shader_runs.specs.Program as shapes
use Rattle.shader_runs.specs.Program.{expression_of, handle_type, operands_of, is_pure}
use Rattle.shader_runs.specs.ProgramRun.{combined_value}
use Rattle.shader_runs.specs.Value.{Spelled, Value, Whole, has_type, has_types}
use Rattle.shader_runs.specs.World.{Entry}
use Rattle.text_semantics.specs.Abstraction.{program_read}
use Rattle.text_semantics.specs.Vocabulary.{vocabulary_read}
use Rattle.wgsl_text.specs.Declarations.{IsProgram, Program}
use Rattle.wgsl_text.specs.Expressions.{Call, Name, operands}
use Rattle.wgsl_text.specs.Operators.{is_built_in}
use Rattle.wgsl_text.specs.Reading.{HasOneReading, Reads}
use Rattle.wgsl_text.specs.Requests.{is_request}
use Rattle.wgsl_text.specs.Statements.{ReturnValue}
use Rattle.wgsl_text.specs.Words.{is_builtin, is_reserved}
use Rattle.wgsl_text.specs.WorkedTrees.{gives, named_type}
use Rattle.wgsl_text.proofs.Reading.{program_has_one_reading}
use Rattle.wrong_texts.specs.Modules.{Rest, always_seven, boolean, integer, no_flags, no_settings, number}
use Rattle.wrong_texts.specs.SelectOperands.{ChoosesAnother, SelectOperands, arguments, choosing}
use Rattle.wrong_texts.specs.SelectOperands.{expressions_known}
use Rattle.wrong_texts.specs.SelectOperands.{right_text, select_function, select_info, select_module}
use Rattle.wrong_texts.specs.SelectOperands.{wrong, wrong_text}
use Rattle.wrong_texts.proofs.Names.{c_stays, f_stays, x_stays, y_stays}
use Rattle.wrong_texts.proofs.Right.{all_hold, checks, keeps}
use Rattle.wrong_texts.proofs.Trees.{parameter_named, program_named}
use Rattle.wrong_texts.proofs.Wrong.{breaks_runs}

-- the right program, where the function and its arguments have these names
abbrev program_of : (f c x y : List ℕ) → Program
program_of f c x y =
    program_named f
    (parameter_named c (named_type "bool") ∷ parameter_named x (named_type "i32") ∷
    parameter_named y (named_type "i32") ∷ []) (gives "i32") [] (
    ReturnValue (Call (named_type "select") (operands (Name y ∷ Name x ∷ Name c ∷ []))) ∷ [])

-- a call returned 2
abbrev is_two : ReachedOrHalted (Option Value) → Bool
is_two (Gives (Some (Whole s (pos n))) t) = n == 2
is_two other = false

form : IsProgram wrong
unfolding is_reserved is_builtin
form = search rules

reading : HasOneReading Reads wrong_text wrong
reading = program_has_one_reading wrong form

module _ (r : Rest) where
  abbrev shape : shapes.Module
  shape = module_shape (select_module r) (select_info r)

  f_is : name_in (module_names (select_module r)) (key.Function 0) ≡ codes "f"
  unfolding module_names wgsl_names stem_of ascii_of hexadecimal digits is_numeric ucd_category chars
  f_is = f_stays (select_module r)

  c_is : name_in (module_names (select_module r)) (key.FunctionArgument 0 0) ≡ codes "c"
  unfolding module_names wgsl_names stem_of ascii_of hexadecimal digits is_numeric ucd_category chars
  c_is = c_stays (select_module r)

  x_is : name_in (module_names (select_module r)) (key.FunctionArgument 0 1) ≡ codes "x"
  unfolding module_names wgsl_names stem_of ascii_of hexadecimal digits is_numeric ucd_category chars
  x_is = x_stays (select_module r)

  y_is : name_in (module_names (select_module r)) (key.FunctionArgument 0 2) ≡ codes "y"
  unfolding module_names wgsl_names stem_of ascii_of hexadecimal digits is_numeric ucd_category chars
  y_is = y_stays (select_module r)

  all : all_hold (checks r (boolean ∷ integer ∷ []) (select_function r) expressions_known) ≡ true
  unfolding is_accepted module_ranges_fit module_is_sound type_segments handle_key
  all = refl

  under_names : written_program (select_module r) (select_info r) no_flags
      ≡ program_of (name_in (module_names (select_module r)) (key.Function 0))
      (name_in (module_names (select_module r)) (key.FunctionArgument 0 0))
      (name_in (module_names (select_module r)) (key.FunctionArgument 0 1))
      (name_in (module_names (select_module r)) (key.FunctionArgument 0 2))
  unfolding type_tree numbered_name digits type_segments handle_key
  under_names = refl

  -- ---- the run
  abbrev f : shapes.Function
  f = function_shape (select_module r) (select_info r) (select_function r) expressions_known

  leaves_are_typed : (h : ℕ) → LeafTyped shape.parts shape choosing (expression_of f h)
  leaves_are_typed zero = tt
  leaves_are_typed (suc zero) = tt
  leaves_are_typed (suc (suc zero)) = tt
  leaves_are_typed (suc (suc (suc zero))) = tt
  leaves_are_typed (suc (suc (suc (suc h)))) = tt

  -- each operator gives a number
  operators_are_typed : (h : ℕ) → IsTrue (is_pure (expression_of f h)) → (vs : List Value) →
      IsTrue (has_types shape.parts (handle_types f (operands_of (expression_of f h))) vs) →
      (v : Value) × (combined_value shape.parts choosing (expression_of f h) vs ≡ Some v)
      × IsTrue (has_type shape.parts (handle_type f h) v)
  unfolding type_segments
  operators_are_typed zero pure vs fit = absurd (false≢true pure)
  operators_are_typed (suc zero) pure vs fit = absurd (false≢true pure)
  operators_are_typed (suc (suc zero)) pure vs fit = absurd (false≢true pure)
  operators_are_typed (suc (suc (suc zero))) pure vs fit = (choosing (Spelled (codes "select")) vs, refl, refl)
  operators_are_typed (suc (suc (suc (suc h)))) pure vs fit = absurd (false≢true pure)

  typed : IsTyped shape choosing
  typed = record {
    functions = (record { constants = leaves_are_typed; operators = operators_are_typed }, tt);
    initialisers = λ i e at. absurd cc;
  }

  run : ChoosesAnother shape
  unfolding is_request is_built_in type_segments
  run = record {
    typed = typed;
    module_run = λ world turns past. refl;
    text_run = λ world turns past. refl;
  }

  settings_fit : SettingsFit shape no_settings
  settings_fit = record { overrides = refl; globals = refl }

  fit : has_types shape.parts f.argument_types arguments ≡ true
  unfolding type_segments
  fit = refl

  -- the program's run from the function of this name
  abbrev text_run : (name : List ℕ) → ReachedOrHalted (Option Value)
  text_run name =
      follow_module (program_read wrong) shape.parts no_settings always_seven choosing
      (vocabulary_read wrong) 0 name arguments []

  differ : RunsAs (select_module r) (select_info r) wrong → ⊥
  differ runs =
      let same : text_run (name_in (module_names (select_module r)) (key.Function 0))
      ≡ run_module shape no_settings always_seven choosing 0 0 arguments [] =
      runs 0 no_settings settings_fit choosing typed f refl arguments fit always_seven 0 []
      (subst KeepsTypes (sym (run.module_run always_seven 0 [])) tt) in
      let one : text_run (codes "f") ≡ Gives (Some (number 1)) (Entry 0 arguments [] ∷ []) =
      sym (ap text_run f_is) ∙ same ∙ run.module_run always_seven 0 [] in
      false≢true (sym (ap is_two one) ∙ ap is_two (run.text_run always_seven 0 []))

  pub refused : SelectOperands r
  refused = record {
    right =
        keeps r (boolean ∷ integer ∷ []) (select_function r) expressions_known all
        (program_of (codes "f") (codes "c") (codes "x") (codes "y"))
        (under_names ∙ λ i. program_of (f_is i) (c_is i) (x_is i) (y_is i)) right_text refl;
    run = run;
    wrong = record { reading = reading; runs = differ; breaks = breaks_runs wrong reading differ };
  }
