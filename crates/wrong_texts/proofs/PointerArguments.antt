-- The component without `*` is refused, and the right text is not.
use Rattle.std.proofs.Common.{◌≡◌, ℕ, pos, true, List, [], ◌∷◌, ◌∙◌, None, Option, Some, ap, codes}
use Rattle.std.proofs.Common.{refl, rules, subst, sym}
use Rattle.std.specs.Fmt.{digits}
use Rattle.std.specs.Str.{chars}
use Rattle.ucd_category.proofs.Computing.{ucd_category}
use Rattle.naga_naming.specs.Label.{ascii_of, hexadecimal, is_numeric, stem_of}
use Rattle.naga_naming.specs.declared.key.NameKey.TheVariants as key
use Rattle.naga_spelling.specs.Spelling.{type_segments}
use Rattle.module_semantics.specs.AlikeTypes.{handle_key}
use Rattle.module_semantics.specs.Faithful.{RunsAs}
use Rattle.module_semantics.specs.FunctionShapes.{function_shape}
use Rattle.module_semantics.specs.Meanings.{HasTypedMeaning}
use Rattle.module_semantics.specs.ModuleShapes.{module_shape}
use Rattle.module_semantics.specs.Names.{module_names, name_in, numbered_name, wgsl_names}
use Rattle.module_semantics.specs.acceptance.Accepted.{is_accepted}
use Rattle.module_semantics.specs.acceptance.Ranges.{module_ranges_fit}
use Rattle.module_semantics.specs.acceptance.Soundness.{module_is_sound}
use Rattle.naga_form.specs.Declarations.{written_program}
use Rattle.naga_form.specs.TypeTrees.{type_tree}
use Rattle.naga_form.proofs.names.DistinguishedItems.{items_are_distinguished}
use Rattle.naga_form.proofs.operators.ConsistentModules.{has_meaning}
use Rattle.shader_runs.specs.Constants.{follow_module, run_module}
use Rattle.shader_runs.specs.Correct.{KeepsTypes}
use Rattle.shader_runs.specs.Outcome.{Gives, Halts, ReachedOrHalted, Stuck}
use Rattle.shader_runs.specs.Premises.{SettingsFit}
use Rattle.shader_runs.specs.Program as shapes
use Rattle.shader_runs.specs.Value.{At, Part, Value, has_types}
use Rattle.shader_runs.specs.World.{Entry, Meaning, Read}
use Rattle.text_semantics.specs.Abstraction.{program_read}
use Rattle.text_semantics.specs.Vocabulary.{vocabulary_read}
use Rattle.wgsl_text.specs.Declarations.{IsProgram, Program}
use Rattle.wgsl_text.specs.Expressions.{Dereference, Member, Name}
use Rattle.wgsl_text.specs.Reading.{HasOneReading, Reads}
use Rattle.wgsl_text.specs.Statements.{Let, ReturnValue}
use Rattle.wgsl_text.specs.Types.{pointer_tree}
use Rattle.wgsl_text.specs.Words.{is_builtin, is_reserved}
use Rattle.wgsl_text.specs.WorkedTrees.{gives, name, template_of}
use Rattle.wgsl_text.proofs.Reading.{program_has_one_reading}
use Rattle.wrong_texts.specs.Modules.{Rest, always_seven, no_flags, no_settings, number}
use Rattle.wrong_texts.specs.PointerArguments.{IsStuckAtPointer, PointerArguments, arguments}
use Rattle.wrong_texts.specs.PointerArguments.{expressions_known, pointee, pointer_function}
use Rattle.wrong_texts.specs.PointerArguments.{pointer_info, pointer_module, right_text, types, wrong}
use Rattle.wrong_texts.specs.PointerArguments.{wrong_text}
use Rattle.wrong_texts.proofs.Names.{f_stays, p_stays}
use Rattle.wrong_texts.proofs.Right.{accepted, all_hold, checks, keeps}
use Rattle.wrong_texts.proofs.Trees.{parameter_named, program_named}
use Rattle.wrong_texts.proofs.Wrong.{breaks_runs}

-- the right program, where the function and its argument have these names
abbrev program_of : (f p : List ℕ) → Program
program_of f p =
    program_named f
    (parameter_named p (pointer_tree (codes "function") None (template_of "vec2" ("i32" ∷ []))) ∷ [])
    (gives "i32") [] (
    Let (codes "_e2") (Member (Dereference (Name p)) (codes "x")) ∷
    ReturnValue (name "_e2") ∷ [])

form : IsProgram wrong
unfolding is_reserved is_builtin
form = search rules

reading : HasOneReading Reads wrong_text wrong
reading = program_has_one_reading wrong form

module _ (r : Rest) where
  abbrev shape : shapes.Module
  shape = module_shape (pointer_module r) (pointer_info r)

  f_is : name_in (module_names (pointer_module r)) (key.Function 0) ≡ codes "f"
  unfolding module_names wgsl_names stem_of ascii_of hexadecimal digits is_numeric ucd_category chars
  f_is = f_stays (pointer_module r)

  p_is : name_in (module_names (pointer_module r)) (key.FunctionArgument 0 0) ≡ codes "p"
  unfolding module_names wgsl_names stem_of ascii_of hexadecimal digits is_numeric ucd_category chars
  p_is = p_stays (pointer_module r)

  all : all_hold (checks r types (pointer_function r) expressions_known) ≡ true
  unfolding is_accepted module_ranges_fit module_is_sound type_segments handle_key
  all = refl

  under_names : written_program (pointer_module r) (pointer_info r) no_flags
      ≡ program_of (name_in (module_names (pointer_module r)) (key.Function 0))
      (name_in (module_names (pointer_module r)) (key.FunctionArgument 0 0))
  unfolding type_tree numbered_name digits type_segments handle_key
  under_names = refl

  -- ---- the run
  abbrev f : shapes.Function
  f = function_shape (pointer_module r) (pointer_info r) (pointer_function r) expressions_known

  run : IsStuckAtPointer shape
  unfolding type_segments
  run = record {
    module_run = λ meaning turns past. refl;
    text_run = λ meaning turns past. refl;
  }

  settings_fit : SettingsFit shape no_settings
  settings_fit = record { overrides = refl; globals = refl }

  fit : has_types shape.parts f.argument_types arguments ≡ true
  unfolding type_segments
  fit = refl

  -- the program's run from the function of this name
  abbrev text_run : Meaning → (name : List ℕ) → ReachedOrHalted (Option Value)
  text_run meaning name =
      follow_module (program_read wrong) shape.parts no_settings always_seven meaning
      (vocabulary_read wrong) 0 name arguments []

  differ : RunsAs (pointer_module r) (pointer_info r) wrong → ⊥
  differ runs =
      let typed : HasTypedMeaning (pointer_module r) (pointer_info r) =
      has_meaning (pointer_module r) (pointer_info r) (accepted r types (pointer_function r) expressions_known all)
      (items_are_distinguished (pointer_module r)) in
      let goes_on = run.module_run typed.0 0 [] in
      let same : text_run typed.0 (name_in (module_names (pointer_module r)) (key.Function 0))
      ≡ run_module shape no_settings always_seven typed.0 0 0 arguments [] =
      runs 0 no_settings settings_fit typed.0 typed.1 f refl arguments fit always_seven 0 []
      (subst KeepsTypes (sym goes_on) tt) in
      let stuck : Halts Stuck (Entry 0 arguments [] ∷ [])
      ≡ Gives (Some (number 7)) (Read (Part pointee (At (pos 0))) ∷ Entry 0 arguments [] ∷ []) =
      sym (run.text_run typed.0 0 []) ∙ sym (ap (text_run typed.0) f_is) ∙ same ∙ goes_on in
      cc

  pub refused : PointerArguments r
  refused = record {
    right =
        keeps r types (pointer_function r) expressions_known all
        (program_of (codes "f") (codes "p")) (under_names ∙ λ i. program_of (f_is i) (p_is i))
        right_text refl;
    run = run;
    wrong = record { reading = reading; runs = differ; breaks = breaks_runs wrong reading differ };
  }
