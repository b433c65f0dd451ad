-- A name that a `continue` skips is refused in `continuing`, and the right text is not.
use Rattle.std.proofs.Common.{◌≡◌, ℕ, true, List, [], ◌∷◌, ◌∙◌, None, codes, refl, rules}
use Rattle.std.specs.Fmt.{digits}
use Rattle.std.specs.Str.{chars}
use Rattle.ucd_category.proofs.Computing.{ucd_category}
use Rattle.naga_naming.specs.Label.{ascii_of, hexadecimal, is_numeric, stem_of}
use Rattle.naga_naming.specs.declared.key.NameKey.TheVariants as key
use Rattle.naga_spelling.specs.Spelling.{type_segments}
use Rattle.module_semantics.specs.AlikeTypes.{handle_key}
use Rattle.module_semantics.specs.Names.{module_names, name_in, numbered_name, wgsl_names}
use Rattle.module_semantics.specs.acceptance.Accepted.{is_accepted}
use Rattle.module_semantics.specs.acceptance.Ranges.{module_ranges_fit}
use Rattle.module_semantics.specs.acceptance.Soundness.{module_is_sound}
use Rattle.naga_form.specs.Declarations.{written_program}
use Rattle.naga_form.specs.TypeTrees.{type_tree}
use Rattle.wgsl_text.specs.Declarations.{IsProgram, Program}
use Rattle.wgsl_text.specs.Expressions.{Name}
use Rattle.wgsl_text.specs.Functions.{NoResult}
use Rattle.wgsl_text.specs.Reading.{HasOneReading, Reads}
use Rattle.wgsl_text.specs.Statements.{Assign, Continue, If, Let, LoopBreakIf, NoBlock}
use Rattle.wgsl_text.specs.Words.{is_builtin, is_reserved}
use Rattle.wgsl_text.specs.WorkedTrees.{name, named_type, statements}
use Rattle.wgsl_text.proofs.Reading.{program_has_one_reading}
use Rattle.wrong_texts.specs.Modules.{Rest, boolean, integer, no_flags}
use Rattle.wrong_texts.specs.SkippedNames.{SkippedNames, constant_sum, expressions_known, right_text}
use Rattle.wrong_texts.specs.SkippedNames.{skipping_function, skipping_info, skipping_module, wrong}
use Rattle.wrong_texts.specs.SkippedNames.{wrong_text}
use Rattle.wrong_texts.proofs.Names.{a_stays, c_stays, f_stays}
use Rattle.wrong_texts.proofs.Right.{all_hold, checks, keeps}
use Rattle.wrong_texts.proofs.Trees.{parameter_named, program_named}
use Rattle.wrong_texts.proofs.Wrong.{breaks_names, unresolved}

-- the right program, where the function, its argument and its local have these names
abbrev program_of : (f c a : List ℕ) → Program
program_of f c a =
    program_named f (parameter_named c (named_type "bool") ∷ []) NoResult
    (record { name = a; type = named_type "i32"; value = None } ∷ []) (
    LoopBreakIf (statements (
    If (Name c) (statements (Continue ∷ [])) NoBlock ∷
    Let (codes "_e3") constant_sum ∷
    Assign (Name a) (name "_e3") ∷ []))
    (statements (Assign (Name a) constant_sum ∷ [])) (Name c) ∷ [])

form : IsProgram wrong
unfolding is_reserved is_builtin
form = search rules

reading : HasOneReading Reads wrong_text wrong
unfolding digits
reading = program_has_one_reading wrong form

module _ (r : Rest) where
  f_is : name_in (module_names (skipping_module r)) (key.Function 0) ≡ codes "f"
  unfolding module_names wgsl_names stem_of ascii_of hexadecimal digits is_numeric ucd_category chars
  f_is = f_stays (skipping_module r)

  c_is : name_in (module_names (skipping_module r)) (key.FunctionArgument 0 0) ≡ codes "c"
  unfolding module_names wgsl_names stem_of ascii_of hexadecimal digits is_numeric ucd_category chars
  c_is = c_stays (skipping_module r)

  a_is : name_in (module_names (skipping_module r)) (key.FunctionLocal 0 0) ≡ codes "a"
  unfolding module_names wgsl_names stem_of ascii_of hexadecimal digits is_numeric ucd_category chars
  a_is = a_stays (skipping_module r)

  all : all_hold (checks r (boolean ∷ integer ∷ []) (skipping_function r) expressions_known) ≡ true
  unfolding is_accepted module_ranges_fit module_is_sound type_segments handle_key digits
  all = refl

  under_names : written_program (skipping_module r) (skipping_info r) no_flags
      ≡ program_of (name_in (module_names (skipping_module r)) (key.Function 0))
      (name_in (module_names (skipping_module r)) (key.FunctionArgument 0 0))
      (name_in (module_names (skipping_module r)) (key.FunctionLocal 0 0))
  unfolding type_tree numbered_name digits type_segments handle_key
  under_names = refl

  pub refused : SkippedNames r
  unfolding digits
  refused = record {
    right =
        keeps r (boolean ∷ integer ∷ []) (skipping_function r) expressions_known all
        (program_of (codes "f") (codes "c") (codes "a"))
        (under_names ∙ λ i. program_of (f_is i) (c_is i) (a_is i)) right_text refl;
    wrong = record {
      reading = reading;
      targets = refl;
      unresolved = unresolved wrong refl;
      breaks = breaks_names wrong reading (unresolved wrong refl);
    };
  }
