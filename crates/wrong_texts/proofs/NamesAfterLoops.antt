-- A name used after its loop is refused, and the right text is not.
use Rattle.std.proofs.Common.{◌≡◌, ℕ, true, List, [], ◌∷◌, ◌∙◌, codes, refl, rules}
use Rattle.std.specs.Fmt.{digits}
use Rattle.std.specs.Str.{chars}
use Rattle.ucd_category.proofs.Computing.{ucd_category}
use Rattle.naga_naming.specs.Label.{ascii_of, hexadecimal, is_numeric, stem_of}
use Rattle.naga_naming.specs.declared.key.NameKey.TheVariants as key
use Rattle.naga_spelling.specs.Spelling.{type_segments}
use Rattle.module_semantics.specs.AlikeTypes.{handle_key}
use Rattle.module_semantics.specs.Names.{module_names, name_in, numbered_name, wgsl_names}
use Rattle.module_semantics.specs.acceptance.Accepted.{is_accepted}
use Rattle.module_semantics.specs.acceptance.Ranges.{module_ranges_fit}
use Rattle.module_semantics.specs.acceptance.Soundness.{module_is_sound}
use Rattle.naga_form.specs.Declarations.{written_program}
use Rattle.naga_form.specs.TypeTrees.{type_tree}
use Rattle.wgsl_text.specs.Declarations.{IsProgram, Program}
use Rattle.wgsl_text.specs.Expressions.{Add, Binary, Expression, Name}
use Rattle.wgsl_text.specs.Reading.{HasOneReading, Reads}
use Rattle.wgsl_text.specs.Statements.{Let, LoopBreakIf, ReturnValue}
use Rattle.wgsl_text.specs.Words.{is_builtin, is_reserved}
use Rattle.wgsl_text.specs.WorkedTrees.{gives, name, named_type, statements}
use Rattle.wgsl_text.proofs.Reading.{program_has_one_reading}
use Rattle.wrong_texts.specs.Modules.{Rest, boolean, integer, no_flags}
use Rattle.wrong_texts.specs.NamesAfterLoops.{NamesAfterLoops, expressions_known, loop_function}
use Rattle.wrong_texts.specs.NamesAfterLoops.{loop_info, loop_module, right_text, wrong, wrong_text}
use Rattle.wrong_texts.proofs.Names.{c_stays, f_stays, x_stays}
use Rattle.wrong_texts.proofs.Right.{all_hold, checks, keeps}
use Rattle.wrong_texts.proofs.Trees.{parameter_named, program_named}
use Rattle.wrong_texts.proofs.Wrong.{breaks_names, unresolved}

-- the right program, where the function and its arguments have these names
abbrev program_of : (f c x : List ℕ) → Program
program_of f c x =
    let sum : Expression = Binary (Name x) Add (Name x) in
    program_named f (parameter_named c (named_type "bool") ∷ parameter_named x (named_type "i32") ∷ [])
    (gives "i32") [] (
    LoopBreakIf (statements (Let (codes "_e2") sum ∷ [])) (statements []) (Name c) ∷
    Let (codes "_e2") sum ∷
    ReturnValue (Binary (name "_e2") Add (name "_e2")) ∷ [])

form : IsProgram wrong
unfolding is_reserved is_builtin
form = search rules

reading : HasOneReading Reads wrong_text wrong
reading = program_has_one_reading wrong form

module _ (r : Rest) where
  f_is : name_in (module_names (loop_module r)) (key.Function 0) ≡ codes "f"
  unfolding module_names wgsl_names stem_of ascii_of hexadecimal digits is_numeric ucd_category chars
  f_is = f_stays (loop_module r)

  c_is : name_in (module_names (loop_module r)) (key.FunctionArgument 0 0) ≡ codes "c"
  unfolding module_names wgsl_names stem_of ascii_of hexadecimal digits is_numeric ucd_category chars
  c_is = c_stays (loop_module r)

  x_is : name_in (module_names (loop_module r)) (key.FunctionArgument 0 1) ≡ codes "x"
  unfolding module_names wgsl_names stem_of ascii_of hexadecimal digits is_numeric ucd_category chars
  x_is = x_stays (loop_module r)

  all : all_hold (checks r (boolean ∷ integer ∷ []) (loop_function r) expressions_known) ≡ true
  unfolding is_accepted module_ranges_fit module_is_sound type_segments handle_key digits
  all = refl

  under_names : written_program (loop_module r) (loop_info r) no_flags
      ≡ program_of (name_in (module_names (loop_module r)) (key.Function 0))
      (name_in (module_names (loop_module r)) (key.FunctionArgument 0 0))
      (name_in (module_names (loop_module r)) (key.FunctionArgument 0 1))
  unfolding type_tree numbered_name digits type_segments handle_key
  under_names = refl

  pub refused : NamesAfterLoops r
  refused = record {
    right =
        keeps r (boolean ∷ integer ∷ []) (loop_function r) expressions_known all
        (program_of (codes "f") (codes "c") (codes "x"))
        (under_names ∙ λ i. program_of (f_is i) (c_is i) (x_is i)) right_text refl;
    wrong = record {
      reading = reading;
      targets = refl;
      unresolved = unresolved wrong refl;
      breaks = breaks_names wrong reading (unresolved wrong refl);
    };
  }
