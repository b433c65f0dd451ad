-- A `break if` in front of another statement is refused, and the right text is not.
use Rattle.std.proofs.Common.{◌≡◌, ℕ, true, List, [], ◌∷◌, ◌∙◌, codes, refl}
use Rattle.std.specs.Fmt.{digits}
use Rattle.std.specs.Str.{chars}
use Rattle.ucd_category.proofs.Computing.{ucd_category}
use Rattle.naga_naming.specs.Label.{ascii_of, hexadecimal, is_numeric, stem_of}
use Rattle.naga_naming.specs.declared.key.NameKey.TheVariants as key
use Rattle.naga_spelling.specs.Spelling.{type_segments}
use Rattle.module_semantics.specs.AlikeTypes.{handle_key}
use Rattle.module_semantics.specs.Names.{module_names, name_in, numbered_name, wgsl_names}
use Rattle.module_semantics.specs.acceptance.Accepted.{is_accepted}
use Rattle.module_semantics.specs.acceptance.Ranges.{module_ranges_fit}
use Rattle.module_semantics.specs.acceptance.Soundness.{module_is_sound}
use Rattle.naga_form.specs.Declarations.{written_program}
use Rattle.naga_form.specs.TypeTrees.{type_tree}
use Rattle.wgsl_text.specs.Declarations.{Program}
use Rattle.wgsl_text.specs.Expressions.{Name, NoArguments}
use Rattle.wgsl_text.specs.Functions.{NoResult}
use Rattle.wgsl_text.specs.NotInGrammar.{IsNoProgram}
use Rattle.wgsl_text.specs.Statements.{CallStatement, LoopBreakIf}
use Rattle.wgsl_text.specs.Words.{is_builtin, is_reserved}
use Rattle.wgsl_text.specs.WorkedTrees.{named_type, statements}
use Rattle.wrong_texts.specs.BreakIfFirst.{BreakIfFirst, barrier_function, barrier_info}
use Rattle.wrong_texts.specs.BreakIfFirst.{barrier_module, expressions_known, right_text, wrong_text}
use Rattle.wrong_texts.specs.Modules.{Rest, boolean, no_flags}
use Rattle.wrong_texts.proofs.Names.{c_stays, f_stays}
use Rattle.wrong_texts.proofs.Right.{all_hold, checks, keeps}
use Rattle.wrong_texts.proofs.Unread.{stops}
use Rattle.wrong_texts.proofs.Trees.{parameter_named, program_named}
use Rattle.wrong_texts.proofs.Wrong.{breaks_unread}

-- the right program, where the function and its argument have these names
abbrev program_of : (f c : List ℕ) → Program
program_of f c =
    program_named f (parameter_named c (named_type "bool") ∷ []) NoResult [] (
    LoopBreakIf (statements [])
    (statements (CallStatement (named_type "storageBarrier") NoArguments ∷ [])) (Name c) ∷ [])

unread : IsNoProgram wrong_text
unfolding is_reserved is_builtin
unread = stops _ refl

module _ (r : Rest) where
  f_is : name_in (module_names (barrier_module r)) (key.Function 0) ≡ codes "f"
  unfolding module_names wgsl_names stem_of ascii_of hexadecimal digits is_numeric ucd_category chars
  f_is = f_stays (barrier_module r)

  c_is : name_in (module_names (barrier_module r)) (key.FunctionArgument 0 0) ≡ codes "c"
  unfolding module_names wgsl_names stem_of ascii_of hexadecimal digits is_numeric ucd_category chars
  c_is = c_stays (barrier_module r)

  all : all_hold (checks r (boolean ∷ []) (barrier_function r) expressions_known) ≡ true
  unfolding is_accepted module_ranges_fit module_is_sound type_segments handle_key digits
  all = refl

  under_names : written_program (barrier_module r) (barrier_info r) no_flags
      ≡ program_of (name_in (module_names (barrier_module r)) (key.Function 0))
      (name_in (module_names (barrier_module r)) (key.FunctionArgument 0 0))
  unfolding type_tree numbered_name digits type_segments handle_key
  under_names = refl

  pub refused : BreakIfFirst r
  refused = record {
    right =
        keeps r (boolean ∷ []) (barrier_function r) expressions_known all (program_of (codes "f") (codes "c"))
        (under_names ∙ λ i. program_of (f_is i) (c_is i)) right_text refl;
    wrong = record { unread = unread; breaks = breaks_unread unread };
  }
