-- The component of a negation without parentheses is refused, and the right text is not.
use Rattle.std.proofs.Common.{◌≡◌, ℕ, true, List, [], ◌∷◌, ◌∙◌, ap, codes, length, refl}
use Rattle.std.proofs.lemmas.Bool.{false≢true}
use Rattle.std.specs.Prelude.{◌==◌}
use Rattle.std.specs.Fmt.{digits}
use Rattle.std.specs.Str.{chars}
use Rattle.ucd_category.proofs.Computing.{ucd_category}
use Rattle.naga_naming.specs.Label.{ascii_of, hexadecimal, is_numeric, stem_of}
use Rattle.naga_naming.specs.declared.key.NameKey.TheVariants as key
use Rattle.naga_spelling.specs.Spelling.{type_segments}
use Rattle.module_semantics.specs.AlikeTypes.{handle_key}
use Rattle.module_semantics.specs.Names.{module_names, name_in, numbered_name, wgsl_names}
use Rattle.module_semantics.specs.acceptance.Accepted.{is_accepted}
use Rattle.module_semantics.specs.acceptance.Ranges.{module_ranges_fit}
use Rattle.module_semantics.specs.acceptance.Soundness.{module_is_sound}
use Rattle.naga_form.specs.Declarations.{written_program}
use Rattle.naga_form.specs.TypeTrees.{type_tree}
use Rattle.wgsl_text.specs.Declarations.{Program, program_pieces}
use Rattle.wgsl_text.specs.Expressions.{Member, Name, Negate, Unary}
use Rattle.wgsl_text.specs.NotInGrammar.{IsNoProgram}
use Rattle.wgsl_text.specs.Statements.{ReturnValue}
use Rattle.wgsl_text.specs.Text.{tokens_in}
use Rattle.wgsl_text.specs.Words.{is_builtin, is_reserved}
use Rattle.wgsl_text.specs.WorkedTrees.{gives, template_of}
use Rattle.wrong_texts.specs.ComponentOfNegation.{ComponentOfNegation, expressions_known}
use Rattle.wrong_texts.specs.ComponentOfNegation.{negation_function, negation_info, negation_module}
use Rattle.wrong_texts.specs.ComponentOfNegation.{right_text, types, wrong_text}
use Rattle.wrong_texts.specs.Modules.{Rest, no_flags}
use Rattle.wrong_texts.proofs.Names.{f_stays, v_stays}
use Rattle.wrong_texts.proofs.Right.{all_hold, checks, keeps}
use Rattle.wrong_texts.proofs.Unread.{finds}
use Rattle.wrong_texts.proofs.Trees.{parameter_named, program_named}
use Rattle.wrong_texts.proofs.Wrong.{breaks_unread}

-- the right program, where the function and its argument have these names
abbrev program_of : (f v : List ℕ) → Program
program_of f v =
    program_named f (parameter_named v (template_of "vec3" ("i32" ∷ [])) ∷ []) (gives "i32") [] (
    ReturnValue (Member (Unary Negate (Name v)) (codes "x")) ∷ [])

-- the machine finds the right program, which has two tokens more
abbrev right : Program
right = program_of (codes "f") (codes "v")

unread : IsNoProgram wrong_text
unfolding is_reserved is_builtin
unread =
    finds _ right refl
    (λ r. false≢true (ap (λ ts. length ts == length (tokens_in (program_pieces right))) r.tokens))

module _ (r : Rest) where
  f_is : name_in (module_names (negation_module r)) (key.Function 0) ≡ codes "f"
  unfolding module_names wgsl_names stem_of ascii_of hexadecimal digits is_numeric ucd_category chars
  f_is = f_stays (negation_module r)

  v_is : name_in (module_names (negation_module r)) (key.FunctionArgument 0 0) ≡ codes "v"
  unfolding module_names wgsl_names stem_of ascii_of hexadecimal digits is_numeric ucd_category chars
  v_is = v_stays (negation_module r)

  all : all_hold (checks r types (negation_function r) expressions_known) ≡ true
  unfolding is_accepted module_ranges_fit module_is_sound type_segments handle_key digits
  all = refl

  under_names : written_program (negation_module r) (negation_info r) no_flags
      ≡ program_of (name_in (module_names (negation_module r)) (key.Function 0))
      (name_in (module_names (negation_module r)) (key.FunctionArgument 0 0))
  unfolding type_tree numbered_name digits type_segments handle_key
  under_names = refl

  pub refused : ComponentOfNegation r
  refused = record {
    right =
        keeps r types (negation_function r) expressions_known all (program_of (codes "f") (codes "v"))
        (under_names ∙ λ i. program_of (f_is i) (v_is i)) right_text refl;
    wrong = record { unread = unread; breaks = breaks_unread unread };
  }
