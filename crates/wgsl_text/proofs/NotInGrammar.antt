-- The machine shows which texts have no reading.
use Rattle.std.proofs.Common.{◌≡◌, Bool, true, false, List, [], ◌∷◌, length, refl, sym, ap, subst}
use Rattle.std.proofs.Common.{◌∙◌, arith}
use Rattle.std.specs.Prelude.{codes, ◌==◌, ◌<◌, ◌^◌}
use Rattle.std.proofs.lemmas.Bool.{false≢true}
use Rattle.wgsl_text.specs.Token.{SuffixI, SuffixU, Token}
use Rattle.wgsl_text.specs.Literals.{Suffixed}
use Rattle.wgsl_text.specs.Types.{TypeSpecifier, Named, Template, NoTemplateArguments, TypeArgument}
use Rattle.wgsl_text.specs.Expressions.{Negate, Expression, Constant, Name, Unary, Call, Member}
use Rattle.wgsl_text.specs.Expressions.{NoArguments, Argument, NumberArgument, ZeroArgument}
use Rattle.wgsl_text.specs.Attributes.{Compute, Location, Size, Align, Builtin, Attribute, Plain}
use Rattle.wgsl_text.specs.Attributes.{Numbered, Worded, WorkgroupSize, FixedSize}
use Rattle.wgsl_text.specs.Functions.{NoResult}
use Rattle.wgsl_text.specs.Statements.{Case, Cases, DefaultCase, LastCaseValue, MoreCaseValues}
use Rattle.wgsl_text.specs.Statements.{NoCases, NoStatements, SignedCase, Switch}
use Rattle.wgsl_text.specs.Declarations.{Program, no_declarations}
use Rattle.wgsl_text.proofs.Declarations.{newest_first, newest_twice}
use Rattle.wgsl_text.specs.Words.{is_reserved, is_builtin}
use Rattle.wgsl_text.specs.WorkedTrees.{named_type, name, call, parameter, function, of_functions}
use Rattle.wgsl_text.specs.WorkedTrees.{member, struct, named_size}
use Rattle.wgsl_text.specs.Reading.{ReadsType, ReadsExpression, Reads}
use Rattle.wgsl_text.specs.NotInGrammar.{TextsNotInGrammar, IsNoExpression}
use Rattle.wgsl_text.proofs.Machine.{Reader, Expect, ExpectType, Got, GotType, Bottom, InProgram}
use Rattle.wgsl_text.proofs.Reading.{read, type_read, expression_read, program_read, same_type}
use Rattle.wgsl_text.proofs.Reading.{same_expression, same_program}

abbrev is_type : Reader → Bool
is_type (GotType t Bottom) = true
is_type _ = false

abbrev is_expression : Reader → Bool
is_expression (Got e Bottom) = true
is_expression _ = false

abbrev is_program : Reader → Bool
is_program (Expect (InProgram [] p)) = true
is_program _ = false

-- Where the machine stops elsewhere, nothing is read.
no_type : (ts : List Token) → is_type (read ts (ExpectType Bottom)) ≡ false → (t : TypeSpecifier) → ReadsType ts t → ⊥
no_type ts stops t r = false≢true (sym stops ∙ ap is_type (type_read t r))

no_expression : (ts : List Token) → is_expression (read ts (Expect Bottom)) ≡ false → (e : Expression) →
    ReadsExpression ts e → ⊥
no_expression ts stops e r = false≢true (sym stops ∙ ap is_expression (expression_read e r))

no_program : (ts : List Token) → is_program (read ts (Expect (InProgram [] no_declarations))) ≡ false →
    (p : Program) → Reads ts p → ⊥
no_program ts stops p r = false≢true (sym stops ∙ ap is_program (program_read p r))

-- Where the machine finds a tree, no other is read.
the_expression : (ts : List Token) (found e : Expression) → read ts (Expect Bottom) ≡ Got found Bottom →
    ReadsExpression ts e → e ≡ found
the_expression ts found e f r = same_expression e found (read ts (Expect Bottom)) (expression_read e r) f

found_expression : (ts : List Token) (found : Expression) → read ts (Expect Bottom) ≡ Got found Bottom →
    (ReadsExpression ts found → ⊥) → (e : Expression) → ReadsExpression ts e → ⊥
found_expression ts found f refused e r = refused (subst (ReadsExpression ts) (the_expression ts found e f r) r)

found_type : (ts : List Token) (found : TypeSpecifier) → read ts (ExpectType Bottom) ≡ GotType found Bottom →
    (ReadsType ts found → ⊥) → (t : TypeSpecifier) → ReadsType ts t → ⊥
found_type ts found f refused t r =
    refused (subst (ReadsType ts) (same_type t found (read ts (ExpectType Bottom)) (type_read t r) f) r)

found_program : (ts : List Token) (found : Program) → read ts (Expect (InProgram [] no_declarations))
    ≡ Expect (InProgram [] found) → (Reads ts (newest_first found) → ⊥) → (p : Program) → Reads ts p → ⊥
found_program ts found f refused p r =
    refused (subst (Reads ts) (sym (newest_twice p)
    ∙ ap newest_first (same_program (newest_first p) found _ (program_read p r) f)) r)

member_of_unary : IsNoExpression (codes "-(v).x")
unfolding is_reserved is_builtin
member_of_unary = found_expression _ (Member (Unary Negate (Name (codes "v"))) (codes "x")) refl
    (λ r. false≢true (ap (λ ts. length ts == 8) r.tokens))

plain_number : IsNoExpression (codes "1")
plain_number = no_expression _ refl

plain_fraction : IsNoExpression (codes "1.5")
plain_fraction = no_expression _ refl

power_of_single : IsNoExpression (codes "1e5f")
unfolding is_reserved is_builtin
power_of_single = no_expression _ refl

hexadecimal : IsNoExpression (codes "0x1f")
unfolding is_reserved is_builtin
hexadecimal = no_expression _ refl

open_fraction : IsNoExpression (codes "1.f")
unfolding is_reserved is_builtin
open_fraction = no_expression _ refl

plain_argument : IsNoExpression (codes "f(x, 1)")
unfolding is_reserved is_builtin
plain_argument =
    found_expression _ (Call (Named (codes "f")) (Argument (Name (codes "x")) (NumberArgument 1 NoArguments)))
    refl (λ r. false≢true r.form.2)

level_elsewhere : IsNoExpression (codes "textureSampleBias(t, s, p, 0.0)")
unfolding is_reserved is_builtin
level_elsewhere =
    found_expression _ (call "textureSampleBias"
    (Argument (name "t") (Argument (name "s") (Argument (name "p") (ZeroArgument false NoArguments))))) refl
    (λ r. false≢true r.form.2)

level_first : IsNoExpression (codes "textureSampleLevel(0.0, t, s, p)")
unfolding is_reserved is_builtin
level_first =
    found_expression _ (call "textureSampleLevel"
    (ZeroArgument false (Argument (name "t") (Argument (name "s") (Argument (name "p") NoArguments))))) refl
    (λ r. false≢true r.form.2)

two_levels : IsNoExpression (codes "textureSampleLevel(t, s, 0.0, 0.0)")
unfolding is_reserved is_builtin
two_levels =
    found_expression _ (call "textureSampleLevel"
    (Argument (name "t") (Argument (name "s") (ZeroArgument false (ZeroArgument false NoArguments))))) refl
    (λ r. false≢true r.form.2)

open_binary : IsNoExpression (codes "a + b")
unfolding is_reserved is_builtin
open_binary = no_expression _ refl

keyword_called : IsNoExpression (codes "fn(x)")
unfolding is_reserved is_builtin
keyword_called = no_expression _ refl

reserved_called : IsNoExpression (codes "while(x)")
unfolding is_reserved is_builtin
reserved_called = found_expression _ (Call (Named (codes "while")) (Argument (Name (codes "x")) NoArguments))
    refl (λ r. false≢true (sym r.form.0.free))

builtin_name : IsNoExpression (codes "f32")
unfolding is_reserved is_builtin
builtin_name = found_expression _ (Name (codes "f32")) refl (λ r. false≢true (sym r.form.own))

-- a struct of one member with these attributes
abbrev of_member : List Attribute → Program
of_member attributes =
    record no_declarations { structs = struct "S" (member attributes "a" (named_type "f32") ∷ []) ∷ [] }

-- a function with a switch of these cases alone
abbrev of_switch : Cases → Program
of_switch cases =
    of_functions (function "f" (parameter "x" (named_type "i32") ∷ []) NoResult [] (Switch (name "x") cases ∷ []) ∷ [])

abbrev reserved_parameter_tree : Program
reserved_parameter_tree = of_functions (function "f" (parameter "self" (named_type "i32") ∷ []) NoResult [] [] ∷ [])

abbrev unknown_builtin_value_tree : Program
unknown_builtin_value_tree =
    of_functions (function "f"
    (record { attributes = Worded Builtin (codes "colour") ∷ []; name = codes "x"; type = named_type "i32" }
    ∷ []) NoResult [] [] ∷ [])

abbrev stage_without_size_tree : Program
stage_without_size_tree = record no_declarations {
  entry_points = record { stage = Plain Compute ∷ []; function = function "main" [] NoResult [] [] } ∷ [];
}

abbrev builtin_size_tree : Program
builtin_size_tree = record no_declarations {
  entry_points =
      record {
        stage = Plain Compute ∷ WorkgroupSize (named_size "f32") (FixedSize 1) (FixedSize 1) ∷ [];
        function = function "main" [] NoResult [] [];
      } ∷ [];
}

pub refused : TextsNotInGrammar
unfolding is_reserved is_builtin
refused = record {
  member_of_unary = member_of_unary;
  plain_number = plain_number;
  plain_fraction = plain_fraction;
  power_of_single = power_of_single;
  hexadecimal = hexadecimal;
  open_fraction = open_fraction;
  plain_argument = plain_argument;
  level_elsewhere = level_elsewhere;
  level_first = level_first;
  two_levels = two_levels;
  open_binary = open_binary;
  keyword_called = keyword_called;
  reserved_called = reserved_called;
  builtin_name = builtin_name;
  negative_unsigned = found_expression _ (Constant (Suffixed true 5 SuffixU)) refl (λ r. r.form);
  too_great = found_expression _ (Constant (Suffixed false 2147483648 SuffixI)) refl
      (λ r. let small : 2147483648 < 2 ^ 31 = r.form in omega arith);
  half_type = no_type _ refl;
  vector_of_vectors =
      found_type _ (Template (codes "vec3")
      (TypeArgument
      (Template (codes "vec3") (TypeArgument (Named (codes "f32")) NoTemplateArguments))
      NoTemplateArguments)) refl (λ r. false≢true r.form.part.0);
  keyword_function = no_program _ refl;
  reserved_parameter = found_program _ reserved_parameter_tree refl
      (λ r. false≢true (sym r.form.functions.0.parameters.0.name.word.free));
  cut = no_program _ refl;
  break_if_first = no_program _ refl;
  no_default =
      found_program _ (of_switch (Case (LastCaseValue (SignedCase false 1)) NoStatements NoCases)) refl
      (λ r. false≢true r.form.functions.0.body.0.2);
  default_twice_in_a_case =
      found_program _
      (of_switch (Case (MoreCaseValues DefaultCase (LastCaseValue DefaultCase)) NoStatements NoCases)) refl
      (λ r. false≢true r.form.functions.0.body.0.2);
  two_defaults =
      found_program _
      (of_switch
      (Case (MoreCaseValues (SignedCase false 1) (LastCaseValue DefaultCase)) NoStatements
      (Case (LastCaseValue DefaultCase) NoStatements NoCases))) refl
      (λ r. false≢true r.form.functions.0.body.0.2);
  two_sizes = found_program _ (of_member (Numbered Size 16 ∷ Numbered Size 16 ∷ [])) refl
      (λ r. false≢true r.form.structs.0.members.0.binding);
  two_alignments = found_program _ (of_member (Numbered Align 8 ∷ Numbered Align 8 ∷ [])) refl
      (λ r. false≢true r.form.structs.0.members.0.binding);
  size_after_alignment = found_program _ (of_member (Numbered Align 16 ∷ Numbered Size 16 ∷ [])) refl
      (λ r. false≢true r.form.structs.0.members.0.binding);
  size_after_binding = found_program _ (of_member (Numbered Location 0 ∷ Numbered Size 16 ∷ [])) refl
      (λ r. false≢true r.form.structs.0.members.0.binding);
  unknown_enable = found_program _ (record no_declarations { enables = codes "f61" ∷ [] }) refl
      (λ r. false≢true r.form.enables.0);
  unknown_builtin_value = found_program _ unknown_builtin_value_tree refl
      (λ r. false≢true r.form.functions.0.parameters.0.attributes.0);
  stage_without_size = found_program _ stage_without_size_tree refl (λ r. false≢true r.form.entry_points.0.stage);
  builtin_size = found_program _ builtin_size_tree refl
      (λ r. false≢true (sym r.form.entry_points.0.attributes.1.0.0.own));
}
