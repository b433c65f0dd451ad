-- What is built of words, types and expressions is of the grammar.
use Rattle.std.proofs.Common.{◌≡◌, ℕ, ◌<◌, Bool, true, false, not, ◌&&◌, List, [], ◌∷◌, ◌++◌, refl}
use Rattle.std.proofs.Common.{sym, ap, ◌∙◌, arith, ◌||◌, codes, nat_lt}
use Rattle.std.specs.Str.{bytes_eq}
use Rattle.std.proofs.lemmas.Bool.{and_from, or_right, lt-ltb}
use Rattle.wgsl_text.specs.Building.{WordsAreTypes, CalledWordsAreExpressions}
use Rattle.wgsl_text.specs.Expressions.{Expression, Call, NumberArgument, operands}
use Rattle.wgsl_text.specs.Expressions.{operands_with_level, IsCallee, are_expressions, have_a_zero}
use Rattle.wgsl_text.specs.Expressions.{may_take, IsExpression, IsArguments}
use Rattle.wgsl_text.specs.Functions.{Each}
use Rattle.wgsl_text.specs.Literals.{IsPlainNumber}
use Rattle.wgsl_text.specs.Statements.{CallStatement, IsStatement}
use Rattle.wgsl_text.specs.Types.{TypeSpecifier, Named, Template, NoTemplateArguments, TypeArgument}
use Rattle.wgsl_text.specs.Types.{SizeArgument, plain_type_words, is_type, TakesScalar}
use Rattle.wgsl_text.specs.Types.{TakesElements, rule_among, type_templates, IsType}
use Rattle.wgsl_text.specs.Tables.{scalar_words, depth_image_words, sampler_words, ray_words}
use Rattle.wgsl_text.specs.Tables.{address_space_words, format_words, gather_words, level_words}
use Rattle.wgsl_text.specs.Tables.{type_taking_words}
use Rattle.wgsl_text.specs.Words.{stands_in, is_builtin, IsWord, IsIdentifier, is_reserved}
use Rattle.wgsl_text.proofs.Expressions.{type_called}
use Rattle.wgsl_text.proofs.Words.{all_words, is_free, table_word, address_spaces_free}
use Rattle.wgsl_text.specs.Keywords.{builtin_words}

pub scalars_free : all_words is_free scalar_words ≡ true
unfolding is_reserved
scalars_free = refl

pub formats_free : all_words is_free format_words ≡ true
unfolding is_reserved
formats_free = refl

plain_free : all_words is_free plain_type_words ≡ true
unfolding is_reserved
plain_free = refl

pub in_front : (ws vs : List (List ℕ)) (w : List ℕ) → stands_in ws w ≡ true → stands_in (ws ++ vs) w ≡ true
in_front [] vs w e = absurd (cc)
in_front (v ∷ ws) vs w e = by (bytes_eq v w) refl (in_front ws vs w)
  where
    by : (b : Bool) → bytes_eq v w ≡ b → (stands_in ws w ≡ true → stands_in (ws ++ vs) w ≡ true) →
        (bytes_eq v w || stands_in (ws ++ vs) w) ≡ true
    by true same more = ap (λ b. b || stands_in (ws ++ vs) w) same
    by false same more = ap (λ b. b || stands_in (ws ++ vs) w) same
        ∙ more (sym (ap (λ b. b || stands_in ws w) same) ∙ e)

-- a word of the types of one word
pub plain_is : (w : List ℕ) → stands_in plain_type_words w ≡ true → IsType (Named w)
plain_is w plain = record {
  part = table_word plain_type_words w plain_free plain;
  whole = ap (λ b. b || not (is_builtin w)) plain;
}

pub scalar_word_is : (w : List ℕ) → stands_in scalar_words w ≡ true → IsType (Named w)
scalar_word_is w scalar =
    plain_is w (in_front scalar_words (sampler_words ++ (ray_words ++ depth_image_words)) w scalar)

-- an identifier, as a struct's name
pub name_is : (w : List ℕ) → IsIdentifier w → IsType (Named w)
name_is w is = record { part = is.word; whole = by (stands_in plain_type_words w) (is_builtin w) is.own }
  where
    by : (a b : Bool) → b ≡ false → (a || not b) ≡ true
    by true b e = refl
    by false b e = ap not e

-- a word with a scalar
pub of_scalar_word_is : (word w : List ℕ) → rule_among type_templates word ≡ TakesScalar →
    stands_in scalar_words w ≡ true → IsType (Template word (TypeArgument (Named w) NoTemplateArguments))
of_scalar_word_is word w rule scalar =
    record { part = (rw rule scalar, (table_word scalar_words w scalars_free scalar, tt)); whole = refl }

-- an array of as many as are bound, and of a number
pub dynamic_is : (word : List ℕ) (t : TypeSpecifier) → rule_among type_templates word ≡ TakesElements →
    IsType t → IsType (Template word (TypeArgument t NoTemplateArguments))
dynamic_is word t rule is = record { part = (rw rule is.whole, (is.part, tt)); whole = refl }

pub sized_is : (word : List ℕ) (t : TypeSpecifier) (n : ℕ) →
    rule_among type_templates word ≡ TakesElements → IsType t → IsPlainNumber n →
    IsType (Template word (TypeArgument t (SizeArgument n NoTemplateArguments)))
sized_is word t n rule is number = record { part = (rw rule is.whole, (is.part, (number, tt))); whole = refl }

pub pointer_to_is : (a : List ℕ) (t : TypeSpecifier) → stands_in address_space_words a ≡ true → IsType t →
    IsType (Template (codes "ptr") (TypeArgument (Named a) (TypeArgument t NoTemplateArguments)))
pointer_to_is a t known is =
    record {
      part = (
        and_from (stands_in address_space_words a) (is_type t) known is.whole,
        (table_word address_space_words a address_spaces_free known, (is.part, tt)),
      );
      whole = refl;
    }

pub words_are_types : WordsAreTypes
words_are_types = record {
  plain = plain_is;
  struct_name = name_is;
  of_scalar = of_scalar_word_is;
  dynamic_array = dynamic_is;
  sized_array = sized_is;
  pointer = pointer_to_is;
}

operands_are : (es : List Expression) → Each IsExpression es → IsArguments (operands es)
operands_are [] is = tt
operands_are (e ∷ es) is = (is.0, operands_are es is.1)

operands_alone : (es : List Expression) → are_expressions (operands es) ≡ true
operands_alone [] = refl
operands_alone (e ∷ es) = operands_alone es

takes : (t : TypeSpecifier) (es : List Expression) → may_take t (operands es) ≡ true
takes (Named w) [] = refl
takes (Named w) (e ∷ es) = ap (λ b. b || (stands_in level_words w && have_a_zero (operands es))) (operands_alone es)
takes (Template w parts) es = operands_alone es

call_is : (t : TypeSpecifier) (es : List Expression) → IsCallee t → Each IsExpression es →
    IsExpression (Call t (operands es))
call_is t es callee all = (callee, operands_are es all, takes t es)

call_statement_is : (t : TypeSpecifier) (es : List Expression) → IsCallee t → Each IsExpression es →
    IsStatement (CallStatement t (operands es))
call_statement_is t es callee all = (callee, operands_are es all, takes t es)

-- built-in words

builtins_free : all_words is_free builtin_words ≡ true
unfolding is_reserved builtin_words
builtins_free = refl

builtin_is_word : (w : List ℕ) → is_builtin w ≡ true → IsWord w
unfolding is_builtin
builtin_is_word w is = table_word builtin_words w builtins_free is

-- images

gathers_free : all_words is_free gather_words ≡ true
unfolding is_reserved
gathers_free = refl

levels_free : all_words is_free level_words ≡ true
unfolding is_reserved
levels_free = refl

gather_is : (w : List ℕ) (n : ℕ) (e : Expression) (es : List Expression) →
    stands_in gather_words w ≡ true → n < 4 → Each IsExpression (e ∷ es) →
    IsExpression (Call (Named w) (NumberArgument n (operands (e ∷ es))))
gather_is w n e es gathers low all =
    let plain : IsPlainNumber n = omega (arith, low) in (
      table_word gather_words w gathers_free gathers,
      (plain, tt, operands_are (e ∷ es) all),
      and_from (stands_in gather_words w) (nat_lt n 4 && are_expressions (operands es)) gathers
          (and_from (nat_lt n 4) (are_expressions (operands es)) (lt-ltb n 4 low) (operands_alone es)),
    )

with_level_are : (whole : Bool) (first more : List Expression) → Each IsExpression first →
    Each IsExpression more → IsArguments (operands_with_level whole first more)
with_level_are whole [] more all last = operands_are more last
with_level_are whole (e ∷ first) more all last =
    (all.0, with_level_are whole first more all.1 last)

has_level : (whole : Bool) (first more : List Expression) →
    have_a_zero (operands_with_level whole first more) ≡ true
has_level whole [] more = operands_alone more
has_level whole (e ∷ first) more = has_level whole first more

level_is : (whole : Bool) (w : List ℕ) (e : Expression) (es more : List Expression) →
    stands_in level_words w ≡ true → Each IsExpression (e ∷ es) → Each IsExpression more →
    IsExpression (Call (Named w) (operands_with_level whole (e ∷ es) more))
level_is whole w e es more levels all last = (
  table_word level_words w levels_free levels,
  with_level_are whole (e ∷ es) more all last,
  or_right (are_expressions (operands_with_level whole es more))
      (stands_in level_words w && have_a_zero (operands_with_level whole es more))
      (and_from (stands_in level_words w) (have_a_zero (operands_with_level whole es more)) levels
      (has_level whole es more)),
)

-- a word that takes a type

taking_type_is : (w : List ℕ) (t : TypeSpecifier) → stands_in type_taking_words w ≡ true → IsType t →
    IsCallee (Template w (TypeArgument t NoTemplateArguments))
taking_type_is w t taking is = (rw taking is.whole, (is.part, tt))

pub called_words : CalledWordsAreExpressions
called_words = record {
  builtin = builtin_is_word;
  type = type_called;
  taking_type = taking_type_is;
  expression = call_is;
  statement = call_statement_is;
  gather = gather_is;
  level = level_is;
}
