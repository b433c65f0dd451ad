-- What is built of words, types and expressions is of the grammar.
--
-- Throughout, w is a word, t a type or a callee, n a number, e an expression (es are several), and
-- s the name of a struct.
use Rattle.std.specs.Prelude.{◌≡◌, ℕ, ◌<◌, Bool, List, ◌∷◌, codes, IsTrue}
use Rattle.wgsl_text.specs.Literals.{IsPlainNumber}
use Rattle.wgsl_text.specs.Types.{TypeSpecifier, Named, Template, NoTemplateArguments, TypeArgument}
use Rattle.wgsl_text.specs.Types.{SizeArgument}
use Rattle.wgsl_text.specs.Types.{plain_type_words, TakesScalar, TakesElements, rule_among}
use Rattle.wgsl_text.specs.Types.{type_templates, IsType}
use Rattle.wgsl_text.specs.Expressions.{Expression, Call, NumberArgument, operands}
use Rattle.wgsl_text.specs.Expressions.{operands_with_level, IsCallee, IsExpression}
use Rattle.wgsl_text.specs.Statements.{CallStatement, IsStatement}
use Rattle.wgsl_text.specs.Functions.{Each}
use Rattle.wgsl_text.specs.Tables.{scalar_words, address_space_words, gather_words, level_words}
use Rattle.wgsl_text.specs.Tables.{type_taking_words}
use Rattle.wgsl_text.specs.Words.{IsIdentifier, stands_in, is_builtin}

-- types of a word alone, and of a word with parts
pub record WordsAreTypes : Type 0 where
  pub plain : (w : List ℕ) → IsTrue (stands_in plain_type_words w) → IsType (Named w)
  pub struct_name : (w : List ℕ) → IsIdentifier w → IsType (Named w)
  -- a vector, a matrix or an atomic
  pub of_scalar : (w s : List ℕ) → rule_among type_templates w ≡ TakesScalar →
      IsTrue (stands_in scalar_words s) →
      IsType (Template w (TypeArgument (Named s) NoTemplateArguments))
  -- an array of as many elements as are bound, and of n
  pub dynamic_array : (w : List ℕ) (t : TypeSpecifier) → rule_among type_templates w ≡
      TakesElements →
      IsType t → IsType (Template w (TypeArgument t NoTemplateArguments))
  pub sized_array : (w : List ℕ) (t : TypeSpecifier) (n : ℕ) →
      rule_among type_templates w ≡ TakesElements → IsType t → IsPlainNumber n →
      IsType (Template w (TypeArgument t (SizeArgument n NoTemplateArguments)))
  pub pointer : (space : List ℕ) (t : TypeSpecifier) →
      IsTrue (stands_in address_space_words space) → IsType t →
      IsType (Template (codes "ptr")
      (TypeArgument (Named space) (TypeArgument t NoTemplateArguments)))

-- calls of what may be called, a word that is not reserved or a type, with expressions as operands
pub record CalledWordsAreExpressions : Type 0 where
  pub builtin : (w : List ℕ) → IsTrue (is_builtin w) → IsCallee (Named w)
  pub type : (t : TypeSpecifier) → IsType t → IsCallee t
  -- `bitcast` and the like, with a type
  pub taking_type : (w : List ℕ) (t : TypeSpecifier) → IsTrue (stands_in type_taking_words w) →
      IsType t → IsCallee (Template w (TypeArgument t NoTemplateArguments))
  pub expression : (t : TypeSpecifier) (es : List Expression) → IsCallee t →
      Each IsExpression es → IsExpression (Call t (operands es))
  pub statement : (t : TypeSpecifier) (es : List Expression) → IsCallee t →
      Each IsExpression es → IsStatement (CallStatement t (operands es))
  -- a gather, with the number of its component first
  pub gather : (w : List ℕ) (n : ℕ) (e : Expression) (es : List Expression) →
      IsTrue (stands_in gather_words w) → n < 4 → Each IsExpression (e ∷ es) →
      IsExpression (Call (Named w) (NumberArgument n (operands (e ∷ es))))
  -- a sampling at level zero, which stands after some of its operands
  pub level : (whole : Bool) (w : List ℕ) (e : Expression) (es more : List Expression) →
      IsTrue (stands_in level_words w) → Each IsExpression (e ∷ es) → Each IsExpression more →
      IsExpression (Call (Named w) (operands_with_level whole (e ∷ es) more))
