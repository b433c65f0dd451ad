-- Expressions: their trees, their pieces (the tokens of a tree, with the blanks between them), and
-- which of them the grammar has.
--
-- Throughout, w is a word, n a number, t a type, e an expression, a and b are two, i is an index,
-- and l a literal.
use Rattle.std.specs.Prelude.{ℕ, Bool, List, [], ◌∷◌, true, false, ◌||◌, ◌++◌, ◌&&◌, ⊤, nat_lt}
use Rattle.std.specs.Prelude.{IsTrue}
use Rattle.wgsl_text.specs.Literals.{Literal, literal_pieces, IsPlainNumber, IsLiteral}
use Rattle.wgsl_text.specs.Token.{Mark, OpenParen, CloseParen, OpenBracket, CloseBracket, Comma}
use Rattle.wgsl_text.specs.Token.{Dot, Equals, LessThan, GreaterThan, Plus, Minus, Star, Slash}
use Rattle.wgsl_text.specs.Token.{Percent, Ampersand, Bar, Caret, Not, Tilde, EqualsEquals}
use Rattle.wgsl_text.specs.Token.{NotEquals, LessEquals, AndAnd, BarBar, LessLess, ZeroPointZero}
use Rattle.wgsl_text.specs.Token.{Piece, TokenPiece, Blank, mark, word, plain}
use Rattle.wgsl_text.specs.Types.{TypeSpecifier, Named, Template, type_pieces, TemplateRule}
use Rattle.wgsl_text.specs.Types.{TakesType}
use Rattle.wgsl_text.specs.Types.{rule_among, type_templates, fits, AreTemplateArguments}
use Rattle.wgsl_text.specs.Words.{stands_in, IsWord, IsIdentifier}
use Rattle.wgsl_text.specs.Tables.{type_taking_words, gather_words, level_words}

pub data BinaryOperator : Type 0 where
  Add Subtract Multiply Divide Modulo : BinaryOperator
  Equal NotEqual Less LessEqual Greater GreaterEqual : BinaryOperator
  And ExclusiveOr InclusiveOr LogicalAnd LogicalOr ShiftLeft ShiftRight : BinaryOperator

pub data UnaryOperator : Type 0 where
  Negate LogicalNot BitwiseNot : UnaryOperator

mutual
  pub data Expression : Type 0 where
    Constant : Literal → Expression
    Name : List ℕ → Expression
    Binary : Expression → BinaryOperator → Expression → Expression
    Unary : UnaryOperator → Expression → Expression
    -- a word or type with its operands: a call, a constructor or a built-in function
    Call : TypeSpecifier → Arguments → Expression
    -- a member, a component or a swizzle
    Member : Expression → List ℕ → Expression
    Index : Expression → Expression → Expression
    IndexAt : Expression → ℕ → Expression
    AddressOf : Expression → Expression
    Dereference : Expression → Expression

  pub data Arguments : Type 0 where
    NoArguments : Arguments
    Argument : Expression → Arguments → Arguments
    -- the component of a gather
    NumberArgument : ℕ → Arguments → Arguments
    -- level zero: `0.0`, or the whole number `0`
    ZeroArgument : (whole : Bool) → Arguments → Arguments

-- expressions as the operands of a call
abbrev pub operands : List Expression → Arguments
operands [] = NoArguments
operands (e ∷ more) = Argument e (operands more)

-- the same, with level zero between the first and the last of them
abbrev pub operands_with_level : (whole : Bool) → List Expression → List Expression → Arguments
operands_with_level whole [] more = ZeroArgument whole (operands more)
operands_with_level whole (e ∷ first) more = Argument e (operands_with_level whole first more)

-- The pieces of expressions.

-- `>=` and `>>` are two tokens each, since `>` is always a token by itself
abbrev pub binary_pieces : BinaryOperator → List Piece
binary_pieces Add = mark Plus ∷ []
binary_pieces Subtract = mark Minus ∷ []
binary_pieces Multiply = mark Star ∷ []
binary_pieces Divide = mark Slash ∷ []
binary_pieces Modulo = mark Percent ∷ []
binary_pieces Equal = mark EqualsEquals ∷ []
binary_pieces NotEqual = mark NotEquals ∷ []
binary_pieces Less = mark LessThan ∷ []
binary_pieces LessEqual = mark LessEquals ∷ []
binary_pieces Greater = mark GreaterThan ∷ []
binary_pieces GreaterEqual = mark GreaterThan ∷ mark Equals ∷ []
binary_pieces And = mark Ampersand ∷ []
binary_pieces ExclusiveOr = mark Caret ∷ []
binary_pieces InclusiveOr = mark Bar ∷ []
binary_pieces LogicalAnd = mark AndAnd ∷ []
binary_pieces LogicalOr = mark BarBar ∷ []
binary_pieces ShiftLeft = mark LessLess ∷ []
binary_pieces ShiftRight = mark GreaterThan ∷ mark GreaterThan ∷ []

abbrev pub unary_mark : UnaryOperator → Mark
unary_mark Negate = Minus
unary_mark LogicalNot = Not
unary_mark BitwiseNot = Tilde

-- a unary expression stands in parentheses of its own where a member or an index follows
abbrev pub base_pieces : Expression → List Piece → List Piece
base_pieces (Unary op e) pieces = mark OpenParen ∷ (pieces ++ (mark CloseParen ∷ []))
base_pieces _ pieces = pieces

-- level zero, with a point or whole
abbrev pub zero_piece : (whole : Bool) → Piece
zero_piece false = TokenPiece ZeroPointZero
zero_piece true = plain 0

-- A list of arguments ends with the sign that closes it.
abbrev mutual
  pub expression_pieces : Expression → List Piece
  expression_pieces (Constant l) = literal_pieces l
  expression_pieces (Name w) = word w ∷ []
  expression_pieces (Binary a op b) =
      mark OpenParen ∷
      (expression_pieces a ++
      (Blank ∷
      (binary_pieces op ++
      (Blank ∷
      (expression_pieces b ++
      (mark CloseParen ∷ []))))))
  expression_pieces (Unary op e) =
      mark (unary_mark op) ∷ mark OpenParen ∷ (expression_pieces e ++ (mark CloseParen ∷ []))
  expression_pieces (Call t args) = type_pieces t ++ (mark OpenParen ∷ arguments_pieces args)
  expression_pieces (Member e w) = base_pieces e (expression_pieces e) ++ (mark Dot ∷ word w ∷ [])
  expression_pieces (Index e i) =
      base_pieces e (expression_pieces e) ++
      (mark OpenBracket ∷
      (expression_pieces i ++
      (mark CloseBracket ∷ [])))
  expression_pieces (IndexAt e n) =
      base_pieces e (expression_pieces e) ++ (mark OpenBracket ∷ plain n ∷ mark CloseBracket ∷ [])
  expression_pieces (AddressOf e) =
      mark OpenParen ∷ mark Ampersand ∷ (expression_pieces e ++ (mark CloseParen ∷ []))
  expression_pieces (Dereference e) =
      mark OpenParen ∷ mark Star ∷ (expression_pieces e ++ (mark CloseParen ∷ []))

  pub arguments_pieces : Arguments → List Piece
  arguments_pieces NoArguments = mark CloseParen ∷ []
  arguments_pieces (Argument e more) = expression_pieces e ++ more_arguments_pieces more
  arguments_pieces (NumberArgument n more) = plain n ∷ more_arguments_pieces more
  arguments_pieces (ZeroArgument whole more) = zero_piece whole ∷ more_arguments_pieces more

  pub more_arguments_pieces : Arguments → List Piece
  more_arguments_pieces NoArguments = mark CloseParen ∷ []
  more_arguments_pieces (Argument e more) =
      mark Comma ∷ Blank ∷ (expression_pieces e ++ more_arguments_pieces more)
  more_arguments_pieces (NumberArgument n more) =
      mark Comma ∷ Blank ∷ plain n ∷ more_arguments_pieces more
  more_arguments_pieces (ZeroArgument whole more) =
      mark Comma ∷ Blank ∷ zero_piece whole ∷ more_arguments_pieces more

-- Which expressions the grammar has.

-- the words of calls with parts: these, and types
abbrev pub call_templates : List (List (List ℕ) × TemplateRule)
call_templates = (type_taking_words, TakesType) ∷ type_templates

-- what stands before the parenthesis of a call: a function's name, a word outside the reserved
-- ones, or a type
abbrev pub IsCallee : TypeSpecifier → Type 0
IsCallee (Named w) = IsWord w
IsCallee (Template w parts) = IsTrue (fits (rule_among call_templates w) parts) ×
    AreTemplateArguments parts

abbrev pub are_expressions : Arguments → Bool
are_expressions NoArguments = true
are_expressions (Argument e more) = are_expressions more
are_expressions (NumberArgument n more) = false
are_expressions (ZeroArgument whole more) = false

-- expressions, and among them one level zero
abbrev pub have_a_zero : Arguments → Bool
have_a_zero (Argument e more) = have_a_zero more
have_a_zero (ZeroArgument whole more) = are_expressions more
have_a_zero _ = false

-- the same, and an expression is the first
abbrev pub have_a_level : Arguments → Bool
have_a_level (Argument e more) = have_a_zero more
have_a_level _ = false

-- A plain number in front of others is the component of a gather, and `0.0`, or `0` after others,
-- the level of a sampling, and nothing else.
abbrev pub may_take : TypeSpecifier → Arguments → Bool
may_take (Named w) (NumberArgument n more) =
    stands_in gather_words w && (nat_lt n 4 && are_expressions more)
may_take (Named w) arguments =
    are_expressions arguments || (stands_in level_words w && have_a_level arguments)
may_take (Template w parts) arguments = are_expressions arguments

abbrev pub IsSome : Arguments → Type 0
IsSome NoArguments = ⊥
IsSome _ = ⊤

abbrev mutual
  pub IsExpression : Expression → Type 0
  IsExpression (Constant l) = IsLiteral l
  IsExpression (Name w) = IsIdentifier w
  IsExpression (Binary a op b) = IsExpression a × IsExpression b
  IsExpression (Unary op e) = IsExpression e
  IsExpression (Call t args) = IsCallee t × IsArguments args × IsTrue (may_take t args)
  IsExpression (Member e w) = IsExpression e × IsWord w
  IsExpression (Index e i) = IsExpression e × IsExpression i
  IsExpression (IndexAt e n) = IsExpression e × IsPlainNumber n
  IsExpression (AddressOf e) = IsExpression e
  IsExpression (Dereference e) = IsExpression e

  -- A plain number is never the only argument: alone in parentheses it makes a literal.
  pub IsArguments : Arguments → Type 0
  IsArguments NoArguments = ⊤
  IsArguments (Argument e more) = IsExpression e × IsArguments more
  IsArguments (NumberArgument n more) = IsPlainNumber n × IsSome more × IsArguments more
  IsArguments (ZeroArgument whole more) = IsArguments more
