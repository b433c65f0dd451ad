-- Statements: their trees, their pieces (their tokens, with the blanks, line ends and indentation
-- between them), and which of them the grammar has.
--
-- Throughout, n is the level of indentation or a number, w a word, t a type, e an expression, a and
-- b are two, l is a case value, s a statement, and i an index.
use Rattle.std.specs.Prelude.{ℕ, Bool, List, [], ◌∷◌, true, false, ◌++◌, suc, ◌+◌, ◌<◌, ◌^◌}
use Rattle.std.specs.Prelude.{◌==◌, ⊤, IsTrue}
use Rattle.wgsl_text.specs.Expressions.{Expression, Name, Member, Index, IndexAt, Dereference}
use Rattle.wgsl_text.specs.Expressions.{Arguments, expression_pieces, arguments_pieces, IsCallee}
use Rattle.wgsl_text.specs.Expressions.{may_take, IsExpression, IsArguments}
use Rattle.wgsl_text.specs.Literals.{IsSigned}
use Rattle.wgsl_text.specs.Token.{OpenParen, OpenBrace, CloseBrace, Comma, Semicolon, Colon, Equals}
use Rattle.wgsl_text.specs.Token.{KeywordLet, KeywordIf, KeywordElse, KeywordLoop}
use Rattle.wgsl_text.specs.Token.{KeywordContinuing, KeywordBreak, KeywordContinue, KeywordSwitch}
use Rattle.wgsl_text.specs.Token.{KeywordCase, KeywordDefault, KeywordReturn, KeywordDiscard}
use Rattle.wgsl_text.specs.Token.{NoSuffix, SuffixU, Number, Piece, TokenPiece, Blank, LineEnd}
use Rattle.wgsl_text.specs.Token.{Indent, mark, word}
use Rattle.wgsl_text.specs.Types.{TypeSpecifier, type_pieces, IsType}
use Rattle.wgsl_text.specs.Words.{IsIdentifier}

pub data CaseValue : Type 0 where
  DefaultCase : CaseValue
  SignedCase : Bool → ℕ → CaseValue
  UnsignedCase : ℕ → CaseValue

pub data CaseValues : Type 0 where
  LastCaseValue : CaseValue → CaseValues
  MoreCaseValues : CaseValue → CaseValues → CaseValues

mutual
  pub data Statement : Type 0 where
    Let : List ℕ → Expression → Statement
    TypedLet : List ℕ → TypeSpecifier → Expression → Statement
    Assign : Expression → Expression → Statement
    CallStatement : TypeSpecifier → Arguments → Statement
    Return : Statement
    ReturnValue : Expression → Statement
    Discard Break Continue : Statement
    If : Expression → Statements → OptionalBlock → Statement
    -- the body, and what stands in `continuing`
    Loop : Statements → OptionalBlock → Statement
    LoopBreakIf : Statements → Statements → Expression → Statement
    Switch : Expression → Cases → Statement
    Block : Statements → Statement

  pub data Statements : Type 0 where
    NoStatements : Statements
    Then : Statement → Statements → Statements

  -- the block of an `else` or of a `continuing`, which may be left out, and may be empty
  pub data OptionalBlock : Type 0 where
    NoBlock : OptionalBlock
    SomeBlock : Statements → OptionalBlock

  pub data Cases : Type 0 where
    NoCases : Cases
    Case : CaseValues → Statements → Cases → Cases

-- The pieces of statements.

-- the end of a line that is a statement
abbrev pub line_end : List Piece
line_end = mark Semicolon ∷ LineEnd ∷ []

-- a signed case value has no suffix
abbrev pub case_value_pieces : CaseValue → List Piece
case_value_pieces DefaultCase = mark KeywordDefault ∷ []
case_value_pieces (SignedCase negative n) = TokenPiece (Number negative n NoSuffix) ∷ []
case_value_pieces (UnsignedCase n) = TokenPiece (Number false n SuffixU) ∷ []

-- the case values, and the sign that ends them
abbrev pub case_values_pieces : CaseValues → List Piece
case_values_pieces (LastCaseValue l) = case_value_pieces l ++ (mark Colon ∷ [])
case_values_pieces (MoreCaseValues l more) =
    case_value_pieces l ++ (mark Comma ∷ Blank ∷ case_values_pieces more)

-- a default that stands alone has no `case`
abbrev pub case_pieces : CaseValues → List Piece
case_pieces (LastCaseValue DefaultCase) = mark KeywordDefault ∷ mark Colon ∷ []
case_pieces case_values = mark KeywordCase ∷ Blank ∷ case_values_pieces case_values

-- A statement stands n levels deep.
abbrev mutual
  pub statement_pieces : Statement → ℕ → List Piece
  statement_pieces (Let w e) n =
      Indent n ∷ mark KeywordLet ∷ Blank ∷ word w ∷ Blank ∷ mark Equals ∷ Blank ∷
      (expression_pieces e ++ line_end)
  statement_pieces (TypedLet w t e) n =
      Indent n ∷ mark KeywordLet ∷ Blank ∷ word w ∷ mark Colon ∷ Blank ∷
      (type_pieces t ++
      (Blank ∷ mark Equals ∷ Blank ∷
      (expression_pieces e ++ line_end)))
  statement_pieces (Assign a b) n =
      Indent n ∷
      (expression_pieces a ++
      (Blank ∷ mark Equals ∷ Blank ∷
      (expression_pieces b ++ line_end)))
  statement_pieces (CallStatement t args) n =
      Indent n ∷ (type_pieces t ++ (mark OpenParen ∷ (arguments_pieces args ++ line_end)))
  statement_pieces Return n = Indent n ∷ mark KeywordReturn ∷ line_end
  statement_pieces (ReturnValue e) n =
      Indent n ∷ mark KeywordReturn ∷ Blank ∷ (expression_pieces e ++ line_end)
  statement_pieces Discard n = Indent n ∷ mark KeywordDiscard ∷ line_end
  statement_pieces Break n = Indent n ∷ mark KeywordBreak ∷ line_end
  statement_pieces Continue n = Indent n ∷ mark KeywordContinue ∷ line_end
  statement_pieces (If e accept reject) n =
      Indent n ∷ mark KeywordIf ∷ Blank ∷
      (expression_pieces e ++
      (Blank ∷ mark OpenBrace ∷ LineEnd ∷
      (statements_pieces accept (suc n) ++
      (Indent n ∷ mark CloseBrace ∷ else_pieces reject n))))
  statement_pieces (Loop body rest) n =
      Indent n ∷ mark KeywordLoop ∷ Blank ∷ mark OpenBrace ∷ LineEnd ∷
      (statements_pieces body (suc n) ++
      (continuing_pieces rest (suc n) ++
      (Indent n ∷ mark CloseBrace ∷ LineEnd ∷ [])))
  -- `break if` stands last in `continuing`
  statement_pieces (LoopBreakIf body rest e) n =
      Indent n ∷ mark KeywordLoop ∷ Blank ∷ mark OpenBrace ∷ LineEnd ∷
      (statements_pieces body (suc n) ++
      (Indent (suc n) ∷ mark KeywordContinuing ∷ Blank ∷ mark OpenBrace ∷ LineEnd ∷
      (statements_pieces rest (suc (suc n)) ++
      (Indent (suc (suc n)) ∷ mark KeywordBreak ∷ Blank ∷ mark KeywordIf ∷ Blank ∷
      (expression_pieces e ++
      (mark Semicolon ∷ LineEnd ∷
      Indent (suc n) ∷ mark CloseBrace ∷ LineEnd ∷
      Indent n ∷ mark CloseBrace ∷ LineEnd ∷ []))))))
  statement_pieces (Switch e cases) n =
      Indent n ∷ mark KeywordSwitch ∷ Blank ∷
      (expression_pieces e ++
      (Blank ∷ mark OpenBrace ∷ LineEnd ∷
      (cases_pieces cases (suc n) ++
      (Indent n ∷ mark CloseBrace ∷ LineEnd ∷ []))))
  statement_pieces (Block body) n =
      Indent n ∷ mark OpenBrace ∷ LineEnd ∷
      (statements_pieces body (suc n) ++
      (Indent n ∷ mark CloseBrace ∷ LineEnd ∷ []))

  pub statements_pieces : Statements → ℕ → List Piece
  statements_pieces NoStatements n = []
  statements_pieces (Then s more) n = statement_pieces s n ++ statements_pieces more n

  pub else_pieces : OptionalBlock → ℕ → List Piece
  else_pieces NoBlock n = LineEnd ∷ []
  else_pieces (SomeBlock body) n =
      Blank ∷ mark KeywordElse ∷ Blank ∷ mark OpenBrace ∷ LineEnd ∷
      (statements_pieces body (suc n) ++
      (Indent n ∷ mark CloseBrace ∷ LineEnd ∷ []))

  pub continuing_pieces : OptionalBlock → ℕ → List Piece
  continuing_pieces NoBlock n = []
  continuing_pieces (SomeBlock body) n =
      Indent n ∷ mark KeywordContinuing ∷ Blank ∷ mark OpenBrace ∷ LineEnd ∷
      (statements_pieces body (suc n) ++
      (Indent n ∷ mark CloseBrace ∷ LineEnd ∷ []))

  pub cases_pieces : Cases → ℕ → List Piece
  cases_pieces NoCases n = []
  cases_pieces (Case case_values body more) n =
      Indent n ∷
      (case_pieces case_values ++
      (Blank ∷ mark OpenBrace ∷ LineEnd ∷
      (statements_pieces body (suc n) ++
      (Indent n ∷ mark CloseBrace ∷ LineEnd ∷ cases_pieces more n))))

-- Which statements the grammar has.

-- what may stand on the left of an assignment
abbrev pub is_reference : Expression → Bool
is_reference (Name w) = true
is_reference (Dereference e) = true
is_reference (Member e w) = is_reference e
is_reference (Index e i) = is_reference e
is_reference (IndexAt e n) = is_reference e
is_reference _ = false

abbrev pub IsCaseValue : CaseValue → Type 0
IsCaseValue DefaultCase = ⊤
IsCaseValue (SignedCase negative n) = IsSigned negative n (2 ^ 31)
IsCaseValue (UnsignedCase n) = n < 2 ^ 32

abbrev pub AreCaseValues : CaseValues → Type 0
AreCaseValues (LastCaseValue l) = IsCaseValue l
AreCaseValues (MoreCaseValues l more) = IsCaseValue l × AreCaseValues more

-- how many of the case values are `default`
abbrev pub defaults_at : CaseValue → ℕ
defaults_at DefaultCase = 1
defaults_at (SignedCase negative n) = 0
defaults_at (UnsignedCase n) = 0

abbrev pub defaults_among : CaseValues → ℕ
defaults_among (LastCaseValue l) = defaults_at l
defaults_among (MoreCaseValues l more) = defaults_at l + defaults_among more

abbrev pub default_count : Cases → ℕ
default_count NoCases = 0
default_count (Case case_values body more) = defaults_among case_values + default_count more

-- A switch has exactly one default among the values of its cases.
abbrev mutual
  pub IsStatement : Statement → Type 0
  IsStatement (Let w e) = IsIdentifier w × IsExpression e
  IsStatement (TypedLet w t e) = IsIdentifier w × IsType t × IsExpression e
  IsStatement (Assign a b) = IsExpression a × IsExpression b × IsTrue (is_reference a)
  IsStatement (CallStatement t args) = IsCallee t × IsArguments args × IsTrue (may_take t args)
  IsStatement (ReturnValue e) = IsExpression e
  IsStatement (If e accept reject) = IsExpression e × IsStatements accept × IsOptionalBlock reject
  IsStatement (Loop body rest) = IsStatements body × IsOptionalBlock rest
  IsStatement (LoopBreakIf body rest e) = IsStatements body × IsStatements rest × IsExpression e
  IsStatement (Switch e cases) = IsExpression e × IsCases cases × IsTrue (default_count cases == 1)
  IsStatement (Block body) = IsStatements body
  IsStatement _ = ⊤

  pub IsStatements : Statements → Type 0
  IsStatements NoStatements = ⊤
  IsStatements (Then s more) = IsStatement s × IsStatements more

  pub IsOptionalBlock : OptionalBlock → Type 0
  IsOptionalBlock NoBlock = ⊤
  IsOptionalBlock (SomeBlock body) = IsStatements body

  pub IsCases : Cases → Type 0
  IsCases NoCases = ⊤
  IsCases (Case case_values body more) = AreCaseValues case_values × IsStatements body × IsCases more
