-- Functions and entry points with their parameters, results and locals: their trees, their pieces,
-- and which of them the grammar has.
--
-- Throughout, t is a type, e an expression or an entry point, p a parameter, l a local, f a
-- function, and x an item of a list.
use Rattle.std.specs.Prelude.{ℕ, List, [], ◌∷◌, Option, ◌++◌, None, Some, ⊤, IsTrue}
use Rattle.wgsl_text.specs.Attributes.{Attribute, attributes_pieces, IsAttributes, is_io_binding}
use Rattle.wgsl_text.specs.Attributes.{is_stage}
use Rattle.wgsl_text.specs.Expressions.{Expression, expression_pieces, IsExpression}
use Rattle.wgsl_text.specs.Statements.{Statements, line_end, statements_pieces, IsStatements}
use Rattle.wgsl_text.specs.Token.{OpenParen, CloseParen, OpenBrace, CloseBrace, Comma, Colon}
use Rattle.wgsl_text.specs.Token.{Equals, GreaterThan, Minus, KeywordVar, KeywordFn, Piece, Blank}
use Rattle.wgsl_text.specs.Token.{LineEnd, Indent, mark, word}
use Rattle.wgsl_text.specs.Types.{TypeSpecifier, type_pieces, IsType}
use Rattle.wgsl_text.specs.Words.{IsIdentifier}

pub record Parameter : Type 0 where
  pub attributes : List Attribute
  pub name : List ℕ
  pub type : TypeSpecifier

pub data Result : Type 0 where
  NoResult : Result
  ResultOf : List Attribute → TypeSpecifier → Result

pub record Local : Type 0 where
  pub name : List ℕ
  pub type : TypeSpecifier
  pub value : Option Expression

pub record Function : Type 0 where
  pub name : List ℕ
  pub parameters : List Parameter
  pub result : Result
  pub locals : List Local
  pub body : Statements

pub record EntryPoint : Type 0 where
  pub stage : List Attribute
  pub function : Function

-- The pieces of functions.

-- the value of a local, a global or an override, and the end of its line
abbrev pub value_pieces : Option Expression → List Piece
value_pieces None = line_end
value_pieces (Some e) = Blank ∷ mark Equals ∷ Blank ∷ (expression_pieces e ++ line_end)

abbrev pub parameter_pieces : Parameter → List Piece
parameter_pieces p =
    attributes_pieces p.attributes ++ (word p.name ∷ mark Colon ∷ Blank ∷ type_pieces p.type)

-- the parameters, and the parenthesis that closes them
abbrev pub more_parameters_pieces : List Parameter → List Piece
more_parameters_pieces [] = mark CloseParen ∷ []
more_parameters_pieces (p ∷ more) =
    mark Comma ∷ Blank ∷ (parameter_pieces p ++ more_parameters_pieces more)

abbrev pub parameters_pieces : List Parameter → List Piece
parameters_pieces [] = mark CloseParen ∷ []
parameters_pieces (p ∷ more) = parameter_pieces p ++ more_parameters_pieces more

-- `->` is two tokens, since `>` is always a token by itself
abbrev pub result_pieces : Result → List Piece
result_pieces NoResult = []
result_pieces (ResultOf attributes t) =
    Blank ∷ mark Minus ∷ mark GreaterThan ∷ Blank ∷ (attributes_pieces attributes ++ type_pieces t)

abbrev pub locals_pieces : List Local → List Piece
locals_pieces [] = []
locals_pieces (l ∷ more) =
    Indent 1 ∷ mark KeywordVar ∷ Blank ∷ word l.name ∷ mark Colon ∷ Blank ∷
    (type_pieces l.type ++
    (value_pieces l.value ++
    locals_pieces more))

-- an empty line after the items of a group, if there are any
abbrev pub group_end : {A : Type 0} → List A → List Piece
group_end [] = []
group_end (x ∷ more) = LineEnd ∷ []

abbrev pub function_pieces : Function → List Piece
function_pieces f =
    mark KeywordFn ∷ Blank ∷ word f.name ∷ mark OpenParen ∷
    (parameters_pieces f.parameters ++
    (result_pieces f.result ++
    (Blank ∷ mark OpenBrace ∷ LineEnd ∷
    (locals_pieces f.locals ++
    (group_end f.locals ++
    (statements_pieces f.body 1 ++
    (mark CloseBrace ∷ LineEnd ∷ [])))))))

-- an empty line after each
abbrev pub functions_pieces : List Function → List Piece
functions_pieces [] = []
functions_pieces (f ∷ more) = function_pieces f ++ (LineEnd ∷ functions_pieces more)

abbrev pub entry_point_pieces : EntryPoint → List Piece
entry_point_pieces e = attributes_pieces e.stage ++ (LineEnd ∷ function_pieces e.function)

-- an empty line between two, and none after the last
abbrev pub more_entry_points_pieces : List EntryPoint → List Piece
more_entry_points_pieces [] = []
more_entry_points_pieces (e ∷ more) =
    LineEnd ∷ (entry_point_pieces e ++ more_entry_points_pieces more)

abbrev pub entry_points_pieces : List EntryPoint → List Piece
entry_points_pieces [] = []
entry_points_pieces (e ∷ more) = entry_point_pieces e ++ more_entry_points_pieces more

-- Which functions the grammar has.

abbrev pub IsValue : Option Expression → Type 0
IsValue None = ⊤
IsValue (Some e) = IsExpression e

pub record IsParameter (p : Parameter) : Type 0 where
  pub attributes : IsAttributes p.attributes
  pub binding : IsTrue (is_io_binding p.attributes)
  pub name : IsIdentifier p.name
  pub type : IsType p.type

abbrev pub IsResult : Result → Type 0
IsResult NoResult = ⊤
IsResult (ResultOf attributes t) =
    IsAttributes attributes × IsTrue (is_io_binding attributes) × IsType t

pub record IsLocal (l : Local) : Type 0 where
  pub name : IsIdentifier l.name
  pub type : IsType l.type
  pub value : IsValue l.value

-- each of a list
abbrev pub Each : {A : Type 0} → (A → Type 0) → List A → Type 0
Each P [] = ⊤
Each P (x ∷ more) = P x × Each P more

pub record IsFunction (f : Function) : Type 0 where
  pub name : IsIdentifier f.name
  pub parameters : Each IsParameter f.parameters
  pub result : IsResult f.result
  pub locals : Each IsLocal f.locals
  pub body : IsStatements f.body

pub record IsEntryPoint (e : EntryPoint) : Type 0 where
  pub attributes : IsAttributes e.stage
  pub stage : IsTrue (is_stage e.stage)
  pub function : IsFunction e.function
