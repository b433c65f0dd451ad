-- What it is for a text to have one reading.
--
-- Throughout, t is a type, e an expression or an entry point, s a statement, f a function, and ts
-- are tokens.
use Rattle.std.specs.Prelude.{◌≡◌, ℕ, List}
use Rattle.wgsl_text.specs.Token.{Token}
use Rattle.wgsl_text.specs.Types.{TypeSpecifier, type_pieces, IsType}
use Rattle.wgsl_text.specs.Expressions.{Expression, expression_pieces, IsExpression}
use Rattle.wgsl_text.specs.Statements.{Statement, statement_pieces, IsStatement}
use Rattle.wgsl_text.specs.Functions.{Function, function_pieces, IsFunction}
use Rattle.wgsl_text.specs.Functions.{EntryPoint, entry_point_pieces, IsEntryPoint}
use Rattle.wgsl_text.specs.Declarations.{Program, program_pieces, IsProgram}
use Rattle.wgsl_text.specs.Text.{text, tokens_in, tokens}

-- the grammar: these are the tokens of this type
pub record ReadsType (ts : List Token) (t : TypeSpecifier) : Type 0 where
  pub form : IsType t
  pub tokens : ts ≡ tokens_in (type_pieces t)

-- the same of an expression
pub record ReadsExpression (ts : List Token) (e : Expression) : Type 0 where
  pub form : IsExpression e
  pub tokens : ts ≡ tokens_in (expression_pieces e)

-- the same of a statement, which may stand at any level
pub record ReadsStatement (ts : List Token) (s : Statement) : Type 0 where
  pub form : IsStatement s
  pub level : ℕ
  pub tokens : ts ≡ tokens_in (statement_pieces s level)

-- the same of a function
pub record ReadsFunction (ts : List Token) (f : Function) : Type 0 where
  pub form : IsFunction f
  pub tokens : ts ≡ tokens_in (function_pieces f)

-- the same of an entry point
pub record ReadsEntryPoint (ts : List Token) (e : EntryPoint) : Type 0 where
  pub form : IsEntryPoint e
  pub tokens : ts ≡ tokens_in (entry_point_pieces e)

-- the same of a program
pub record Reads (ts : List Token) (program : Program) : Type 0 where
  pub form : IsProgram program
  pub tokens : ts ≡ tokens_in (program_pieces program)

-- the texts of trees, with their blanks and line ends
abbrev pub printed_type : TypeSpecifier → List ℕ
printed_type t = text (type_pieces t)

abbrev pub printed_expression : Expression → List ℕ
printed_expression e = text (expression_pieces e)

abbrev pub printed_statement : Statement → ℕ → List ℕ
printed_statement s level = text (statement_pieces s level)

abbrev pub printed_function : Function → List ℕ
printed_function f = text (function_pieces f)

abbrev pub printed_entry_point : EntryPoint → List ℕ
printed_entry_point e = text (entry_point_pieces e)

abbrev pub printed_program : Program → List ℕ
printed_program program = text (program_pieces program)

-- Of all trees the text is read as this one, and as no other.
pub record HasOneReading {A : Type 0} (reads : List Token → A → Type 0) (bytes : List ℕ)
    (tree : A) : Type 0 where
  pub read : reads (tokens bytes) tree
  pub only : (other : A) → reads (tokens bytes) other → other ≡ tree

-- no tokens are read as two trees
abbrev pub AreReadOnce : {A : Type 0} → (List Token → A → Type 0) → Type 0
AreReadOnce {A} reads = (ts : List Token) (a b : A) → reads ts a → reads ts b → a ≡ b
