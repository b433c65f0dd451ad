-- The lines of a listing, of which a screen shows some.
--
-- Throughout, m is a module, f a function, s a statement, b a block or the rest of one, cs are the
-- further cases of a switch, and number is that of the next statement.
use Rattle.std.specs.Prelude.{ℕ, zero, suc, List, [], ◌∷◌, ◌++◌, length, slice_get}
use Rattle.std.specs.Hash.DefaultHasher.{wrapping_add}
use Rattle.std.specs.Option.{option_map_or}
use Rattle.naga_ir.specs.declared.module.Function.{Function}
use Rattle.naga_ir.specs.declared.module.Module.{Module}
use Rattle.naga_ir.specs.StatementTree.{StatementTree, simple, block, branch, switch, loop}
use Rattle.naga_ir.specs.StatementTree.{BlockTree, no_statements, statement, CaseTrees, no_cases}
use Rattle.naga_ir.specs.StatementTree.{case}
use Rattle.naga_listing.specs.declared.positions.Line.{Line}
use Rattle.naga_listing.specs.declared.positions.Listed.{Listed}
use Rattle.naga_listing.specs.declared.positions.Listed.TheVariants as listed
use Rattle.naga_listing.specs.declared.positions.LineKind.{LineKind}
use Rattle.naga_listing.specs.declared.positions.LineKind.TheVariants as kind
use Rattle.naga_listing.specs.declared.positions.Spot.{Spot}
use Rattle.naga_listing.specs.declared.positions.Spot.TheVariants as spot
use Rattle.naga_listing.specs.declared.positions.Title.{Title}
use Rattle.naga_listing.specs.declared.positions.Title.TheVariants as title

abbrev pub line : (level : ℕ) → LineKind → Line
line level r = record { level = level; kind = r }

-- ---- items by their lists

-- what the item of this number in a list is about
abbrev pub spot_in : Title → ℕ → Spot
spot_in title.Types index = spot.Type_ index
spot_in title.Constants index = spot.Constant index
spot_in title.Overrides index = spot.Override index
spot_in title.GlobalVariables index = spot.GlobalVariable index
spot_in title.GlobalExpressions index = spot.GlobalExpression index
spot_in title.Locals index = spot.Local index
spot_in title.Expressions index = spot.Expression index
spot_in title.Statements index = spot.Statement index

-- the first so many items of a list
abbrev pub items_below : Title → ℕ → List Line
items_below t zero = []
items_below t (suc index) = items_below t index ++ (line 2 (kind.Item (spot_in t index)) ∷ [])

-- a list of so many items under its title, and nothing where there are none
abbrev pub section : Title → ℕ → List Line
section t zero = []
section t (suc more) = line 1 (kind.Title t) ∷ items_below t (suc more)

-- ---- statements

-- the number after those of the statements inside one, of a block, of cases
abbrev mutual
  pub after_inside : (number : ℕ) → StatementTree → ℕ
  after_inside number (simple s) = number
  after_inside number (block b) = after_block number b
  after_inside number (branch condition accept reject) =
      after_block (after_block number accept) reject
  after_inside number (switch selector cs) = after_cases number cs
  after_inside number (loop body continuing break_if) =
      after_block (after_block number body) continuing

  pub after_block : (number : ℕ) → BlockTree → ℕ
  after_block number no_statements = number
  after_block number (statement s b) = after_block (after_inside (wrapping_add number 1) s) b

  pub after_cases : (number : ℕ) → CaseTrees → ℕ
  after_cases number no_cases = number
  after_cases number (case v b falls cs) = after_cases (after_block number b) cs

-- the lines of what is inside a statement that stands at a level, of a block, of cases
abbrev mutual
  pub inside_lines : (level number : ℕ) → StatementTree → List Line
  inside_lines level number (simple s) = []
  inside_lines level number (block b) = block_lines (wrapping_add level 2) number b
  inside_lines level number (branch condition accept reject) =
      block_lines (wrapping_add level 2) number accept
      ++ another_lines kind.Else level (after_block number accept) reject
  inside_lines level number (switch selector cs) = case_lines level number cs
  inside_lines level number (loop body continuing break_if) =
      block_lines (wrapping_add level 2) number body
      ++ another_lines kind.Continuing level (after_block number body) continuing

  pub block_lines : (level number : ℕ) → BlockTree → List Line
  block_lines level number no_statements = []
  block_lines level number (statement s b) =
      line level (kind.Item (spot.Statement number))
      ∷ (inside_lines level (wrapping_add number 1) s
      ++ block_lines level (after_inside (wrapping_add number 1) s) b)

  -- another block of the statement at this level, if it has statements, after a line that tells which
  pub another_lines : LineKind → (level number : ℕ) → BlockTree → List Line
  another_lines r level number no_statements = []
  another_lines r level number (statement s b) =
      line (wrapping_add level 1) r
      ∷ (line (wrapping_add level 2) (kind.Item (spot.Statement number))
      ∷ (inside_lines (wrapping_add level 2) (wrapping_add number 1) s
      ++ block_lines (wrapping_add level 2) (after_inside (wrapping_add number 1) s) b))

  pub case_lines : (level number : ℕ) → CaseTrees → List Line
  case_lines level number no_cases = []
  case_lines level number (case v b falls cs) =
      line (wrapping_add level 1) (kind.Case v falls)
      ∷ (block_lines (wrapping_add level 2) number b ++ case_lines level (after_block number b) cs)

-- the number after a statement and those inside it, and their lines
abbrev pub after_statement : (number : ℕ) → StatementTree → ℕ
after_statement number s = after_inside (wrapping_add number 1) s

abbrev pub statement_lines : (level number : ℕ) → StatementTree → List Line
statement_lines level number s =
    line level (kind.Item (spot.Statement number)) ∷ inside_lines level (wrapping_add number 1) s

-- the lines of two blocks of the statement at this level
abbrev pub two_lines : LineKind → (level number : ℕ) → (first second : BlockTree) → List Line
two_lines r level number first second =
    block_lines (wrapping_add level 2) number first
    ++ another_lines r level (after_block number first) second

-- a block of the statement at this level, after a line that tells which
abbrev pub headed_lines : LineKind → (level number : ℕ) → BlockTree → List Line
headed_lines r level number b =
    line (wrapping_add level 1) r ∷ block_lines (wrapping_add level 2) number b

abbrev pub body_lines : BlockTree → List Line
body_lines no_statements = []
body_lines (statement s b) = line 1 (kind.Title title.Statements) ∷ block_lines 2 0 (statement s b)

-- ---- all that can be listed

abbrev pub function_lines : Function → List Line
function_lines f =
    section title.Locals (length f.local_variables)
    ++ (section title.Expressions (length f.expressions) ++ body_lines f.body)

abbrev pub declaration_lines : Module → List Line
declaration_lines m =
    section title.Types (length m.types)
    ++ (section title.Constants (length m.constants)
    ++ (section title.Overrides (length m.overrides)
    ++ (section title.GlobalVariables (length m.global_variables)
    ++ section title.GlobalExpressions (length m.global_expressions))))

abbrev pub listed_lines : Module → Listed → List Line
listed_lines m listed.Declarations = declaration_lines m
listed_lines m (listed.Function handle) = option_map_or function_lines (slice_get m.functions handle) []
listed_lines m (listed.EntryPoint index) =
    option_map_or (λ e. function_lines e.function) (slice_get m.entry_points.items index) []

-- all lines of what is listed: the first is about the whole
abbrev pub all_lines : Module → Listed → List Line
all_lines m l = line 0 (kind.Item spot.Whole) ∷ listed_lines m l
