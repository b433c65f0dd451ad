-- The texts of statements. Throughout, f is the function that is written, k is how many names that
-- front ends gave stand in front of a line, s are the handles in scope there, i is the level of the
-- line, and h is a handle.
use Rattle.wgsl_text.specs.Statements.{DefaultCase}
use Rattle.shader_runs.specs.ProgramRun.{barrier_words}
use Rattle.std.specs.Option.{is_some}
use Rattle.module_semantics.specs.StatementShapes.{act_operator, barrier_bits}
use Rattle.module_semantics.specs.FunctionShapes.{cases_shape}
use Rattle.naga_form.specs.Statements.{case_values_form, case_value_form, barrier_lines}
use Rattle.std.specs.Prelude.{◌∷◌, suc, map}
use Rattle.naga_ir.specs.declared.statement.SwitchCase.{SwitchCase}
use Rattle.naga_ir.specs.StatementTree.{has_no_statements}
use Rattle.naga_ir.specs.declared.flags.Barrier.{Barrier}
use Rattle.shader_runs.specs.Program as shapes
use Rattle.naga_scope.specs.Walks.{after_each}
use Rattle.std.specs.Prelude.{ℕ, Bool, List, [], ◌++◌, Option, None, Some, codes, if◌then◌else◌}
use Rattle.std.specs.Prelude.{true, false}
use Rattle.naga_ir.specs.StatementTree.{BlockTree, CaseTrees, StatementTree}
use Rattle.naga_ir.specs.StatementTree.{simple, call}
use Rattle.naga_back.specs.Indentation.{indentation}
use Rattle.shader_runs.specs.Program.{binds}
use Rattle.shader_runs.specs.Form.{word_of}
use Rattle.shader_runs.specs.Scope.{Handles, Names, after, after_all, bound_name, named_by}
use Rattle.shader_runs.specs.Scope.{named_by_all, named_by_cases}
use Rattle.module_semantics.specs.FunctionShapes.{statement_shape, statements_shape}
use Rattle.module_semantics.specs.Names.{numbered_name}
use Rattle.naga_form.specs.Expressions.{as_value, as_reference, plain_form, unnamed_form}
use Rattle.naga_form.specs.Expressions.{value_form, value_forms}
use Rattle.naga_form.specs.Statements.{act_line, cases_form, let_form, lets_form, line_form}
use Rattle.naga_form.specs.Statements.{lines_form}
use Rattle.wgsl_text.specs.Expressions.{operands}
use Rattle.wgsl_text.specs.Reading.{printed_expression}
use Rattle.wgsl_text.specs.Statements.{Assign, CaseValue}
use Rattle.wgsl_text.specs.Statements.{NoStatements}
use Rattle.wgsl_text.specs.Statements.{Statement, Statements, case_pieces}
use Rattle.wgsl_text.specs.Statements.{cases_pieces, case_value_pieces, statement_pieces}
use Rattle.wgsl_text.specs.Statements.{statements_pieces}
use Rattle.wgsl_text.specs.Text.{text}
use Rattle.naga_wgsl_fns.specs.declared.functions.FunctionText.{FunctionText}
use Rattle.naga_wgsl_fns.specs.FunctionText.{context, let_annotation, naming, source}
use Rattle.naga_wgsl_fns.specs.Types.{let_annotation_text}

-- a statement's lines
abbrev pub line_text : (i : ℕ) → Statement → List ℕ
line_text i statement = text (statement_pieces statement i)

abbrev pub lines_text : (i : ℕ) → Statements → List ℕ
lines_text i statements = text (statements_pieces statements i)

-- the blanks before a line, and what it starts with
unfoldable pub line_start : (i : ℕ) → (words : List ℕ) → List ℕ
line_start i words = indentation i ++ words

-- a statement of a block, and a block
unfoldable pub statement_text : FunctionText → ℕ → Handles → (i : ℕ) → StatementTree → List ℕ
statement_text f k s i st =
    lines_text i (line_form (naming f) (let_annotation f) (source f) k st s NoStatements)

unfoldable pub block_text : FunctionText → ℕ → Handles → (i : ℕ) → BlockTree → List ℕ
block_text f k s i b = lines_text i (lines_form (naming f) (let_annotation f) (source f) k b s)

-- ---- where what follows stands
-- how many names are given after a statement and after a block, and which handles are in scope
-- there
abbrev pub named_after_statement : FunctionText → StatementTree → ℕ → ℕ
named_after_statement f st k = named_by (naming f).function (statement_shape (context f) st) k

abbrev pub named_following : FunctionText → BlockTree → ℕ → ℕ
named_following f b k = named_by_all (naming f).function (statements_shape (context f) b) k

abbrev pub named_after_cases : FunctionText → CaseTrees → ℕ → ℕ
named_after_cases f cases k = named_by_cases (naming f).function (cases_shape (context f) cases) k

abbrev pub after_statement : FunctionText → ℕ → StatementTree → Handles → Handles
after_statement f k st s = after (naming f) k (statement_shape (context f) st) s

abbrev pub after_statements : FunctionText → ℕ → BlockTree → Handles → Handles
after_statements f k b s = after_each (naming f) k (statements_shape (context f) b) s

-- and which a loop's body leaves to `continuing`
abbrev pub left_to_continuing : FunctionText → ℕ → BlockTree → Handles → Handles
left_to_continuing f k b s = after_all (naming f) k (statements_shape (context f) b) s

-- ---- lines
-- a value between what a line starts with and what it ends with
unfoldable pub around_text : FunctionText → Handles → (i : ℕ) → (start : List ℕ) → (value : ℕ) →
    (end : List ℕ) → List ℕ
around_text f s i start value end =
    line_start i start ++ (printed_expression (value_form (naming f) (source f) s value) ++ end)

unfoldable pub assignment_text : FunctionText → Handles → (i pointer value : ℕ) → List ℕ
assignment_text f s i pointer value =
    line_text i
    (Assign (as_reference (plain_form (naming f) (source f) s pointer))
    (value_form (naming f) (source f) s value))

-- the `let` of a handle
abbrev pub let_line : FunctionText → ℕ → Handles → (h : ℕ) → Statement
let_line f k s h =
    let_form (let_annotation f h) (bound_name (naming f) k h)
    (as_value (unnamed_form (naming f) (source f) s h))

unfoldable pub let_text : FunctionText → ℕ → Handles → (i h : ℕ) → List ℕ
let_text f k s i h = line_text i (let_line f k s h)

-- the same, if it is to be bound
unfoldable pub emitted_text : FunctionText → ℕ → Handles → (i h : ℕ) → List ℕ
emitted_text f k s i h = if binds (naming f).function h then let_text f k s i h else []

-- the `let`s of these handles
unfoldable pub lets_text : FunctionText → ℕ → Handles → (i : ℕ) → (handles : List ℕ) → List ℕ
lets_text f k s i handles =
    lines_text i
    (lets_form (naming f) (let_annotation f) (source f) k handles s NoStatements)

-- ---- acts
-- a statement that asks for something or calls a function, whatever its operands are
abbrev pub is_act : StatementTree → Bool
is_act (simple (call function arguments outcome)) = true
is_act (simple s) = is_some (act_operator s)
is_act _ = false

-- by this word
abbrev pub word_in : Names → shapes.Statement → List ℕ
word_in n (shapes.Act action xs outcome) = word_of n action
word_in n _ = []

abbrev pub act_word : FunctionText → StatementTree → List ℕ
act_word f st = word_in (naming f).names (statement_shape (context f) st)

-- by a word, with these operands and this result
unfoldable pub act_text : FunctionText → Handles → (i : ℕ) → (word xs : List ℕ) →
    (outcome : Option ℕ) → List ℕ
act_text f s i word xs outcome =
    line_text i
    (act_line (naming f) (let_annotation f) word
    (operands (value_forms (plain_form (naming f) (source f) s) xs)) outcome)

-- what stands in front of the word, where there is a result
unfoldable pub outcome_text : FunctionText → (outcome : Option ℕ) → List ℕ
outcome_text f None = []
outcome_text f (Some h) =
    codes "let " ++ (numbered_name h ++ (let_annotation_text f h ++ codes " = "))

-- a barrier's line, where it is one of that kind
unfoldable pub barrier_text : (i : ℕ) → (is_set : Bool) → (line : List ℕ) → List ℕ
barrier_text i is_set line = if is_set then line_start i line else []

-- all of them
unfoldable pub barriers_text : (i : ℕ) → Barrier → List ℕ
barriers_text i flags =
    lines_text i (barrier_lines (barrier_words (barrier_bits flags)) NoStatements)

-- ---- blocks
-- lines after one that opens them
unfoldable pub braces_text : (i : ℕ) → (start body : List ℕ) → List ℕ
braces_text i start body = line_start i start ++ (body ++ line_start i (codes "}\n"))

unfoldable pub else_text : (i : ℕ) → (is_empty : Bool) → (body : List ℕ) → List ℕ
else_text i is_empty body = if is_empty then [] else line_start i (codes "} else {\n") ++ body

-- ---- loops
-- what a loop does last, and whether it ends then
unfoldable pub last_text : FunctionText → ℕ → Handles → (i : ℕ) → BlockTree → (break_if : ℕ) →
    List ℕ
last_text f k s i b break_if =
    block_text f k s i b
    ++ around_text f (left_to_continuing f k b s) i (codes "break if ") break_if (codes ";\n")

unfoldable pub continuing_text : FunctionText → ℕ → Handles → (i : ℕ) → BlockTree →
    (break_if : Option ℕ) → List ℕ
continuing_text f k s i b None =
    if has_no_statements b then []
    else braces_text i (codes "continuing {\n") (block_text f k s (suc i) b)
continuing_text f k s i b (Some break_if) =
    braces_text i (codes "continuing {\n") (last_text f k s (suc i) b break_if)

-- all that it repeats
unfoldable pub turn_text : FunctionText → ℕ → Handles → (i : ℕ) → (body continuing : BlockTree) →
    (break_if : Option ℕ) → List ℕ
turn_text f k s i body continuing break_if =
    block_text f k s i body
    ++ continuing_text f (named_following f body k) (left_to_continuing f k body s) i continuing
    break_if

-- ---- switches
-- cases, in front of which these values wait for one
unfoldable pub cases_text : FunctionText → ℕ → Handles → (i : ℕ) → List CaseValue → CaseTrees →
    List ℕ
cases_text f k s i values cases =
    text
    (cases_pieces (cases_form (naming f) (let_annotation f) (source f) k values cases s) i)

-- the values of these cases
abbrev pub case_values_of : List SwitchCase → List CaseValue
case_values_of cases = map (λ c. case_value_form c.value) cases

-- a case value, values each of which has another one after it, and those of a group up to the colon
unfoldable pub case_value_text : CaseValue → List ℕ
case_value_text value = text (case_value_pieces value)

unfoldable pub waiting_text : List CaseValue → List ℕ
waiting_text [] = []
waiting_text (value ∷ values) = case_value_text value ++ (codes ", " ++ waiting_text values)

-- a default that no other case value stands with
abbrev pub stands_alone : (values : List CaseValue) → (own : CaseValue) → Bool
stands_alone [] DefaultCase = true
stands_alone values own = false

unfoldable pub group_start : (values : List CaseValue) → (own : CaseValue) → List ℕ
group_start values own = text (case_pieces (case_values_form values own))

-- case values and the block that they are for
unfoldable pub group_text : FunctionText → ℕ → Handles → (i : ℕ) → (values : List CaseValue) →
    (own : CaseValue) → BlockTree → List ℕ
group_text f k s i values own body =
    indentation i ++
    (group_start values own ++
    (codes " {\n" ++ (block_text f k s (suc i) body ++ line_start i (codes "}\n"))))

-- one that falls through has none of its own
unfoldable pub case_text : FunctionText → ℕ → Handles → (i : ℕ) → (values : List CaseValue) →
    (own : CaseValue) → (falls : Bool) → BlockTree → List ℕ
case_text f k s i values own falls body = if falls then [] else group_text f k s i values own body
