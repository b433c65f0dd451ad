-- The text of a tree has one reading.
use Rattle.std.proofs.Common.{◌≡◌, ℕ, List, [], ◌∷◌, refl, sym, ap, subst, ◌∙◌}
use Rattle.std.proofs.lemmas.List.{append-nil}
use Rattle.wgsl_text.specs.Token.{Token, Piece, TokenPiece, Blank, LineEnd, Indent}
use Rattle.wgsl_text.specs.Types.{TypeSpecifier, type_pieces, IsType}
use Rattle.wgsl_text.specs.Expressions.{Expression, expression_pieces, IsExpression}
use Rattle.wgsl_text.specs.Statements.{Statement, NoStatements, Then, statement_pieces, IsStatement}
use Rattle.wgsl_text.specs.Functions.{Function, function_pieces, IsFunction}
use Rattle.wgsl_text.specs.Functions.{EntryPoint, entry_point_pieces, IsEntryPoint}
use Rattle.wgsl_text.specs.Declarations.{Program, no_declarations, program_pieces, IsProgram}
use Rattle.wgsl_text.proofs.Runs.{Runs}
use Rattle.wgsl_text.proofs.Spacing.{Spaced}
use Rattle.wgsl_text.proofs.Closing.{Closed}
use Rattle.wgsl_text.proofs.Text.{Apart, pieces_scan}
use Rattle.wgsl_text.proofs.Types.{type_runs, type_spaced}
use Rattle.wgsl_text.proofs.Expressions.{expression_runs, expression_spaced}
use Rattle.wgsl_text.proofs.Statements.{statement_runs, statement_closed}
use Rattle.wgsl_text.proofs.Functions.{function_runs, function_closed, entry_point_runs}
use Rattle.wgsl_text.proofs.Functions.{entry_point_closed}
use Rattle.wgsl_text.proofs.Declarations.{newest_first, program_runs, newest_twice, program_closed}
use Rattle.wgsl_text.specs.Words.{is_builtin}
use Rattle.wgsl_text.specs.Text.{text, tokens_in, tokens}
use Rattle.wgsl_text.specs.Reading.{ReadsType, ReadsExpression, ReadsStatement, ReadsFunction}
use Rattle.wgsl_text.specs.Reading.{ReadsEntryPoint, printed_entry_point}
use Rattle.wgsl_text.specs.Reading.{Reads, printed_type, printed_expression, printed_statement}
use Rattle.wgsl_text.specs.Reading.{printed_function, printed_program, HasOneReading}
use Rattle.wgsl_text.proofs.Machine.{Reader, Expect, ExpectType, Got, GotType, Bottom, InStatements}
use Rattle.wgsl_text.proofs.Machine.{InProgram, step, run}

abbrev pub read : List Token → Reader → Reader
read [] s = s
read (t ∷ ts) s = read ts (step is_builtin s t)

run_reads : (ps : List Piece) (s : Reader) → run is_builtin ps s ≡ read (tokens_in ps) s
run_reads [] s = refl
run_reads (TokenPiece t ∷ ps) s = run_reads ps (step is_builtin s t)
run_reads (Blank ∷ ps) s = run_reads ps s
run_reads (LineEnd ∷ ps) s = run_reads ps s
run_reads (Indent n ∷ ps) s = run_reads ps s

-- where the machine stops, from the tokens alone
reads_to : {ps : List Piece} {s s' : Reader} {ts : List Token} → ts ≡ tokens_in ps → Runs ps s s' → read ts s ≡ s'
reads_to {ps} {s} e r = ap (λ v. read v s) e ∙ (sym (run_reads ps s) ∙ r.to)

pub type_read : {ts : List Token} (t : TypeSpecifier) → ReadsType ts t → read ts (ExpectType Bottom) ≡ GotType t Bottom
type_read t r = reads_to r.tokens (type_runs t r.form.part Bottom)

pub expression_read : {ts : List Token} (e : Expression) → ReadsExpression ts e → read ts (Expect Bottom) ≡ Got e Bottom
expression_read e r = reads_to r.tokens (expression_runs e r.form Bottom)

statement_read : {ts : List Token} (st : Statement) → ReadsStatement ts st →
    read ts (Expect (InStatements NoStatements Bottom)) ≡ Expect (InStatements (Then st NoStatements) Bottom)
statement_read st r = reads_to r.tokens (statement_runs st r.form r.level NoStatements Bottom)

-- a program of one function
abbrev only_function : Function → Program
only_function f = record no_declarations { functions = f ∷ [] }

function_read : {ts : List Token} (f : Function) → ReadsFunction ts f →
    read ts (Expect (InProgram [] no_declarations)) ≡ Expect (InProgram [] (only_function f))
function_read f r = reads_to r.tokens (function_runs f r.form [] no_declarations)

-- a program of one entry point
abbrev only_entry_point : EntryPoint → Program
only_entry_point e = record no_declarations { entry_points = e ∷ [] }

entry_point_read : {ts : List Token} (e : EntryPoint) → ReadsEntryPoint ts e →
    read ts (Expect (InProgram [] no_declarations)) ≡ Expect (InProgram [] (only_entry_point e))
entry_point_read e r = reads_to r.tokens (entry_point_runs e r.form no_declarations)

pub program_read : {ts : List Token} (p : Program) → Reads ts p →
    read ts (Expect (InProgram [] no_declarations)) ≡ Expect (InProgram [] (newest_first p))
program_read p r = reads_to r.tokens (program_runs p r.form)

pub same_type : (a b : TypeSpecifier) (s : Reader) → s ≡ GotType a Bottom → s ≡ GotType b Bottom → a ≡ b
same_type a b s e f = cc

pub same_expression : (a b : Expression) (s : Reader) → s ≡ Got a Bottom → s ≡ Got b Bottom → a ≡ b
same_expression a b s e f = cc

same_statement : (a b : Statement) (s : Reader) → s ≡ Expect (InStatements (Then a NoStatements) Bottom) →
    s ≡ Expect (InStatements (Then b NoStatements) Bottom) → a ≡ b
same_statement a b s e f = cc

pub same_program : (a b : Program) (s : Reader) → s ≡ Expect (InProgram [] a) → s ≡ Expect (InProgram [] b) → a ≡ b
same_program a b s e f = cc

-- Two trees with the same tokens are one.
pub type_unique : (ts : List Token) (a b : TypeSpecifier) → ReadsType ts a → ReadsType ts b → a ≡ b
type_unique ts a b ra rb = same_type a b _ (type_read a ra) (type_read b rb)

pub expression_unique : (ts : List Token) (a b : Expression) → ReadsExpression ts a → ReadsExpression ts b → a ≡ b
expression_unique ts a b ra rb = same_expression a b _ (expression_read a ra) (expression_read b rb)

pub statement_unique : (ts : List Token) (a b : Statement) → ReadsStatement ts a → ReadsStatement ts b → a ≡ b
statement_unique ts a b ra rb = same_statement a b _ (statement_read a ra) (statement_read b rb)

-- the first of these, or another where there is none
abbrev first_or : {A : Type 0} → A → List A → A
first_or f [] = f
first_or f (g ∷ more) = g

pub function_unique : (ts : List Token) (a b : Function) → ReadsFunction ts a → ReadsFunction ts b → a ≡ b
function_unique ts a b ra rb =
    ap (λ p. first_or a p.functions) (same_program (only_function a) (only_function b) _ (function_read a ra)
    (function_read b rb))

pub entry_point_unique : (ts : List Token) (a b : EntryPoint) → ReadsEntryPoint ts a → ReadsEntryPoint ts b → a ≡ b
entry_point_unique ts a b ra rb =
    ap (λ p. first_or a p.entry_points) (same_program (only_entry_point a) (only_entry_point b) _
    (entry_point_read a ra) (entry_point_read b rb))

pub program_unique : (ts : List Token) (a b : Program) → Reads ts a → Reads ts b → a ≡ b
program_unique ts a b ra rb =
    let e = same_program _ _ _ (program_read a ra) (program_read b rb) in sym (newest_twice a)
    ∙ (ap newest_first e ∙ newest_twice b)

-- the tokens of pieces that stand apart
spaced_tokens : (ps : List Piece) → Spaced ps → tokens (text ps) ≡ tokens_in ps
spaced_tokens ps a = pieces_scan ps (subst Apart (append-nil ps) (a.by [] tt refl))

closed_tokens : (ps : List Piece) → Closed ps → tokens (text ps) ≡ tokens_in ps
closed_tokens ps a = pieces_scan ps (subst Apart (append-nil ps) (a.by [] tt))

pub type_has_one_reading : (t : TypeSpecifier) → IsType t → HasOneReading ReadsType (printed_type t) t
type_has_one_reading t is =
    let r : ReadsType (tokens (printed_type t)) t =
    record { form = is; tokens = spaced_tokens (type_pieces t) (type_spaced t is.part) } in
    record { read = r; only = λ other o. type_unique _ other t o r }

pub expression_has_one_reading : (e : Expression) → IsExpression e →
    HasOneReading ReadsExpression (printed_expression e) e
expression_has_one_reading e is =
    let r : ReadsExpression (tokens (printed_expression e)) e =
    record { form = is; tokens = spaced_tokens (expression_pieces e) (expression_spaced e is) } in
    record { read = r; only = λ other o. expression_unique _ other e o r }

pub statement_has_one_reading : (st : Statement) → IsStatement st → (level : ℕ) →
    HasOneReading ReadsStatement (printed_statement st level) st
statement_has_one_reading st is level =
    let r : ReadsStatement (tokens (printed_statement st level)) st =
    record {
      form = is;
      level = level;
      tokens = closed_tokens (statement_pieces st level)
          (statement_closed st is level);
    } in
    record { read = r; only = λ other o. statement_unique _ other st o r }

pub function_has_one_reading : (f : Function) → IsFunction f → HasOneReading ReadsFunction (printed_function f) f
function_has_one_reading f is =
    let r : ReadsFunction (tokens (printed_function f)) f =
    record { form = is; tokens = closed_tokens (function_pieces f) (function_closed f is) } in
    record { read = r; only = λ other o. function_unique _ other f o r }

pub entry_point_has_one_reading : (e : EntryPoint) → IsEntryPoint e →
    HasOneReading ReadsEntryPoint (printed_entry_point e) e
entry_point_has_one_reading e is =
    let r : ReadsEntryPoint (tokens (printed_entry_point e)) e =
    record { form = is; tokens = closed_tokens (entry_point_pieces e) (entry_point_closed e is) } in
    record { read = r; only = λ other o. entry_point_unique _ other e o r }

pub program_has_one_reading : (p : Program) → IsProgram p → HasOneReading Reads (printed_program p) p
program_has_one_reading p is =
    let r : Reads (tokens (printed_program p)) p =
    record { form = is; tokens = closed_tokens (program_pieces p) (program_closed p is) } in
    record { read = r; only = λ other o. program_unique _ other p o r }
