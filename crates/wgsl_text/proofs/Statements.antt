-- Statements: the machine reads back what their pieces write, and no token of these runs into the
-- next; and the text of each row.
use Rattle.std.proofs.Common.{◌≡◌, ℕ, suc, true, false, List, [], ◌∷◌, ◌++◌, refl, ap, arith}
use Rattle.wgsl_text.specs.Expressions.{Expression, Arguments, arguments_pieces}
use Rattle.wgsl_text.specs.Statements.{CaseValue, DefaultCase, SignedCase, UnsignedCase, CaseValues}
use Rattle.wgsl_text.specs.Statements.{LastCaseValue, MoreCaseValues, Statement, Let, TypedLet}
use Rattle.wgsl_text.specs.Statements.{Assign, CallStatement, ReturnValue, If, Loop, LoopBreakIf}
use Rattle.wgsl_text.specs.Statements.{Switch, Block, Statements, NoStatements, Then, Cases}
use Rattle.wgsl_text.specs.Statements.{NoCases, Case, case_value_pieces, case_values_pieces}
use Rattle.wgsl_text.specs.Statements.{case_pieces, statement_pieces, statements_pieces}
use Rattle.wgsl_text.specs.Statements.{else_pieces, continuing_pieces, cases_pieces, IsCaseValue}
use Rattle.wgsl_text.specs.Statements.{AreCaseValues, IsStatement, IsStatements, IsCases}
use Rattle.wgsl_text.specs.Statements.{OptionalBlock, NoBlock, SomeBlock, IsOptionalBlock}
use Rattle.wgsl_text.specs.Token.{CloseBrace, KeywordContinuing, NoSuffix, Number, Piece, LineEnd}
use Rattle.wgsl_text.specs.Token.{mark}
use Rattle.wgsl_text.specs.Types.{TypeSpecifier}
use Rattle.wgsl_text.proofs.Machine.{Stack, Reader, Expect, InStatements, InLoop, InContinuing}
use Rattle.wgsl_text.proofs.Machine.{InCase, CloseTwice, ExpectBrace, CloseOnce, AtCase}
use Rattle.wgsl_text.proofs.Machine.{ExpectCaseValue, AfterCaseValue, unwind_statements}
use Rattle.wgsl_text.proofs.Machine.{unwind_cases, unwind_case_values, add_statement, close_block}
use Rattle.wgsl_text.proofs.Chain.{◌$◌}
use Rattle.wgsl_text.proofs.Closing.{Closed, none, line, gap, indent, tok, free, sign, part, ◌then◌}
use Rattle.wgsl_text.proofs.Closing.{stop, close_line}
use Rattle.wgsl_text.proofs.Expressions.{callee_runs, expression_runs, arguments_run, callee_spaced}
use Rattle.wgsl_text.proofs.Expressions.{expression_spaced, arguments_spaced, stand_first}
use Rattle.wgsl_text.proofs.Literals.{signed_number}
use Rattle.wgsl_text.proofs.Runs.{Runs, ◌onward◌, reads, over_gap, over_line, over_indent, as_reader}
use Rattle.wgsl_text.proofs.Runs.{at_end}
use Rattle.wgsl_text.proofs.Spacing.{number_of_plain}
use Rattle.wgsl_text.proofs.Text.{ends_word, ends, text-append, indent_text}
use Rattle.wgsl_text.proofs.Types.{type_runs, type_spaced}
use Rattle.std.specs.Prelude.{codes, ◌^◌}
use Rattle.wgsl_text.specs.Text.{text}
use Rattle.wgsl_text.specs.Reading.{printed_type, printed_expression}

-- the first, newest first, in front of the second
abbrev rewind_statements : Statements → Statements → Statements
rewind_statements NoStatements done = done
rewind_statements (Then s more) done = rewind_statements more (Then s done)

abbrev rewind_cases : Cases → Cases → Cases
rewind_cases NoCases done = done
rewind_cases (Case case_values body more) done = rewind_cases more (Case case_values body done)

unwind_rewind : (ss done : Statements) → unwind_statements (rewind_statements ss done) NoStatements
    ≡ unwind_statements done ss
unwind_rewind NoStatements done = refl
unwind_rewind (Then s more) done = unwind_rewind more (Then s done)

unwind_rewind_cases : (cs done : Cases) → unwind_cases (rewind_cases cs done) NoCases ≡ unwind_cases done cs
unwind_rewind_cases NoCases done = refl
unwind_rewind_cases (Case case_values body more) done = unwind_rewind_cases more (Case case_values body done)

-- the brace after statements
pub closes : (ss : Statements) {s : Stack} {qs : List Piece} {s' : Reader} → Runs qs (close_block ss s) s' →
    Runs (mark CloseBrace ∷ qs) (Expect (InStatements (rewind_statements ss NoStatements) s)) s'
closes ss {s} b = reads $ as_reader (ap (λ body. close_block body s) (unwind_rewind ss NoStatements)) b

case_value_runs : (l : CaseValue) (e : Expression) (done : Cases) (case_values : List CaseValue) (s : Stack) →
    Runs (case_value_pieces l) (ExpectCaseValue e done case_values s) (AfterCaseValue e done case_values l s)
case_value_runs DefaultCase e done case_values s = at_end
case_value_runs _ e done case_values s = at_end

case_values_run : (ls : CaseValues) (e : Expression) (done : Cases) (case_values : List CaseValue) (s : Stack) →
    Runs (case_values_pieces ls) (ExpectCaseValue e done case_values s)
    (ExpectBrace (InCase e done (unwind_case_values case_values ls) s))
case_values_run (LastCaseValue l) e done case_values s = case_value_runs l e done case_values s onward at_end
case_values_run (MoreCaseValues l more) e done case_values s = case_value_runs l e done case_values s onward reads $
    over_gap $ case_values_run more e done (l ∷ case_values) s

case_runs : (ls : CaseValues) (e : Expression) (done : Cases) (s : Stack) →
    Runs (case_pieces ls) (AtCase e done s) (ExpectBrace (InCase e done ls s))
case_runs (LastCaseValue DefaultCase) e done s = at_end
case_runs (LastCaseValue (SignedCase negative n)) e done s = reads $ over_gap $
    case_values_run (LastCaseValue (SignedCase negative n)) e done [] s
case_runs (LastCaseValue (UnsignedCase n)) e done s = reads $ over_gap $
    case_values_run (LastCaseValue (UnsignedCase n)) e done [] s
case_runs (MoreCaseValues l more) e done s = reads $ over_gap $ case_values_run (MoreCaseValues l more) e done [] s

-- a loop, up to the brace that closes it
abbrev loop_reader : Statements → OptionalBlock → Stack → Reader
loop_reader body NoBlock s = Expect (InStatements (rewind_statements body NoStatements) (InLoop s))
loop_reader body (SomeBlock rest) s = CloseOnce (Loop body (SomeBlock rest)) s

loop_closes : (body : Statements) (rest : OptionalBlock) (done : Statements) (s : Stack) →
    Runs (mark CloseBrace ∷ LineEnd ∷ []) (loop_reader body rest (InStatements done s))
    (Expect (InStatements (Then (Loop body rest) done) s))
loop_closes body NoBlock done s = closes body at_end
loop_closes body (SomeBlock rest) done s = at_end

continues : (body : Statements) {s : Stack} {qs : List Piece} {s' : Reader} →
    Runs qs (ExpectBrace (InContinuing body s)) s' →
    Runs (mark KeywordContinuing ∷ qs)
    (Expect (InStatements (rewind_statements body NoStatements) (InLoop s))) s'
continues body {s} b = reads $ as_reader (ap (λ v. ExpectBrace (InContinuing v s)) (unwind_rewind body NoStatements)) b

mutual
  pub statement_runs : (st : Statement) → IsStatement st → (n : ℕ) (done : Statements) (s : Stack) →
      Runs (statement_pieces st n) (Expect (InStatements done s)) (Expect (InStatements (Then st done) s))
  statement_runs (Let w e) is n done s = over_indent $ reads $ over_gap $ reads $ over_gap $ reads $ over_gap $
      expression_runs e is.1 _ onward at_end
  statement_runs (TypedLet w t e) is n done s =
      over_indent $ reads $ over_gap $ reads $ reads $ over_gap $ type_runs t is.1.part _ onward over_gap $
      reads $ over_gap $ expression_runs e is.2 _ onward at_end
  statement_runs (Assign a b) is n done s = over_indent $ expression_runs a is.0 _ onward over_gap $ reads $
      over_gap $ expression_runs b is.1 _ onward at_end
  statement_runs (CallStatement t args) is n done s =
      over_indent $ callee_runs t is.0 _ _ _ (arguments_run args is.1 (stand_first t args is.2) t _ onward at_end)
  statement_runs (ReturnValue e) is n done s = over_indent $ reads $ over_gap $ expression_runs e is _ onward at_end
  statement_runs (If e accept reject) is n done s =
      over_indent $ reads $ over_gap $ expression_runs e is.0 _ onward over_gap $ reads $ over_line
      $ statements_run accept is.1 (suc n) NoStatements _ onward over_indent $ closes accept $
      else_runs reject is.2 n e accept done s
  statement_runs (Loop body rest) is n done s =
      over_indent $ reads $ over_gap $ reads $ over_line $ statements_run body is.0
      (suc n) NoStatements _ onward continuing_runs rest is.1 (suc n) body (InStatements done s)
      onward over_indent $ loop_closes body rest done s
  statement_runs (LoopBreakIf body rest e) is n done s =
      over_indent (reads
      (over_gap (reads
      (over_line (statements_run body is.0 (suc n) NoStatements _ onward over_indent
      (continues body (over_gap (reads (over_line (
      statements_run rest is.1 (suc (suc n)) NoStatements _ onward over_indent
      (reads (over_gap (reads (over_gap (expression_runs e is.2 _ onward
      reads (as_reader (ap (λ v. CloseTwice (LoopBreakIf body v e) (InStatements done s))
      (unwind_rewind rest NoStatements)) at_end))))))))))))))))
  statement_runs (Switch e cases) is n done s =
      over_indent $ reads $ over_gap $ expression_runs e is.0 _ onward over_gap $ reads $ over_line
      $ cases_run cases is.1 (suc n) e NoCases _ onward over_indent $ reads $ as_reader
      (ap (λ cs. add_statement (Switch e cs) (InStatements done s))
      (unwind_rewind_cases cases NoCases)) at_end
  statement_runs (Block body) is n done s = over_indent $ reads $ over_line $
      statements_run body is (suc n) NoStatements _ onward over_indent $ closes body at_end
  statement_runs _ is n done s = at_end

  pub statements_run : (ss : Statements) → IsStatements ss →
      (n : ℕ) (done : Statements) (s : Stack) →
      Runs (statements_pieces ss n) (Expect (InStatements done s))
      (Expect (InStatements (rewind_statements ss done) s))
  statements_run NoStatements is n done s = at_end
  statements_run (Then st more) is n done s = statement_runs st is.0 n done s onward statements_run more is.1 n
      (Then st done) s

  else_runs : (reject : OptionalBlock) → IsOptionalBlock reject → (n : ℕ) (e : Expression)
      (accept done : Statements) (s : Stack) →
      Runs (else_pieces reject n) (Expect (InStatements (Then (If e accept NoBlock) done) s))
      (Expect (InStatements (Then (If e accept reject) done) s))
  else_runs NoBlock is n e accept done s = at_end
  else_runs (SomeBlock body) is n e accept done s =
      over_gap $ reads $ over_gap $ reads $ over_line $
      statements_run body is (suc n) NoStatements _ onward over_indent $ closes body at_end

  continuing_runs : (rest : OptionalBlock) → IsOptionalBlock rest → (n : ℕ) (body : Statements)
      (s : Stack) →
      Runs (continuing_pieces rest n)
      (Expect (InStatements (rewind_statements body NoStatements) (InLoop s)))
      (loop_reader body rest s)
  continuing_runs NoBlock is n body s = at_end
  continuing_runs (SomeBlock rest) is n body s =
      over_indent $ continues body $ over_gap $ reads $ over_line $
      statements_run rest is (suc n) NoStatements _ onward over_indent $ closes rest at_end

  cases_run : (cs : Cases) → IsCases cs → (n : ℕ) (e : Expression) (done : Cases) (s : Stack) →
      Runs (cases_pieces cs n) (AtCase e done s) (AtCase e (rewind_cases cs done) s)
  cases_run NoCases is n e done s = at_end
  cases_run (Case case_values body more) is n e done s =
      over_indent $ case_runs case_values e done s onward over_gap $ reads $ over_line $ statements_run
      body is.1 (suc n) NoStatements _ onward over_indent $ closes body $ over_line $ cases_run
      more is.2 n e (Case case_values body done) s

-- In their pieces no token runs into the next.

case_value_closed : (l : CaseValue) → IsCaseValue l → {qs : List Piece} →
    ((more : List Piece) → ends (Number false 0 NoSuffix) (text (qs ++ more)) ≡ true) →
    ((more : List Piece) → ends_word (text (qs ++ more)) ≡ true) → Closed qs →
    Closed (case_value_pieces l ++ qs)
case_value_closed DefaultCase is number front a = sign front a
case_value_closed (SignedCase negative n) is number front a =
    tok (signed_number negative n (2 ^ 31) (omega arith) is) number a
case_value_closed (UnsignedCase n) is number front a = tok (number_of_plain n is) (λ _. refl) a

case_values_closed : (ls : CaseValues) → AreCaseValues ls → Closed (case_values_pieces ls)
case_values_closed (LastCaseValue l) is = case_value_closed l is (λ _. refl) (λ _. refl) (sign (λ _. refl) none)
case_values_closed (MoreCaseValues l more) is = case_value_closed l is.0 (λ _. refl) (λ _. refl)
    (sign (λ _. refl) (gap (case_values_closed more is.1)))

case_closed : (ls : CaseValues) → AreCaseValues ls → Closed (case_pieces ls)
case_closed (LastCaseValue DefaultCase) is = sign (λ _. refl) $ sign (λ _. refl) none
case_closed (LastCaseValue (SignedCase negative n)) is = sign (λ _. refl) $ gap $
    case_values_closed (LastCaseValue (SignedCase negative n)) is
case_closed (LastCaseValue (UnsignedCase n)) is = sign (λ _. refl) $ gap $
    case_values_closed (LastCaseValue (UnsignedCase n)) is
case_closed (MoreCaseValues l more) is = sign (λ _. refl) $ gap $ case_values_closed (MoreCaseValues l more) is

mutual
  pub statement_closed : (st : Statement) → IsStatement st → (n : ℕ) → Closed (statement_pieces st n)
  statement_closed (Let w e) is n =
      indent $ sign (λ _. refl) $ gap $ free is.0.word (λ _. refl) $ gap $ sign (λ _. refl) $ gap $
      part (expression_spaced e is.1) (λ _. refl) stop
  statement_closed (TypedLet w t e) is n =
      indent $ sign (λ _. refl) $ gap $ free is.0.word (λ _. refl) $ sign (λ _. refl) $ gap $ part
      (type_spaced t is.1.part) (λ _. refl) $ gap $ sign (λ _. refl) $ gap $ part
      (expression_spaced e is.2) (λ _. refl) stop
  statement_closed (Assign a b) is n = indent $ part (expression_spaced a is.0) (λ _. refl) $ gap $
      sign (λ _. refl) $ gap $ part (expression_spaced b is.1) (λ _. refl) stop
  statement_closed (CallStatement t args) is n = indent $ part (callee_spaced t is.0) (λ _. refl) $
      sign (λ _. refl) $ part (arguments_spaced args is.1) (λ _. refl) stop
  statement_closed (ReturnValue e) is n = indent $ sign (λ _. refl) $ gap $ part (expression_spaced e is)
      (λ _. refl) stop
  statement_closed (If e accept reject) is n =
      indent $ sign (λ _. refl) $ gap $ part (expression_spaced e is.0) (λ _. refl) $ gap $ sign
      (λ _. refl) $ line $ statements_closed accept is.1 (suc n) then indent $ sign
      (λ _. refl) $ else_closed reject is.2 n
  statement_closed (Loop body rest) is n =
      indent $ sign (λ _. refl) $ gap $ sign (λ _. refl) $ line $
      statements_closed body is.0 (suc n) then continuing_closed rest is.1 (suc n) then indent close_line
  statement_closed (LoopBreakIf body rest e) is n =
      indent $ sign (λ _. refl) $ gap $ sign (λ _. refl) $ line $ statements_closed body is.0
      (suc n) then indent $ sign (λ _. refl) $ gap $ sign (λ _. refl) $ line $ statements_closed
      rest is.1 (suc (suc n)) then indent $ sign (λ _. refl) $ gap $ sign
      (λ _. refl) $ gap $ part (expression_spaced e is.2) (λ _. refl) $ sign
      (λ _. refl) $ line $ indent $ sign (λ _. refl) $ line $ indent close_line
  statement_closed (Switch e cases) is n =
      indent $ sign (λ _. refl) $ gap $ part (expression_spaced e is.0) (λ _. refl) $ gap $ sign (λ _. refl) $
      line $ cases_closed cases is.1 (suc n) then indent close_line
  statement_closed (Block body) is n = indent $ sign (λ _. refl) $ line $
      statements_closed body is (suc n) then indent close_line
  statement_closed _ is n = indent $ sign (λ _. refl) stop

  pub statements_closed : (ss : Statements) → IsStatements ss → (n : ℕ) → Closed (statements_pieces ss n)
  statements_closed NoStatements is n = none
  statements_closed (Then st more) is n = statement_closed st is.0 n then statements_closed more is.1 n

  else_closed : (reject : OptionalBlock) → IsOptionalBlock reject → (n : ℕ) →
      Closed (else_pieces reject n)
  else_closed NoBlock is n = line none
  else_closed (SomeBlock body) is n =
      gap $ sign (λ _. refl) $ gap $ sign (λ _. refl) $ line $
      statements_closed body is (suc n) then indent close_line

  continuing_closed : (rest : OptionalBlock) → IsOptionalBlock rest → (n : ℕ) →
      Closed (continuing_pieces rest n)
  continuing_closed NoBlock is n = none
  continuing_closed (SomeBlock body) is n =
      indent $ sign (λ _. refl) $ gap $ sign (λ _. refl) $ line $
      statements_closed body is (suc n) then indent close_line

  cases_closed : (cs : Cases) → IsCases cs → (n : ℕ) → Closed (cases_pieces cs n)
  cases_closed NoCases is n = none
  cases_closed (Case case_values body more) is n =
      indent $ case_closed case_values is.0 then gap $ sign (λ _. refl) $ line $
      statements_closed body is.1 (suc n) then indent $ sign (λ _. refl) $ line $ cases_closed more is.2 n

-- The text of each row, from the texts of its parts.

pub let_text : (w : List ℕ) (e : Expression) (n : ℕ) → text (statement_pieces (Let w e) n) ≡ indent_text n
    ++ (codes "let " ++ (w ++ (codes " = " ++ (printed_expression e ++ codes ";\n"))))
let_text w e n = simp text-append

pub typed_let_text : (w : List ℕ) (t : TypeSpecifier) (e : Expression) (n : ℕ) →
    text (statement_pieces (TypedLet w t e) n) ≡ indent_text n ++
    (codes "let " ++
    (w ++ (codes ": " ++ (printed_type t ++ (codes " = " ++ (printed_expression e ++ codes ";\n"))))))
typed_let_text w t e n = simp text-append

pub assign_text : (a b : Expression) (n : ℕ) → text (statement_pieces (Assign a b) n) ≡ indent_text n
    ++ (printed_expression a ++ (codes " = " ++ (printed_expression b ++ codes ";\n")))
assign_text a b n = simp text-append

pub call_statement_text : (t : TypeSpecifier) (args : Arguments) (n : ℕ) →
    text (statement_pieces (CallStatement t args) n) ≡ indent_text n ++
    (printed_type t ++ (codes "(" ++ (text (arguments_pieces args) ++ codes ";\n")))
call_statement_text t args n = simp text-append

pub return_text : (e : Expression) (n : ℕ) → text (statement_pieces (ReturnValue e) n) ≡ indent_text n
    ++ (codes "return " ++ (printed_expression e ++ codes ";\n"))
return_text e n = simp text-append

pub if_text : (e : Expression) (accept : Statements) (reject : OptionalBlock) (n : ℕ) →
    text (statement_pieces (If e accept reject) n) ≡ indent_text n ++
    (codes "if " ++
    (printed_expression e ++
    (codes " {\n" ++
    (text (statements_pieces accept (suc n)) ++
    (indent_text n ++ (codes "}" ++ text (else_pieces reject n)))))))
if_text e accept reject n = simp text-append

pub else_text : (body : Statements) (n : ℕ) →
    text (else_pieces (SomeBlock body) n)
    ≡ codes " else {\n" ++ (text (statements_pieces body (suc n)) ++ (indent_text n ++ codes "}\n"))
else_text body n = simp text-append

pub loop_text : (body : Statements) (rest : OptionalBlock) (n : ℕ) →
    text (statement_pieces (Loop body rest) n) ≡ indent_text n ++
    (codes "loop {\n" ++
    (text (statements_pieces body (suc n)) ++
    (text (continuing_pieces rest (suc n)) ++ (indent_text n ++ codes "}\n"))))
loop_text body rest n = simp text-append

pub loop_break_if_text : (body rest : Statements) (e : Expression) (n : ℕ) →
    text (statement_pieces (LoopBreakIf body rest e) n) ≡ indent_text n ++
    (codes "loop {\n" ++
    (text (statements_pieces body (suc n)) ++
    (indent_text (suc n) ++
    (codes "continuing {\n" ++
    (text (statements_pieces rest (suc (suc n))) ++
    (indent_text (suc (suc n)) ++
    (codes "break if " ++
    (printed_expression e ++
    (codes ";\n" ++
    (indent_text (suc n) ++ (codes "}\n" ++ (indent_text n ++ codes "}\n"))))))))))))
loop_break_if_text body rest e n = simp text-append

pub continuing_text : (body : Statements) (n : ℕ) →
    text (continuing_pieces (SomeBlock body) n)
    ≡ indent_text n ++ (codes "continuing {\n" ++
    (text (statements_pieces body (suc n)) ++ (indent_text n ++ codes "}\n")))
continuing_text body n = simp text-append

pub switch_text : (e : Expression) (cases : Cases) (n : ℕ) →
    text (statement_pieces (Switch e cases) n) ≡ indent_text n ++
    (codes "switch " ++
    (printed_expression e ++
    (codes " {\n" ++ (text (cases_pieces cases (suc n)) ++ (indent_text n ++ codes "}\n")))))
switch_text e cases n = simp text-append

pub case_text : (case_values : CaseValues) (body : Statements) (more : Cases) (n : ℕ) →
    text (cases_pieces (Case case_values body more) n) ≡ indent_text n ++
    (text (case_pieces case_values) ++
    (codes " {\n" ++
    (text (statements_pieces body (suc n)) ++
    (indent_text n ++ (codes "}\n" ++ text (cases_pieces more n))))))
case_text case_values body more n = simp text-append

pub block_text : (body : Statements) (n : ℕ) → text (statement_pieces (Block body) n) ≡ indent_text n
    ++ (codes "{\n" ++ (text (statements_pieces body (suc n)) ++ (indent_text n ++ codes "}\n")))
block_text body n = simp text-append

pub then_text : (s : Statement) (more : Statements) (n : ℕ) → text (statements_pieces (Then s more) n)
    ≡ text (statement_pieces s n) ++ text (statements_pieces more n)
then_text s more n = simp text-append
