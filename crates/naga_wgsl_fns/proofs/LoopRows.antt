-- The texts of loops, from what is written of them in turn, and what a loop's body leaves.
-- Serves 6 contracts, `write_break_if` among them.
use Rattle.std.proofs.Common.{cond, ◌≡◌, ℕ, ◌*◌, suc, Bool, true, false, List, [], ◌++◌, codes}
use Rattle.std.proofs.Common.{replicate, Option, Some, None, refl, sym, ap, ◌∙◌, append_assoc}
use Rattle.std.specs.Option.{option_map}
use Rattle.naga_form.specs.Expressions.{value_form}
use Rattle.naga_form.specs.Statements.{lines_form, loop_form, optional_form}
use Rattle.naga_ir.specs.StatementTree.{StatementTree, loop, BlockTree, no_statements, statement}
use Rattle.naga_ir.specs.StatementTree.{has_no_statements}
use Rattle.naga_words.specs.Output.{joined_texts}
use Rattle.shader_runs.specs.Scope.{Handles}
use Rattle.wgsl_text.proofs.Statements.{continuing_text as continuing_row_text, loop_text}
use Rattle.wgsl_text.proofs.Statements.{loop_break_if_text}
use Rattle.wgsl_text.specs.Expressions.{Expression}
use Rattle.wgsl_text.specs.Reading.{printed_expression}
use Rattle.wgsl_text.specs.Statements.{NoStatements, Statements, continuing_pieces}
use Rattle.wgsl_text.specs.Statements.{statements_pieces}
use Rattle.wgsl_text.specs.Statements as tree
use Rattle.wgsl_text.specs.Text.{text}
use Rattle.naga_scope.specs.Continues.{before_continue, from_continue, holds_continue}
use Rattle.naga_wgsl_fns.specs.FunctionText.{let_annotation, naming, source}
use Rattle.naga_wgsl_fns.specs.Statements.{after_statement, after_statements, around_text}
use Rattle.naga_wgsl_fns.specs.Statements.{block_text, braces_text, continuing_text, last_text}
use Rattle.naga_wgsl_fns.specs.Statements.{left_to_continuing, line_start, lines_text}
use Rattle.naga_wgsl_fns.specs.Statements.{named_following, named_after_statement, statement_text}
use Rattle.naga_wgsl_fns.specs.Statements.{turn_text}
use Rattle.naga_wgsl_fns.specs.declared.functions.FunctionText.{FunctionText}
use Rattle.naga_wgsl_fns.proofs.BlockRows.{braces_lines}
use Rattle.naga_wgsl_fns.proofs.StatementRows.{block_row as statements_row, indentation_row}
use Rattle.naga_wgsl_fns.proofs.StatementRows.{no_lines, one_line}

pub turn_row : (f : FunctionText) (k : ℕ) (s : Handles) (i : ℕ) (b c : BlockTree) (e : Option ℕ)
    → turn_text f k s i b c e ≡ joined_texts (block_text f k s i b)
    (continuing_text f (named_following f b k) (left_to_continuing f k b s) i c e)
unfolding turn_text joined_texts
turn_row f k s i b c e = refl

-- ---- what stands last
pub last_row : (f : FunctionText) (k : ℕ) (s : Handles) (i : ℕ) (b : BlockTree) (h : ℕ)
    → last_text f k s i b h ≡ joined_texts (block_text f k s i b)
    (around_text f (left_to_continuing f k b s) i (codes "break if ") h (codes ";\n"))
unfolding last_text joined_texts
last_row f k s i b h = refl

pub break_if_row : (f : FunctionText) (k : ℕ) (s : Handles) (i : ℕ) (b : BlockTree) (h : ℕ)
    → continuing_text f k s i b (Some h) ≡ joined_texts (line_start i (codes "continuing {\n"))
    (joined_texts (last_text f k s (suc i) b h) (line_start i (codes "}\n")))
unfolding continuing_text braces_text joined_texts
break_if_row f k s i b h = refl

pub no_continuing : (f : FunctionText) (k : ℕ) (s : Handles) (i : ℕ) (b : BlockTree) → has_no_statements b
    ≡ true → continuing_text f k s i b None ≡ []
unfolding continuing_text
no_continuing f k s i b none =
    ap (λ empty. cond empty [] (braces_text i (codes "continuing {\n") (block_text f k s (suc i) b))) none

pub continuing_row : (f : FunctionText) (k : ℕ) (s : Handles) (i : ℕ) (b : BlockTree) → has_no_statements b ≡ false
    → continuing_text f k s i b None ≡ braces_text i (codes "continuing {\n") (block_text f k s (suc i) b)
unfolding continuing_text
continuing_row f k s i b some =
    ap (λ empty. cond empty [] (braces_text i (codes "continuing {\n") (block_text f k s (suc i) b))) some

-- ---- whole loops
plain_lines : (i : ℕ) (b c : List ℕ) →
    replicate (4 * i) 32 ++ (codes "loop {\n" ++ (b ++ (c ++ (replicate (4 * i) 32 ++ codes "}\n"))))
    ≡ line_start i (codes "loop {\n") ++ ((b ++ c) ++ line_start i (codes "}\n"))
unfolding line_start
plain_lines i b c = simp (append_assoc, indentation_row)

break_if_lines : (i j n : ℕ) (b c e : List ℕ)
    → replicate (4 * i) 32 ++ (codes "loop {\n"
    ++ (b ++ (replicate (4 * j) 32 ++ (codes "continuing {\n"
    ++ (c ++ (replicate (4 * n) 32 ++ (codes "break if " ++ (e ++ (codes ";\n" ++
    (replicate (4 * j) 32 ++ (codes "}\n" ++ (replicate (4 * i) 32 ++ codes "}\n"))))))))))))
    ≡ line_start i (codes "loop {\n")
    ++ ((b ++ braces_text j (codes "continuing {\n")
    (c ++ (line_start n (codes "break if ") ++ (e ++ codes ";\n")))) ++ line_start i (codes "}\n"))
unfolding line_start braces_text
break_if_lines i j n b c e = simp (append_assoc, indentation_row)

pub loop_row : (f : FunctionText) (k : ℕ) (s : Handles) (i : ℕ) (b c : BlockTree) (e : Option ℕ)
    → statement_text f k s i (loop b c e) ≡ joined_texts (line_start i (codes "loop {\n"))
    (joined_texts (turn_text f k s (suc i) b c e) (line_start i (codes "}\n")))
unfolding statement_text block_text turn_text continuing_text last_text around_text joined_texts
loop_row f k s i b c e = by c e
  where
    following : ℕ
    following = named_following f b k

    inside : Handles
    inside = left_to_continuing f k b s

    body : Statements
    body = lines_form (naming f) (let_annotation f) (source f) k b s

    next : BlockTree → Statements
    next c = lines_form (naming f) (let_annotation f) (source f) following c inside

    ends : BlockTree → ℕ → Expression
    ends c h = value_form (naming f) (source f) (left_to_continuing f following c inside) h

    without : (c : BlockTree) → text (continuing_pieces (optional_form c (next c)) (suc i))
        ≡ continuing_text f following inside (suc i) c None
    without no_statements = refl
    without (statement st rest) =
        let lines = next (statement st rest) in
        continuing_row_text lines (suc i) ∙ braces_lines (suc i) (codes "continuing {\n")
        (text (statements_pieces lines (suc (suc i))))

    by : (c : BlockTree) (e : Option ℕ) →
        lines_text i (tree.Then (loop_form body c (next c) (option_map (ends c) e)) NoStatements) ≡
        line_start i (codes "loop {\n")
        ++ ((text (statements_pieces body (suc i)) ++ continuing_text f following inside (suc i) c e)
        ++ line_start i (codes "}\n"))
    by c None =
        one_line (tree.Loop body (optional_form c (next c))) i
        ∙ (loop_text body (optional_form c (next c)) i
        ∙ (ap (λ t. replicate (4 * i) 32 ++ (codes "loop {\n"
        ++ (text (statements_pieces body (suc i)) ++ (t ++ (replicate (4 * i) 32 ++ codes "}\n"))))) (without c)
        ∙ plain_lines i (text (statements_pieces body (suc i))) (continuing_text f following inside (suc i) c None)))
    by c (Some h) =
        one_line (tree.LoopBreakIf body (next c) (ends c h)) i
        ∙ (loop_break_if_text body (next c) (ends c h) i
        ∙ break_if_lines i (suc i) (suc (suc i)) (text (statements_pieces body (suc i)))
        (text (statements_pieces (next c) (suc (suc i)))) (printed_expression (ends c h)))

-- ---- a body in two parts
-- by whether its first statement holds a `continue`
parts_by : (f : FunctionText) (b : Bool) (st : StatementTree) (rest : BlockTree) (k k1 : ℕ) (s s1 : Handles)
    (i : ℕ) → k1 ≡ named_after_statement f st k → s1 ≡ after_statement f k st s →
    block_text f k1 s1 i rest ≡
    block_text f k1 s1 i (before_continue rest) ++
    block_text f (named_following f (before_continue rest) k1) (after_statements f k1 (before_continue rest) s1)
    i (from_continue rest) →
    block_text f k s i (statement st rest) ≡
    block_text f k s i (cond b no_statements (statement st (before_continue rest))) ++
    block_text f (named_following f (cond b no_statements (statement st (before_continue rest))) k)
    (after_statements f k (cond b no_statements (statement st (before_continue rest))) s) i
    (cond b (statement st rest) (from_continue rest))
unfolding joined_texts
parts_by f true st rest k k1 s s1 i given following more =
    sym (ap (λ t. t ++ block_text f k s i (statement st rest)) (no_lines f k s i))
parts_by f false st rest k k1 s s1 i given following more =
    let left = λ (k1 : ℕ) (s1 : Handles). block_text f (named_following f (before_continue rest) k1)
    (after_statements f k1 (before_continue rest) s1) i (from_continue rest) in
    let first = statement_text f k s i st in
    let second = block_text f k1 s1 i (before_continue rest) in
    statements_row f k k1 s s1 i st rest given following
    ∙ (ap (λ t. first ++ t) more
    ∙ (sym (append_assoc first second (left k1 s1))
    ∙ (ap (λ t. t ++ left k1 s1) (sym (statements_row f k k1 s s1 i st (before_continue rest) given following))
    ∙ (λ j. block_text f k s i (statement st (before_continue rest)) ++ left (given j) (following j)))))

parts : (f : FunctionText) (b : BlockTree) (k : ℕ) (s : Handles) (i : ℕ) → block_text f k s i b ≡
    block_text f k s i (before_continue b) ++ block_text f (named_following f (before_continue b) k)
    (after_statements f k (before_continue b) s) i (from_continue b)
parts f no_statements k s i = sym (ap (λ t. t ++ block_text f k s i no_statements) (no_lines f k s i))
parts f (statement st b) k s i =
    let k1 = named_after_statement f st k in
    let s1 = after_statement f k st s in
    parts_by f (holds_continue st) st b k k1 s s1 i refl refl (parts f b k1 s1 i)

pub body_row : (f : FunctionText) (b front back : BlockTree) (k k1 : ℕ) (s s1 : Handles) (i : ℕ)
    → front ≡ before_continue b → back ≡ from_continue b → k1 ≡ named_following f front k →
    s1 ≡ after_statements f k front s
    → block_text f k s i b ≡ joined_texts (block_text f k s i front) (block_text f k1 s1 i back)
unfolding joined_texts
body_row f b front back k k1 s s1 i first rest given following =
    parts f b k s i
    ∙ (λ j. block_text f k s i (sym first j) ++ block_text f (named_following f (sym first j) k)
    (after_statements f k (sym first j) s) i (sym rest j))
    ∙ (λ j. block_text f k s i front ++ block_text f (sym given j) (sym following j) i back)
