-- The texts of blocks and of choices, from what is written of them in turn.
-- Serves 10 contracts, `write_braces` among them.
use Rattle.std.proofs.Common.{cond, ◌≡◌, ℕ, ◌*◌, suc, true, false, List, [], ◌++◌, codes, replicate}
use Rattle.std.proofs.Common.{refl, ap, ◌∙◌, append_assoc}
use Rattle.naga_form.specs.Expressions.{value_form}
use Rattle.naga_form.specs.Statements.{lines_form, optional_form}
use Rattle.naga_ir.specs.StatementTree.{block, branch, BlockTree, no_statements, statement}
use Rattle.naga_ir.specs.StatementTree.{has_no_statements}
use Rattle.naga_words.specs.Output.{joined_texts}
use Rattle.shader_runs.specs.Scope.{Handles}
use Rattle.wgsl_text.proofs.Statements.{block_text as block_row_text, else_text as else_row_text}
use Rattle.wgsl_text.proofs.Statements.{if_text}
use Rattle.wgsl_text.specs.Reading.{printed_expression}
use Rattle.wgsl_text.specs.Statements.{NoStatements, Statements, statements_pieces}
use Rattle.wgsl_text.specs.Statements as tree
use Rattle.wgsl_text.specs.Text.{text}
use Rattle.naga_wgsl_fns.specs.FunctionText.{let_annotation, naming, source}
use Rattle.naga_wgsl_fns.specs.Statements.{around_text, block_text, braces_text, else_text}
use Rattle.naga_wgsl_fns.specs.Statements.{line_start, lines_text, named_following, statement_text}
use Rattle.naga_wgsl_fns.specs.declared.functions.FunctionText.{FunctionText}
use Rattle.naga_wgsl_fns.proofs.StatementRows.{indentation_row, one_line}

pub braces_row : (i : ℕ) (start body : List ℕ) → braces_text i start body ≡ joined_texts (line_start i start)
    (joined_texts body (line_start i (codes "}\n")))
unfolding braces_text joined_texts
braces_row i start body = refl

-- braces, by the blanks in front of their lines
pub braces_lines : (i : ℕ) (start body : List ℕ) →
    replicate (4 * i) 32 ++ (start ++ (body ++ (replicate (4 * i) 32 ++ codes "}\n"))) ≡ braces_text i start body
unfolding braces_text line_start
braces_lines i start body = simp (append_assoc, indentation_row)

pub block_row : (f : FunctionText) (k : ℕ) (s : Handles) (i : ℕ) (b : BlockTree)
    → statement_text f k s i (block b) ≡ braces_text i (codes "{\n") (block_text f k s (suc i) b)
unfolding statement_text block_text
block_row f k s i b =
    let lines = lines_form (naming f) (let_annotation f) (source f) k b s in
    one_line (tree.Block lines) i ∙ (block_row_text lines i ∙ braces_lines i (codes "{\n")
    (text (statements_pieces lines (suc i))))

-- ---- choices
pub else_row : (i : ℕ) (body : List ℕ) → else_text i false body ≡ joined_texts (line_start i (codes "} else {\n")) body
unfolding else_text joined_texts
else_row i body = refl

pub no_else : (i : ℕ) (body : List ℕ) → else_text i true body ≡ []
unfolding else_text
no_else i body = refl

if_lines : (i : ℕ) (c a b : List ℕ)
    → replicate (4 * i) 32
    ++ (codes "if "
    ++ (c ++ (codes " {\n"
    ++ (a ++ (replicate (4 * i) 32
    ++ (codes "}" ++ (codes " else {\n" ++ (b ++ (replicate (4 * i) 32 ++ codes "}\n")))))))))
    ≡ (line_start i (codes "if ") ++ (c ++ codes " {\n"))
    ++ (a ++ ((line_start i (codes "} else {\n") ++ b) ++ line_start i (codes "}\n")))
unfolding line_start
if_lines i c a b = simp (append_assoc, indentation_row)

if_lines_alone : (i : ℕ) (c a : List ℕ)
    → replicate (4 * i) 32 ++ (codes "if " ++ (c ++ (codes " {\n" ++ (a ++ (replicate (4 * i) 32 ++ codes "}\n")))))
    ≡ (line_start i (codes "if ") ++ (c ++ codes " {\n")) ++ (a ++ line_start i (codes "}\n"))
unfolding line_start
if_lines_alone i c a = simp (append_assoc, indentation_row)

pub if_row : (f : FunctionText) (k : ℕ) (s : Handles) (i c : ℕ) (a r : BlockTree)
    → statement_text f k s i (branch c a r) ≡ joined_texts (around_text f s i (codes "if ") c (codes " {\n"))
    (joined_texts (block_text f k s (suc i) a)
    (joined_texts (else_text i (has_no_statements r) (block_text f (named_following f a k) s (suc i) r))
    (line_start i (codes "}\n"))))
unfolding statement_text block_text around_text else_text joined_texts
if_row f k s i c a r = by r
  where
    accept_form : Statements
    accept_form = lines_form (naming f) (let_annotation f) (source f) k a s

    rejected : BlockTree → Statements
    rejected r = lines_form (naming f) (let_annotation f) (source f) (named_following f a k) r s

    condition : List ℕ
    condition = printed_expression (value_form (naming f) (source f) s c)

    by : (r : BlockTree) →
        lines_text i (tree.Then (tree.If (value_form (naming f) (source f) s c) accept_form
        (optional_form r (rejected r))) NoStatements) ≡
        (line_start i (codes "if ") ++ (condition ++ codes " {\n")) ++ (text (statements_pieces accept_form (suc i)) ++
        ((cond (has_no_statements r) [] (line_start i (codes "} else {\n")
        ++ text (statements_pieces (rejected r) (suc i)))) ++ line_start i (codes "}\n")))
    by no_statements =
        one_line (tree.If (value_form (naming f) (source f) s c) accept_form tree.NoBlock) i
        ∙ (if_text (value_form (naming f) (source f) s c) accept_form tree.NoBlock i
        ∙ if_lines_alone i condition (text (statements_pieces accept_form (suc i))))
    by (statement st b) =
        let other = rejected (statement st b) in
        one_line (tree.If (value_form (naming f) (source f) s c) accept_form (tree.SomeBlock other)) i
        ∙ (if_text (value_form (naming f) (source f) s c) accept_form (tree.SomeBlock other) i
        ∙ (ap (λ t. replicate (4 * i) 32
        ++ (codes "if "
        ++ (condition
        ++ (codes " {\n" ++ (text (statements_pieces accept_form (suc i))
        ++ (replicate (4 * i) 32 ++ (codes "}" ++ t)))))))
        (else_row_text other i)
        ∙ if_lines i condition (text (statements_pieces accept_form (suc i))) (text (statements_pieces other (suc i)))))
