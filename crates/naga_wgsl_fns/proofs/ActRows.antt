-- The texts of statements that ask for something, and of barriers, from what is written of them in turn.
-- Serves 5 contracts, `write_barrier` among them.
use Rattle.std.proofs.Common.{◌≡◌, ℕ, ◌*◌, Bool, true, false, List, [], ◌++◌, codes, replicate}
use Rattle.std.proofs.Common.{Option, Some, None, refl, sym, ap, ◌∙◌, append_assoc}
use Rattle.std.proofs.lemmas.List.{append-nil}
use Rattle.naga_back.specs.Indentation.{indentation}
use Rattle.module_semantics.specs.Names.{numbered_name}
use Rattle.module_semantics.specs.StatementShapes.{is_set}
use Rattle.naga_form.specs.Expressions.{value_forms}
use Rattle.naga_form.specs.Statements.{act_line, barrier_lines, let_form}
use Rattle.naga_ir.specs.StatementTree.{simple, control_barrier, memory_barrier}
use Rattle.naga_ir.specs.declared.flags.Barrier.{Barrier}
use Rattle.naga_scope.specs.declared.points.Availability.{Availability}
use Rattle.naga_words.specs.Output.{joined_texts}
use Rattle.shader_runs.specs.ProgramRun.{word_if}
use Rattle.shader_runs.specs.Scope.{Handles}
use Rattle.wgsl_text.proofs.Expressions.{call_text}
use Rattle.wgsl_text.proofs.Statements.{call_statement_text, let_text as let_row_text, then_text, typed_let_text}
use Rattle.wgsl_text.proofs.Types.{named_text}
use Rattle.wgsl_text.specs.Expressions.{Arguments, Call, NoArguments, arguments_pieces, operands}
use Rattle.wgsl_text.specs.Reading.{printed_type}
use Rattle.wgsl_text.specs.Statements.{NoStatements, CallStatement}
use Rattle.wgsl_text.specs.Text.{text}
use Rattle.wgsl_text.specs.Types.{Named, TypeSpecifier}
use Rattle.naga_wgsl_fns.specs.Expressions.{form_at, operands_left}
use Rattle.naga_wgsl_fns.specs.FunctionText.{handles_in, let_annotation, naming}
use Rattle.naga_wgsl_fns.specs.Statements.{act_text, barrier_text, barriers_text, line_start}
use Rattle.naga_wgsl_fns.specs.Statements.{line_text, lines_text, outcome_text, statement_text}
use Rattle.naga_wgsl_fns.specs.Types.{annotation_if, let_annotation_text}
use Rattle.naga_wgsl_fns.specs.declared.functions.FunctionText.{FunctionText}
use Rattle.naga_wgsl_fns.proofs.StatementRows.{indentation_row}

-- ---- acts
pub outcome_row : (f : FunctionText) (h : ℕ) → outcome_text f (Some h) ≡ joined_texts (codes "let ")
    (joined_texts (numbered_name h) (joined_texts (let_annotation_text f h) (codes " = ")))
unfolding outcome_text joined_texts
outcome_row f h = refl

pub no_outcome : (f : FunctionText) → outcome_text f None ≡ []
unfolding outcome_text
no_outcome f = refl

call_lines : (i : ℕ) (word xs : List ℕ) → replicate (4 * i) 32 ++ (word ++ (codes "(" ++ (xs ++ codes ";\n")))
    ≡ indentation i ++ ([] ++ (word ++ (codes "(" ++ (xs ++ codes ";\n"))))
call_lines i word xs = simp indentation_row

let_lines : (i : ℕ) (name ty word xs : List ℕ)
    → replicate (4 * i) 32
    ++ (codes "let " ++ (name ++ (ty ++ (codes " = " ++ ((word ++ (codes "(" ++ xs)) ++ codes ";\n")))))
    ≡ indentation i ++ ((codes "let " ++ (name ++ (ty ++ codes " = "))) ++ (word ++ (codes "(" ++ (xs ++ codes ";\n"))))
let_lines i name ty word xs = simp (append_assoc, indentation_row)

pub act_row : (f : FunctionText) (table : List Availability) (i : ℕ) (word xs : List ℕ) (outcome : Option ℕ)
    → act_text f (handles_in f table) i word xs outcome ≡ joined_texts (indentation i)
    (joined_texts (outcome_text f outcome)
    (joined_texts word (joined_texts (codes "(") (joined_texts (operands_left f table true xs) (codes ";\n")))))
unfolding act_text outcome_text let_annotation_text joined_texts
act_row f table i word xs outcome = by outcome
  where
    args : Arguments
    args = operands (value_forms (form_at f table) xs)

    called : List ℕ
    called = text (arguments_pieces args)

    named : (h : ℕ) (t : Option TypeSpecifier) → line_text i (let_form t (numbered_name h) (Call (Named word) args)) ≡
        indentation i ++ ((codes "let " ++ (numbered_name h ++ (annotation_if t ++ codes " = ")))
        ++ (word ++ (codes "(" ++ (called ++ codes ";\n"))))
    named h None =
        let_row_text (numbered_name h) (Call (Named word) args) i
        ∙ (ap (λ t. replicate (4 * i) 32 ++ (codes "let " ++ (numbered_name h ++ (codes " = " ++ (t ++ codes ";\n")))))
        (call_text (Named word) args ∙ ap (λ w. w ++ (codes "(" ++ called)) (named_text word))
        ∙ let_lines i (numbered_name h) [] word called)
    named h (Some t) =
        typed_let_text (numbered_name h) t (Call (Named word) args) i
        ∙ (ap (λ u. replicate (4 * i) 32
        ++ (codes "let "
        ++ (numbered_name h ++ (codes ": " ++ (printed_type t ++ (codes " = " ++ (u ++ codes ";\n")))))))
        (call_text (Named word) args ∙ ap (λ w. w ++ (codes "(" ++ called)) (named_text word))
        ∙ let_lines i (numbered_name h) (codes ": " ++ printed_type t) word called)

    by : (outcome : Option ℕ) → line_text i (act_line (naming f) (let_annotation f) word args outcome)
        ≡ indentation i ++ (outcome_text f outcome ++ (word ++ (codes "(" ++ (called ++ codes ";\n"))))
    by None =
        call_statement_text (Named word) args i
        ∙ (ap (λ w. replicate (4 * i) 32 ++ (w ++ (codes "(" ++ (called ++ codes ";\n")))) (named_text word)
        ∙ call_lines i word called)
    by (Some h) = named h (let_annotation f h)

-- ---- barriers
pub control_row : (f : FunctionText) (k : ℕ) (s : Handles) (i : ℕ) (flags : Barrier) → barriers_text i flags
    ≡ statement_text f k s i (simple (control_barrier flags))
unfolding statement_text barriers_text
control_row f k s i flags = refl

pub memory_row : (f : FunctionText) (k : ℕ) (s : Handles) (i : ℕ) (flags : Barrier) → barriers_text i flags
    ≡ statement_text f k s i (simple (memory_barrier flags))
unfolding statement_text barriers_text
memory_row f k s i flags = refl

-- one kind in front of others
barrier_then : (i : ℕ) (b : Bool) (word : List ℕ) (words : List (List ℕ))
    → lines_text i (barrier_lines (word_if b word words) NoStatements)
    ≡ barrier_text i b (word ++ codes "();\n") ++ lines_text i (barrier_lines words NoStatements)
unfolding barrier_text line_start
barrier_then i false word words = refl
barrier_then i true word words =
    let more = lines_text i (barrier_lines words NoStatements) in
    then_text (CallStatement (Named word) NoArguments) (barrier_lines words NoStatements) i
    ∙ ap (λ t. t ++ more)
    (call_statement_text (Named word) NoArguments i
    ∙ (ap (λ w. replicate (4 * i) 32 ++ (w ++ codes "();\n")) (named_text word)
    ∙ ap (λ t. t ++ (word ++ codes "();\n")) (sym (indentation_row i))))

pub barriers_row : (i : ℕ) (flags : Barrier)
    → barriers_text i flags ≡ joined_texts (barrier_text i (is_set 1 flags) (codes "storageBarrier();\n"))
    (joined_texts (barrier_text i (is_set 2 flags) (codes "workgroupBarrier();\n"))
    (joined_texts (barrier_text i (is_set 4 flags) (codes "subgroupBarrier();\n"))
    (barrier_text i (is_set 8 flags) (codes "textureBarrier();\n"))))
unfolding barriers_text joined_texts
barriers_row i flags =
    barrier_then i (is_set 1 flags) (codes "storageBarrier") _
    ∙ ap (λ t. barrier_text i (is_set 1 flags) (codes "storageBarrier();\n") ++ t)
    (barrier_then i (is_set 2 flags) (codes "workgroupBarrier") _
    ∙ ap (λ t. barrier_text i (is_set 2 flags) (codes "workgroupBarrier();\n") ++ t)
    (barrier_then i (is_set 4 flags) (codes "subgroupBarrier") _
    ∙ ap (λ t. barrier_text i (is_set 4 flags) (codes "subgroupBarrier();\n") ++ t)
    (barrier_then i (is_set 8 flags) (codes "textureBarrier") []
    ∙ append-nil (barrier_text i (is_set 8 flags) (codes "textureBarrier();\n")))))
