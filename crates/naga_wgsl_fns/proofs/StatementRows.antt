-- The texts of statements, from what is written of them in turn.
-- Serves 32 contracts, `write_lines` among them.
use Rattle.module_semantics.specs.Written.{statement_handles}
use Rattle.naga_scope.specs.Changes.{statement_changes}
use Rattle.naga_ir.specs.StatementTree.{call, SimpleStatement, BlockTree, StatementTree, emit}
use Rattle.naga_ir.specs.StatementTree.{return, simple, statement, store, block, branch, switch}
use Rattle.naga_ir.specs.StatementTree.{loop, no_statements}
use Rattle.naga_ir.specs.declared.flags.Barrier.{Barrier}
use Rattle.module_semantics.specs.StatementShapes.{simple_shape, store_shape}
use Rattle.wgsl_text.specs.Expressions.{NoArguments, Expression, expression_pieces, operands}
use Rattle.shader_runs.specs.Scope.{after, after_result, named_by, Handles, after_emit, after_one}
use Rattle.shader_runs.specs.Scope.{bound_name, named_after, named_after_all}
use Rattle.naga_ir.specs.Operands.{own_operands, own_result}
use Rattle.module_semantics.specs.ExpressionOperators.{ExpressionContext, is_atomic_pointer}
use Rattle.std.proofs.Common.{◌≡◌, ℕ, ◌+◌, ◌-◌, ◌<◌, ◌≤◌, ◌*◌, zero, suc, Bool, true, false, List}
use Rattle.std.proofs.Common.{[], ◌∷◌, ◌++◌, Option, None, Some, length, refl, sym, ap, ◌∙◌, arith}
use Rattle.std.proofs.Common.{codes, replicate, drop, slice_index_or, append_assoc, IsTrue}
use Rattle.std.specs.Prelude.{cond, nat_le}
use Rattle.std.proofs.lemmas.Bool.{and_parts, leb-true}
use Rattle.std.proofs.lemmas.List.{append-nil, drop_all}
use Rattle.std.specs.Option.{option_map, option_to_list}
use Rattle.naga_ir.specs.StatementViews.{tree_of, block_of}
use Rattle.naga_ir.specs.declared.statement.Statement.{Statement}
use Rattle.naga_back.specs.Indentation.{indentation}
use Rattle.naga_ir.proofs.Listed.{first_of}
use Rattle.module_semantics.specs.acceptance.Ranges.{named_in_range, statement_in_range}
use Rattle.shader_runs.specs.Program as shapes
use Rattle.shader_runs.specs.Program.{binds, from}
use Rattle.shader_runs.specs.Form.{word_of}
use Rattle.shader_runs.specs.ProgramRun.{barrier_words}
use Rattle.module_semantics.specs.FunctionShapes.{statement_shape}
use Rattle.wgsl_text.specs.Types.{TypeSpecifier, Named as NamedType}
use Rattle.naga_form.specs.Expressions.{as_value, as_reference, plain_form, value_form, value_forms}
use Rattle.naga_form.specs.Expressions.{unnamed_form}
use Rattle.wgsl_text.specs.Statements.{Statements, NoStatements, Then, CallStatement}
use Rattle.naga_form.specs.Statements.{act_line, barrier_lines, cases_form, let_form, then_if}
use Rattle.naga_form.specs.Statements.{lets_form, jump_form, loop_form, line_form, lines_form}
use Rattle.naga_form.specs.Statements.{optional_form, shape_form}
use Rattle.wgsl_text.proofs.Statements.{let_text as let_row_text, typed_let_text, assign_text}
use Rattle.wgsl_text.proofs.Statements.{return_text as return_row_text, then_text}
use Rattle.wgsl_text.specs.Statements as tree
use Rattle.naga_scope.specs.declared.points.Availability.{Availability}
use Rattle.naga_scope.proofs.Emitting.{range_more, range_none}
use Rattle.naga_words.specs.Output.{joined_texts}
use Rattle.wgsl_text.specs.Reading.{printed_type}
use Rattle.wgsl_text.specs.Text.{text}
use Rattle.naga_wgsl_fns.specs.declared.functions.FunctionText.{FunctionText}
use Rattle.naga_wgsl_fns.specs.FunctionText.{context, handles_in, let_annotation, naming, source}
use Rattle.naga_wgsl_fns.specs.Names.{next_name_text}
use Rattle.naga_wgsl_fns.specs.Expressions.{own_text, reference_text, value_text}
use Rattle.naga_wgsl_fns.specs.Statements.{after_statement, around_text, assignment_text}
use Rattle.naga_wgsl_fns.specs.Statements.{block_text, emitted_text, let_line, let_text, lets_text}
use Rattle.naga_wgsl_fns.specs.Statements.{left_to_continuing, line_start, line_text, lines_text}
use Rattle.naga_wgsl_fns.specs.Statements.{named_following, named_after_statement, act_text}
use Rattle.naga_wgsl_fns.specs.Statements.{act_word, is_act, statement_text, word_in}
use Rattle.naga_wgsl_fns.specs.Types.{let_annotation_text, annotation_if}

-- ---- lines
-- the blanks before a line
pub indentation_row : (n : ℕ) → indentation n ≡ replicate (4 * n) 32
indentation_row zero = refl
indentation_row (suc n) =
    let four : 4 * suc n ≡ suc (suc (suc (suc (4 * n)))) = omega arith
    in rw four (ap (λ t. codes "    " ++ t) (indentation_row n))

pub line_start_row : (i : ℕ) (words : List ℕ) → line_start i words ≡ joined_texts (indentation i) words
unfolding line_start joined_texts
line_start_row i words = refl

-- the start of a line in front of what follows
line_starts : (i : ℕ) (words rest : List ℕ) → joined_texts (line_start i words) rest ≡ replicate (4 * i) 32
    ++ (words ++ rest)
unfolding line_start joined_texts
line_starts i words rest = append_assoc (indentation i) words rest ∙ ap (λ t. t ++ (words ++ rest)) (indentation_row i)

-- a whole line
line_is : (i : ℕ) (words : List ℕ) → replicate (4 * i) 32 ++ words ≡ line_start i words
unfolding line_start
line_is i words = ap (λ t. t ++ words) (sym (indentation_row i))

pub one_line : (line : tree.Statement) (i : ℕ) → lines_text i (Then line NoStatements) ≡ line_text i line
one_line line i = then_text line NoStatements i ∙ append-nil (line_text i line)

-- ---- single lines
pub around_row : (f : FunctionText) (table : List Availability) (i : ℕ) (start : List ℕ) (value : ℕ) (end : List ℕ)
    → around_text f (handles_in f table) i start value end ≡ joined_texts (line_start i start)
    (joined_texts (value_text f table value) end)
unfolding around_text value_text joined_texts
around_row f table i start value end = refl

pub assignment_row : (f : FunctionText) (table : List Availability) (i pointer value : ℕ)
    → assignment_text f (handles_in f table) i pointer value ≡ joined_texts (indentation i)
    (joined_texts (reference_text f table pointer)
    (joined_texts (codes " = ") (joined_texts (value_text f table value) (codes ";\n"))))
unfolding assignment_text reference_text value_text joined_texts
assignment_row f table i pointer value =
    let operand = plain_form (naming f) (source f) (handles_in f table) in
    assign_text (as_reference (operand pointer)) (as_value (operand value)) i
    ∙ ap (λ t. t ++ (text (expression_pieces (as_reference (operand pointer)))
    ++ (codes " = " ++ (text (expression_pieces (as_value (operand value))) ++ codes ";\n"))))
    (sym (indentation_row i))

pub let_row : (f : FunctionText) (k : ℕ) (table : List Availability) (i handle : ℕ)
    → let_text f k (handles_in f table) i handle ≡ joined_texts (line_start i (codes "let "))
    (joined_texts (next_name_text f k handle)
    (joined_texts (let_annotation_text f handle)
    (joined_texts (codes " = ") (joined_texts (own_text f table handle) (codes ";\n")))))
unfolding let_text let_annotation_text own_text joined_texts next_name_text
let_row f k table i handle = by (let_annotation f handle)
  where
    own : Expression
    own = as_value (unnamed_form (naming f) (source f) (handles_in f table) handle)

    name : List ℕ
    name = bound_name (naming f) k handle

    by : (t : Option TypeSpecifier) → line_text i (let_form t name own) ≡ joined_texts
        (line_start i (codes "let "))
        (name ++ (annotation_if t ++
        (codes " = " ++ (text (expression_pieces own) ++ codes ";\n"))))
    by None =
        let_row_text name own i
        ∙ sym (line_starts i (codes "let ") (name ++ (codes " = " ++ (text (expression_pieces own) ++ codes ";\n"))))
    by (Some t) =
        typed_let_text name t own i
        ∙ sym (line_starts i (codes "let ")
        (name ++ ((codes ": " ++ printed_type t) ++ (codes " = " ++ (text (expression_pieces own) ++ codes ";\n")))))

-- ---- statements of one line
-- a jump that returns no value is written by its words alone
abbrev is_worded : shapes.Statement → Bool
is_worded (shapes.Jumps (shapes.Return (Some value))) = false
is_worded (shapes.Jumps j) = true
is_worded _ = false

abbrev jump_words : FunctionText → Handles → shapes.Statement → List ℕ
jump_words f s (shapes.Jumps j) = line_text 0 (jump_form (naming f) (source f) s j)
jump_words f s _ = []

pub jump_row : (f : FunctionText) (k : ℕ) (s : Handles) (i : ℕ) (st : SimpleStatement)
    → is_worded (simple_shape (context f) st) ≡ true
    → statement_text f k s i (simple st) ≡ line_start i (jump_words f s (simple_shape (context f) st))
unfolding statement_text
jump_row f k s i st worded = by (simple_shape (context f) st) worded
  where
    by : (shape : shapes.Statement) → is_worded shape ≡ true →
        lines_text i (shape_form (naming f) (let_annotation f) (source f) k shape s NoStatements)
        ≡ line_start i (jump_words f s shape)
    by (shapes.Jumps (shapes.Return (Some value))) worded = absurd cc
    by (shapes.Jumps j) worded = line_is i (line_text 0 (jump_form (naming f) (source f) s j))
    by _ worded = absurd cc

pub return_value_row : (f : FunctionText) (k : ℕ) (s : Handles) (i value : ℕ)
    → statement_text f k s i (simple (return (Some value))) ≡ around_text f s i (codes "return ") value (codes ";\n")
unfolding statement_text around_text joined_texts
return_value_row f k s i value =
    let form = value_form (naming f) (source f) s value in
    one_line (tree.ReturnValue form) i
    ∙ (return_row_text form i ∙ sym (line_starts i (codes "return ") (text (expression_pieces form) ++ codes ";\n")))

-- ---- statements without blocks, by what they do
abbrev shape_lines : FunctionText → ℕ → Handles → (i : ℕ) → shapes.Statement → Statements → List ℕ
shape_lines f k s i shape rest = lines_text i (shape_form (naming f) (let_annotation f) (source f) k shape s rest)

-- what asks for something
abbrev acts : shapes.Statement → Bool
acts (shapes.Act action xs outcome) = true
acts _ = false

abbrev operands_in : shapes.Statement → List ℕ
operands_in (shapes.Act action xs outcome) = xs
operands_in _ = []

abbrev outcome_in : shapes.Statement → Option ℕ
outcome_in (shapes.Act action xs outcome) = outcome
outcome_in _ = None

-- a statement that does so, with these operands and this result
record Asks (shape : shapes.Statement) (xs : List ℕ) (o : Option ℕ) : Type 0 where
  pub acts : IsTrue (acts shape)
  pub operands : operands_in shape ≡ xs
  pub outcome : outcome_in shape ≡ o

asks : (a : ExpressionContext) (st : StatementTree) → IsTrue (is_act st) →
    Asks (statement_shape a st) (own_operands st) (own_result st)
asks a (simple (call function arguments outcome)) act = record { acts = refl; operands = refl; outcome = refl }
asks a (simple s) act = record { acts = cc; operands = cc; outcome = cc }
asks a _ act = absurd cc

act_lines : (f : FunctionText) (k : ℕ) (s : Handles) (i : ℕ) (shape : shapes.Statement) → IsTrue (acts shape)
    → act_text f s i (word_in (naming f).names shape) (operands_in shape) (outcome_in shape)
    ≡ shape_lines f k s i shape NoStatements
unfolding act_text
act_lines f k s i (shapes.Act action xs outcome) act =
    sym (one_line (act_line (naming f) (let_annotation f) (word_of (naming f).names action)
    (operands (value_forms (plain_form (naming f) (source f) s) xs)) outcome) i)
act_lines f k s i _ act = absurd cc

pub act_is : (f : FunctionText) (k : ℕ) (s : Handles) (i : ℕ) (st : StatementTree) → IsTrue (is_act st)
    → act_text f s i (act_word f st) (own_operands st) (own_result st) ≡ statement_text f k s i st
unfolding statement_text
act_is f k s i (simple st) act =
    let shape = simple_shape (context f) st in
    let is = asks (context f) (simple st) act in
    (λ j. act_text f s i (word_in (naming f).names shape) (sym is.operands j) (sym is.outcome j))
    ∙ act_lines f k s i shape is.acts
act_is f k s i _ act = absurd cc

-- which leaves its result in scope, and no other name
shape_after : (f : FunctionText) (k : ℕ) (s : Handles) (shape : shapes.Statement) → IsTrue (acts shape) →
    after_result (naming f).names (outcome_in shape) s ≡ after (naming f) k shape s
shape_after f k s (shapes.Act action xs outcome) act = refl
shape_after f k s _ act = absurd cc

pub act_after : (f : FunctionText) (k : ℕ) (s : Handles) (st : StatementTree) → IsTrue (is_act st)
    → after_result (naming f).names (own_result st) s ≡ after_statement f k st s
act_after f k s st act =
    let is = asks (context f) st act in
    ap (λ o. after_result (naming f).names o s) (sym is.outcome)
    ∙ shape_after f k s (statement_shape (context f) st) is.acts

shape_named : (f : FunctionText) (k : ℕ) (shape : shapes.Statement) → IsTrue (acts shape) →
    named_by (naming f).function shape k ≡ k
shape_named f k (shapes.Act action xs outcome) act = refl
shape_named f k _ act = absurd cc

pub act_named : (f : FunctionText) (k : ℕ) (st : StatementTree) → IsTrue (is_act st) → named_after_statement f st k ≡ k
act_named f k st act = shape_named f k (statement_shape (context f) st) (asks (context f) st act).acts

pub act_changes : (st : StatementTree) → IsTrue (is_act st) → statement_changes st
    ≡ length (option_to_list (own_result st))
act_changes (simple (emit first last)) act = absurd cc
act_changes (simple _) act = refl
act_changes _ act = absurd cc

-- and writes its operands
pub act_handles : (binds : ℕ → Bool) (st : StatementTree) → IsTrue (is_act st) → statement_handles binds st
    ≡ own_operands st
act_handles binds (simple (emit first last)) act = absurd cc
act_handles binds (simple _) act = refl
act_handles binds _ act = absurd cc

-- ---- stores
pub store_to_atomic : (f : FunctionText) (k : ℕ) (s : Handles) (i pointer value : ℕ) →
    is_atomic_pointer (context f) pointer ≡ true
    → act_text f s i (codes "atomicStore") (pointer ∷ value ∷ []) None
    ≡ statement_text f k s i (simple (store pointer value))
unfolding statement_text act_text
store_to_atomic f k s i pointer value is =
    sym (ap (λ b. shape_lines f k s i (store_shape b pointer value) NoStatements) is
    ∙ one_line (act_line (naming f) (let_annotation f) (codes "atomicStore")
    (operands (value_forms (plain_form (naming f) (source f) s) (pointer ∷ value ∷ []))) None) i)

pub store_to_other : (f : FunctionText) (k : ℕ) (s : Handles) (i pointer value : ℕ) →
    is_atomic_pointer (context f) pointer ≡ false
    → assignment_text f s i pointer value ≡ statement_text f k s i (simple (store pointer value))
unfolding statement_text assignment_text
store_to_other f k s i pointer value is =
    sym (ap (λ b. shape_lines f k s i (store_shape b pointer value) NoStatements) is
    ∙ one_line (tree.Assign (as_reference (plain_form (naming f) (source f) s pointer))
    (value_form (naming f) (source f) s value)) i)

-- ---- the handles of an Emit
module _ (f : FunctionText) where
  abbrev lets_at : ℕ → List ℕ → Handles → Statements → Statements
  lets_at k hs s rest = lets_form (naming f) (let_annotation f) (source f) k hs s rest

  -- `let`s in front of what follows
  lets_then : (k : ℕ) (hs : List ℕ) (s : Handles) (rest : Statements) (i : ℕ)
      → lines_text i (lets_at k hs s rest) ≡ lines_text i (lets_at k hs s NoStatements) ++ lines_text i rest
  lets_then k [] s rest i = refl
  lets_then k (h ∷ hs) s rest i =
      by (binds (naming f).function h) (lets_then (named_after (naming f).function h k) hs
      (after_one (naming f) k h s) rest i)
    where
      following : Statements → Statements
      following rest = lets_at (named_after (naming f).function h k) hs (after_one (naming f) k h s) rest

      line : tree.Statement
      line = let_line f k s h

      by : (b : Bool) → lines_text i (following rest) ≡ lines_text i (following NoStatements) ++ lines_text i rest
          → lines_text i (then_if b line (following rest))
          ≡ lines_text i (then_if b line (following NoStatements)) ++ lines_text i rest
      by true more =
          then_text line (following rest) i
          ∙ (ap (λ t. line_text i line ++ t) more
          ∙ (sym (append_assoc (line_text i line) (lines_text i (following NoStatements)) (lines_text i rest))
          ∙ ap (λ t. t ++ lines_text i rest) (sym (then_text line (following NoStatements) i))))
      by false more = more

  pub emit_row : (k : ℕ) (s : Handles) (i first last : ℕ) → lets_text f k s i (from first (last - first))
      ≡ statement_text f k s i (simple (emit first last))
  unfolding lets_text statement_text
  emit_row k s i first last = refl

  -- a loop over a range: one more handle, and none
  pub lets_more : (k k1 : ℕ) (s s1 : Handles) (i index last handle : ℕ) → index < last → handle ≡ index
      → k1 ≡ named_after (naming f).function handle k → s1 ≡ after_one (naming f) k handle s
      → lets_text f k s i (from index (last - index)) ≡ joined_texts (emitted_text f k s i handle)
      (lets_text f k1 s1 i (from (index + 1) (last - (index + 1))))
  unfolding lets_text emitted_text let_text joined_texts
  lets_more k k1 s s1 i index last handle lt here given following =
      ap (λ hs. lets k hs s) (range_more index last lt ∙ ap (λ (h : ℕ). h ∷ rest) (sym here))
      ∙ (by (binds (naming f).function handle)
      ∙ (λ j. emitted_text f k s i handle ++ lets (sym given j) rest (sym following j)))
    where
      rest : List ℕ
      rest = from (index + 1) (last - (index + 1))

      lets : ℕ → List ℕ → Handles → List ℕ
      lets k hs s = lines_text i (lets_at k hs s NoStatements)

      more : Statements
      more = lets_at (named_after (naming f).function handle k) rest (after_one (naming f) k handle s) NoStatements

      by : (b : Bool) → lines_text i (then_if b (let_line f k s handle) more)
          ≡ cond b (line_text i (let_line f k s handle)) [] ++ lines_text i more
      by true = then_text (let_line f k s handle) more i
      by false = refl

  pub lets_none : (k : ℕ) (s : Handles) (i index last : ℕ) → last ≤ index →
      lets_text f k s i (from index (last - index)) ≡ []
  unfolding lets_text
  lets_none k s i index last past = ap (lets_text f k s i) (range_none index last past)

  -- what is in scope after it, and how many names are given
  pub emitted_after : (k k1 : ℕ) (s s1 : Handles) (index last handle : ℕ) → index < last → handle ≡ index
      → k1 ≡ named_after (naming f).function handle k → s1 ≡ after_one (naming f) k handle s
      → after_emit (naming f) k (from index (last - index)) s
      ≡ after_emit (naming f) k1 (from (index + 1) (last - (index + 1))) s1
  emitted_after k k1 s s1 index last handle lt here given following =
      let rest = from (index + 1) (last - (index + 1)) in
      ap (λ (hs : List ℕ). after_emit (naming f) k hs s)
      (range_more index last lt ∙ ap (λ (h : ℕ). h ∷ rest) (sym here))
      ∙ (λ j. after_emit (naming f) (sym given j) rest (sym following j))

  pub emitted_named : (k k1 index last handle : ℕ) → index < last → handle ≡ index →
      k1 ≡ named_after (naming f).function handle k
      → named_after_all (naming f).function (from index (last - index)) k ≡ named_after_all (naming f).function
      (from (index + 1) (last - (index + 1))) k1
  emitted_named k k1 index last handle lt here given =
      let rest = from (index + 1) (last - (index + 1)) in
      ap (λ (hs : List ℕ). named_after_all (naming f).function hs k)
      (range_more index last lt ∙ ap (λ (h : ℕ). h ∷ rest) (sym here))
      ∙ ap (named_after_all (naming f).function rest) (sym given)

  -- ---- statements in front of others
  one_then : (line : tree.Statement) (rest : Statements) (i : ℕ) → lines_text i (Then line rest)
      ≡ lines_text i (Then line NoStatements) ++ lines_text i rest
  one_then line rest i = then_text line rest i ∙ ap (λ t. t ++ lines_text i rest) (sym (one_line line i))

  barriers_then : (words : List (List ℕ)) (rest : Statements) (i : ℕ) → lines_text i (barrier_lines words rest)
      ≡ lines_text i (barrier_lines words NoStatements) ++ lines_text i rest
  barriers_then [] rest i = refl
  barriers_then (word ∷ words) rest i =
      let line = CallStatement (NamedType word) NoArguments in
      then_text line (barrier_lines words rest) i
      ∙ (ap (λ t. line_text i line ++ t) (barriers_then words rest i)
      ∙ (sym (append_assoc (line_text i line) (lines_text i (barrier_lines words NoStatements)) (lines_text i rest))
      ∙ ap (λ t. t ++ lines_text i rest) (sym (then_text line (barrier_lines words NoStatements) i))))

  shape_then : (k : ℕ) (shape : shapes.Statement) (s : Handles) (rest : Statements) (i : ℕ) →
      shape_lines f k s i shape rest ≡ shape_lines f k s i shape NoStatements ++ lines_text i rest
  shape_then k (shapes.Emit first count) s rest i = lets_then k (from first count) s rest i
  shape_then k (shapes.Store pointer value) s rest i =
      one_then (tree.Assign (as_reference (plain_form (naming f) (source f) s pointer))
      (value_form (naming f) (source f) s value)) rest i
  shape_then k (shapes.Act action xs outcome) s rest i =
      one_then (act_line (naming f) (let_annotation f) (word_of (naming f).names action)
      (operands (value_forms (plain_form (naming f) (source f) s) xs)) outcome) rest i
  shape_then k (shapes.Barrier bits) s rest i = barriers_then (barrier_words bits) rest i
  shape_then k (shapes.Jumps j) s rest i = one_then (jump_form (naming f) (source f) s j) rest i
  shape_then k _ s rest i = refl

  abbrev lines_at : ℕ → BlockTree → Handles → Statements
  lines_at k b s = lines_form (naming f) (let_annotation f) (source f) k b s

  abbrev operand_at : Handles → ℕ → Expression
  operand_at s h = value_form (naming f) (source f) s h

  abbrev line_at : ℕ → StatementTree → Handles → Statements → Statements
  line_at k st s rest = line_form (naming f) (let_annotation f) (source f) k st s rest

  line_then : (k : ℕ) (st : StatementTree) (s : Handles) (rest : Statements) (i : ℕ) →
      lines_text i (line_at k st s rest) ≡ lines_text i (line_at k st s NoStatements) ++ lines_text i rest
  line_then k (simple st) s rest i = shape_then k (simple_shape (context f) st) s rest i
  line_then k (block b) s rest i = one_then (tree.Block (lines_at k b s)) rest i
  line_then k (branch condition accept reject) s rest i =
      one_then (tree.If (operand_at s condition) (lines_at k accept s)
      (optional_form reject (lines_at (named_following f accept k) reject s))) rest i
  line_then k (switch selector cases) s rest i =
      one_then (tree.Switch (operand_at s selector)
      (cases_form (naming f) (let_annotation f) (source f) k [] cases s)) rest i
  line_then k (loop body continuing break_if) s rest i =
      let following = named_following f body k in
      let inside = left_to_continuing f k body s in
      let last = left_to_continuing f following continuing inside in
      one_then (loop_form (lines_at k body s) continuing (lines_at following continuing inside)
      (option_map (operand_at last) break_if)) rest i

  pub block_row : (k k1 : ℕ) (s s1 : Handles) (i : ℕ) (st : StatementTree) (rest : BlockTree) →
      k1 ≡ named_after_statement f st k → s1 ≡ after_statement f k st s
      → block_text f k s i (statement st rest) ≡ joined_texts (statement_text f k s i st) (block_text f k1 s1 i rest)
  unfolding block_text statement_text joined_texts
  block_row k k1 s s1 i st rest given following =
      line_then k st s (lines_at (named_after_statement f st k) rest (after_statement f k st s)) i
      ∙ (λ j. lines_text i (line_at k st s NoStatements) ++ lines_text i
      (lines_at (sym given j) rest (sym following j)))

  pub no_lines : (k : ℕ) (s : Handles) (i : ℕ) → block_text f k s i no_statements ≡ []
  unfolding block_text
  no_lines k s i = refl

-- ---- a loop over statements
-- one more, and none
pub lines_more : (f : FunctionText) (k k1 : ℕ) (s s1 : Handles) (i : ℕ) (items : List Statement) (n : ℕ)
    (item : Statement) → n < length items → item ≡ slice_index_or items n item
    → k1 ≡ named_after_statement f (tree_of item) k → s1 ≡ after_statement f k (tree_of item) s
    → block_text f k s i (block_of (drop n items)) ≡ joined_texts (statement_text f k s i (tree_of item))
    (block_text f k1 s1 i (block_of (drop (n + 1) items)))
lines_more f k k1 s s1 i items n item lt here given following =
    ap (block_text f k s i) (first_of items n item lt here) ∙ block_row f k k1 s s1 i (tree_of item)
    (block_of (drop (n + 1) items)) given following

pub lines_none : (f : FunctionText) (k : ℕ) (s : Handles) (i : ℕ) (items : List Statement) (n : ℕ) →
    length items ≤ n → block_text f k s i (block_of (drop n items)) ≡ []
lines_none f k s i items n past = ap (λ (ss : List Statement). block_text f k s i (block_of ss))
    (drop_all n items past) ∙ no_lines f k s i

-- ---- what is in range
pub emit_within : (callees expressions first last : ℕ) →
    IsTrue (statement_in_range callees expressions (simple (emit first last))) → last ≤ expressions
emit_within callees expressions first last range =
    leb-true last expressions (and_parts (nat_le first expressions) (nat_le last expressions)
    (and_parts (named_in_range callees expressions (emit first last)) _ range).0).1

pub ruleset lines = (lines_more, lines_none, first_of)
