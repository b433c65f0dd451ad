-- The words of statements ask for events where words that ask stand free, and each statement has
-- a form or words that no text has stand free too: acceptance takes statements for which WGSL has
-- no word.
use Rattle.std.proofs.Common.{◌≡◌, ℕ, ◌<◌, ◌≤◌, Bool, true, false, ◌&&◌, ◌||◌, List, [], Option}
use Rattle.std.proofs.Common.{Some, None, refl, sym, ◌∙◌, subst, arith, nat_lt, codes, not}
use Rattle.std.specs.Prelude.{unwrap_or}
use Rattle.std.specs.Option.{is_some, option_map_or}
use Rattle.std.proofs.lemmas.Bool.{and_parts, or_right, ltb-true}
use Rattle.naga_ir.specs.StatementTree.{SimpleStatement, control_barrier, memory_barrier, store}
use Rattle.naga_ir.specs.StatementTree.{call, StatementTree, simple, block, branch, switch, loop}
use Rattle.naga_ir.specs.StatementTree.{BlockTree, no_statements, statement, CaseTrees, no_cases}
use Rattle.naga_ir.specs.StatementTree.{case, has_no_statements}
use Rattle.wgsl_text.specs.Requests.{is_request}
use Rattle.module_semantics.specs.acceptance.Numbers.{case_value_fits_32_bits}
use Rattle.module_semantics.specs.ExpressionOperators.{ExpressionContext, is_atomic_pointer}
use Rattle.module_semantics.specs.FunctionShapes.{statement_shape, statements_shape, cases_shape}
use Rattle.module_semantics.specs.OperatorTable.{Operator, AtomicStore, Barrier, StorageOrdered}
use Rattle.module_semantics.specs.OperatorTable.{WorkgroupOrdered, SubgroupOrdered, TextureOrdered, asks}
use Rattle.module_semantics.specs.OperatorTable.{has_word, is_untyped, operator_word, own_word}
use Rattle.module_semantics.specs.OperatorTable.{run_word, TypeIsSound}
use Rattle.module_semantics.specs.acceptance.Ranges.{simple_in_range, statement_in_range}
use Rattle.module_semantics.specs.acceptance.Ranges.{block_in_range, cases_in_range, is_below}
use Rattle.module_semantics.specs.StatementShapes.{act_operator, asked, barrier_bits, simple_shape}
use Rattle.module_semantics.specs.StatementShapes.{store_shape}
use Rattle.module_semantics.specs.StatementForms.{simple_has_form, statement_has_form}
use Rattle.module_semantics.specs.StatementForms.{block_has_forms, cases_have_forms}
use Rattle.shader_runs.specs.Premises.{AsksBy, EachAsks, IsNoName}
use Rattle.shader_runs.specs.Program as shapes
use Rattle.shader_runs.specs.Program.{BarrierBits}
use Rattle.shader_runs.specs.ProgramRun.{barrier_words, word_if}
use Rattle.shader_runs.specs.Scope.{Naming}
use Rattle.shader_runs.specs.Value.{Bytes}
use Rattle.naga_form.proofs.operators.OperatorEvents.{asks_as_distinguished}
use Rattle.naga_form.proofs.operators.SoundOperators.{untyped_is_sound}
use Rattle.naga_form.proofs.statements.Regular.{IsWorded, AreWorded, CasesAreWorded}

-- ---- names
-- Each operator that asks for an event does so here, those with a word of WGSL or `all`, and no
-- name of the function hides it or a callee.
pub record AsksFreely (all : Bool) (p : shapes.Module) (f : Naming) : Type 0 where
  pub operators : (op : Operator) → (all || is_some (operator_word op)) ≡ true → asks op ≡ true →
      TypeIsSound op → AsksBy p f (run_word op)
  pub callees : (g : ℕ) → g < f.names.earlier → IsNoName p f (f.names.outer.function g)

-- so do those with a word where what asks for an event in a text does so here
pub asks_by_requests : (p : shapes.Module) (f : Naming) →
    ((w : Bytes) → is_request w ≡ true → AsksBy p f w) →
    ((g : ℕ) → g < f.names.earlier → IsNoName p f (f.names.outer.function g)) → AsksFreely false p f
asks_by_requests p f requests callees = record { operators = ask; callees = callees }
  where
    ask : (op : Operator) → is_some (operator_word op) ≡ true → asks op ≡ true → TypeIsSound op →
        AsksBy p f (run_word op)
    ask op has asking sound = by (operator_word op) refl has
      where
        by : (o : Option (List ℕ)) → operator_word op ≡ o → is_some o ≡ true →
            AsksBy p f (unwrap_or (operator_word op) (own_word op))
        by None at has = absurd cc
        by (Some w) at has =
            subst (λ o. AsksBy p f (unwrap_or o (own_word op))) (sym at)
            (requests w (asks_as_distinguished op w sound at ∙ asking))

-- what both of two parts have, or `all`, each has
each_part : (all a b : Bool) → (all || (a && b)) ≡ true → ((all || a) ≡ true) × ((all || b) ≡ true)
each_part true a b both = (refl, refl)
each_part false a b both = and_parts a b both

module _ (all : Bool) (p : shapes.Module) (f : Naming) (free : AsksFreely all p f) where
  -- an operator that has a word asks for an event
  word_asks : (op : Operator) → is_some (operator_word op) ≡ true → asks op ≡ true →
      TypeIsSound op → AsksBy p f (run_word op)
  word_asks op has = free.operators op (or_right all (is_some (operator_word op)) has)

  one_asks : (b : Bool) (w : Bytes) (ws : List Bytes) → AsksBy p f w → EachAsks p f ws →
      EachAsks p f (word_if b w ws)
  one_asks true w ws one more = (one, more)
  one_asks false w ws one more = more

  barriers_ask : (bits : BarrierBits) → EachAsks p f (barrier_words bits)
  barriers_ask bits =
      one_asks bits.storage (codes "storageBarrier") _
      (word_asks (Barrier true StorageOrdered) refl refl tt)
      (one_asks bits.work_group (codes "workgroupBarrier") _
      (word_asks (Barrier true WorkgroupOrdered) refl refl tt)
      (one_asks bits.sub_group (codes "subgroupBarrier") _
      (word_asks (Barrier true SubgroupOrdered) refl refl tt)
      (one_asks bits.texture (codes "textureBarrier") []
      (word_asks (Barrier true TextureOrdered) refl refl tt) tt)))

  -- an act that asks for an operator
  own_worded : (s : SimpleStatement) (o : Option Operator) →
      (all || option_map_or has_word o true) ≡ true →
      option_map_or (λ op. asks op && is_untyped op) o true ≡ true → IsWorded p f (asked o s)
  own_worded s None has is = tt
  own_worded s (Some op) has is =
      let both = and_parts (asks op) (is_untyped op) is in
      free.operators op has both.0 (untyped_is_sound op both.1)

  module _ (a : ExpressionContext) (count expressions : ℕ) (earlier : count ≤ f.names.earlier) where
    line_worded : (s : SimpleStatement) → simple_in_range count expressions s ≡ true →
        (all || simple_has_form s) ≡ true → IsWorded p f (simple_shape a s)
    line_worded (control_barrier flags) within has = barriers_ask (barrier_bits flags)
    line_worded (memory_barrier flags) within has = barriers_ask (barrier_bits flags)
    line_worded (store pointer value) within has = by (is_atomic_pointer a pointer)
      where
        by : (to_atomic : Bool) → IsWorded p f (store_shape to_atomic pointer value)
        by true = word_asks AtomicStore refl refl tt
        by false = tt
    line_worded (call function arguments outcome) within has =
        let lt = ltb-true function count (and_parts (nat_lt function count) _ within).0 in
        free.callees function (omega (arith, lt, earlier))
    line_worded s within has = own_worded s (act_operator s) has refl

    mutual
      statement_worded : (s : StatementTree) → statement_in_range count expressions s ≡ true →
          (all || statement_has_form s) ≡ true → IsWorded p f (statement_shape a s)
      statement_worded (simple s) within has = line_worded s within has
      statement_worded (block b) within has = worded b within has
      statement_worded (branch condition accept reject) within has =
          let ranges = and_parts (nat_lt condition expressions) _ within in
          let both =
          and_parts (block_in_range count expressions accept)
          (block_in_range count expressions reject) ranges.1 in
          let words = each_part all (block_has_forms accept) (block_has_forms reject) has in
          (worded accept both.0 words.0, worded reject both.1 words.1)
      statement_worded (switch selector cs) within has =
          cases_worded cs
          (and_parts (nat_lt selector expressions) (cases_in_range count expressions cs) within).1 has
      statement_worded (loop body continuing break_if) within has =
          let ranges = and_parts (block_in_range count expressions body) _ within in
          let both =
          and_parts (block_in_range count expressions continuing) (is_below expressions break_if)
          ranges.1 in
          let words = each_part all (block_has_forms body) (block_has_forms continuing) has in
          (worded body ranges.0 words.0, worded continuing both.0 words.1)

      -- all statements of a block
      pub worded : (b : BlockTree) → block_in_range count expressions b ≡ true →
          (all || block_has_forms b) ≡ true → AreWorded p f (statements_shape a b)
      worded no_statements within has = tt
      worded (statement s b) within has =
          let ranges =
          and_parts (statement_in_range count expressions s) (block_in_range count expressions b)
          within in
          let words = each_part all (statement_has_form s) (block_has_forms b) has in
          (statement_worded s ranges.0 words.0, worded b ranges.1 words.1)

      cases_worded : (cs : CaseTrees) → cases_in_range count expressions cs ≡ true →
          (all || cases_have_forms cs) ≡ true → CasesAreWorded p f (cases_shape a cs)
      cases_worded no_cases within has = tt
      cases_worded (case v b falls cs) within has =
          let ranges =
          and_parts (block_in_range count expressions b) (cases_in_range count expressions cs)
          (and_parts (case_value_fits_32_bits v) _ within).1 in
          let formed = each_part all (not falls || has_no_statements b)
          (block_has_forms b && cases_have_forms cs) has in
          let words = each_part all (block_has_forms b) (cases_have_forms cs) formed.1 in
          (worded b ranges.0 words.0, cases_worded cs ranges.1 words.1)
