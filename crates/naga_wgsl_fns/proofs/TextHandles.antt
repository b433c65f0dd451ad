-- The handles that a function's statements and locals write by themselves are in its text.
-- Serves `write_act_line`, `write_emit`, `write_local` and `write_statements`.
use Rattle.naga_form.proofs.statements.WrittenHandles.{all_among, written_are_closed}
use Rattle.module_semantics.specs.Written.{block_lets, simple_lets, IsWrittenIn, block_handles}
use Rattle.module_semantics.specs.Written.{cases_handles, simple_handles, statement_handles}
use Rattle.naga_wgsl_fns.specs.FunctionText.{CanWriteBlock, CanWriteStatement, AreLets, IsLet}
use Rattle.naga_wgsl_fns.specs.FunctionText.{AreInText, CanWrite, bound, callees}
use Rattle.std.proofs.Common.{subst, ap, sym, ◌∙◌, ◌≡◌, ℕ, suc, zero, ◌<◌, ◌≤◌, ◌+◌, ◌-◌, Bool}
use Rattle.std.proofs.Common.{true, false, List, [], ◌∷◌, ◌++◌, Option, Some, None, IsTrue, length}
use Rattle.std.proofs.Common.{arith, refl}
use Rattle.naga_ir.specs.Operands.{own_result, simple_result, simple_operands}
use Rattle.std.specs.Prelude.{◌&&◌, nat_lt, if◌then◌else◌, slice_get}
use Rattle.std.proofs.lemmas.Bool.{and_parts, ltb-true}
use Rattle.module_semantics.specs.acceptance.Numbers.{case_value_fits_32_bits}
use Rattle.module_semantics.specs.acceptance.Ranges.{all_below, block_in_range, cases_in_range}
use Rattle.module_semantics.specs.acceptance.Ranges.{is_below, statement_in_range}
use Rattle.naga_ir.specs.StatementTree.{SimpleStatement, emit, StatementTree, simple, block, branch}
use Rattle.naga_ir.specs.StatementTree.{switch, loop, BlockTree, no_statements, statement}
use Rattle.naga_ir.specs.StatementTree.{CaseTrees, no_cases, case}
use Rattle.naga_wgsl_fns.proofs.StatementRows.{emit_within}
use Rattle.std.specs.List.{AllByRecursion, filter}
use Rattle.std.specs.Option.{option_to_list}
use Rattle.naga_form.proofs.statements.AcceptedFunctions.{ranges_are}
use Rattle.naga_ir.specs.declared.module.LocalVariable.{LocalVariable}
use Rattle.shader_runs.specs.Program.{from}
use Rattle.naga_wgsl_fns.proofs.Preconditions.{first_within}
use Rattle.naga_wgsl_fns.specs.declared.functions.FunctionText.{FunctionText}
use Rattle.module_semantics.proofs.StatementRanges.{operands_below, result_below}

-- ---- the handles of an `Emit`
pub first_of : (P : ℕ → Type 0) (b : Bool) (h : ℕ) (hs : List ℕ) → AllByRecursion P (if b then h ∷ hs else hs) →
    IsTrue b → P h
first_of P true h hs are is = are.0
first_of P false h hs are is = absurd cc

pub others_of : (P : ℕ → Type 0) (b : Bool) (h : ℕ) (hs : List ℕ) →
    AllByRecursion P (if b then h ∷ hs else hs) → AllByRecursion P hs
others_of P true h hs are = are.1
others_of P false h hs are = are

-- ---- what is in range
abbrev AllWithin : ℕ → List ℕ → Type 0
AllWithin count hs = AllByRecursion (λ h. h < count) hs

filtered : (count : ℕ) (test : ℕ → Bool) (hs : List ℕ) → AllWithin count hs →
    AllWithin count (filter test hs)
filtered count test [] all = tt
filtered count test (h ∷ hs) all = by (test h) (filtered count test hs all.1)
  where
    by : (b : Bool) → AllWithin count (filter test hs) →
        AllWithin count (if b then h ∷ filter test hs else filter test hs)
    by true rest = (all.0, rest)
    by false rest = rest

ranged : (count first n : ℕ) → first + n ≤ count → AllWithin count (from first n)
ranged count first zero le = tt
ranged count first (suc n) le = (omega (arith, le), ranged count (suc first) n (omega (arith, le)))

both_within : (count : ℕ) (xs ys : List ℕ) → AllWithin count xs → AllWithin count ys →
    AllWithin count (xs ++ ys)
both_within count [] ys one other = other
both_within count (x ∷ xs) ys one other = (one.0, both_within count xs ys one.1 other)

module _ (count : ℕ) where
  -- a handle, perhaps one, and several
  one_within : (h : ℕ) → IsTrue (nat_lt h count) → AllWithin count (h ∷ [])
  one_within h is = (ltb-true h count is, tt)

  some_within : (o : Option ℕ) → IsTrue (is_below count o) → AllWithin count (option_to_list o)
  some_within None is = tt
  some_within (Some h) is = one_within h is

  listed_within : (hs : List ℕ) → IsTrue (all_below count hs) → AllWithin count hs
  listed_within [] is = tt
  listed_within (h ∷ hs) is =
      let parts = and_parts (nat_lt h count) (all_below count hs) is in
      (ltb-true h count parts.0, listed_within hs parts.1)

module _ (binds : ℕ → Bool) (callees count : ℕ) where
  emitted_within : (first end n : ℕ) → end - first ≡ n → end ≤ count → AllWithin count (from first n)
  emitted_within first end zero e le = tt
  emitted_within first end (suc n) e le = ranged count first (suc n) (omega (arith, e, le))

  line_within : (st : SimpleStatement) → IsTrue (statement_in_range callees count (simple st)) →
      AllWithin count (simple_handles binds st)
  line_within (emit first end) range =
      let le = emit_within callees count first end range in
      filtered count binds (from first (end - first)) (emitted_within first end (end - first) refl le)
  line_within st range = listed_within count (simple_operands st) (operands_below callees count st range)

  -- the result of a statement
  pub result_within : (st : SimpleStatement) (h : ℕ) → IsTrue (statement_in_range callees count (simple st)) →
      simple_result st ≡ Some h → h < count
  result_within st h range is = by (simple_result st) (result_below callees count st range) is
    where
      by : (o : Option ℕ) → IsTrue (is_below count o) → o ≡ Some h → h < count
      by None below is = absurd cc
      by (Some r) below is = ltb-true h count (ap (λ o. is_below count o) (sym is) ∙ below)

  mutual
    statement_within : (st : StatementTree) → IsTrue (statement_in_range callees count st) →
        AllWithin count (statement_handles binds st)
    statement_within (simple st) range = line_within st range
    statement_within (block b) range = block_within b range
    statement_within (branch c a r) range =
        let one = and_parts (nat_lt c count) (block_in_range callees count a && block_in_range callees count r) range in
        let two = and_parts (block_in_range callees count a) (block_in_range callees count r) one.1 in (
          ltb-true c count one.0,
          both_within count (block_handles binds a) (block_handles binds r)
              (block_within a two.0) (block_within r two.1),
        )
    statement_within (switch h cs) range =
        let one = and_parts (nat_lt h count) (cases_in_range callees count cs) range in
        (ltb-true h count one.0, cases_within cs one.1)
    statement_within (loop b c e) range =
        let one = and_parts (block_in_range callees count b)
        (block_in_range callees count c && is_below count e) range in
        let two = and_parts (block_in_range callees count c) (is_below count e) one.1 in
        both_within count (block_handles binds b) (block_handles binds c ++ option_to_list e) (block_within b one.0)
        (both_within count (block_handles binds c) (option_to_list e) (block_within c two.0)
        (some_within count e two.1))

    block_within : (b : BlockTree) → IsTrue (block_in_range callees count b) → AllWithin count (block_handles binds b)
    block_within no_statements range = tt
    block_within (statement st b) range =
        let ranges = and_parts (statement_in_range callees count st) (block_in_range callees count b) range in
        both_within count (statement_handles binds st) (block_handles binds b) (statement_within st ranges.0)
        (block_within b ranges.1)

    cases_within : (cs : CaseTrees) → IsTrue (cases_in_range callees count cs) →
        AllWithin count (cases_handles binds cs)
    cases_within no_cases range = tt
    cases_within (case v b falls cs) range =
        let one = and_parts (case_value_fits_32_bits v)
        (block_in_range callees count b && cases_in_range callees count cs) range in
        let two = and_parts (block_in_range callees count b) (cases_in_range callees count cs) one.1 in
        both_within count (block_handles binds b) (cases_handles binds cs) (block_within b two.0)
        (cases_within cs two.1)

-- ---- what is in the text
module _ (t : FunctionText) (can : CanWrite t) where
  in_text : (hs : List ℕ) → AllWithin (length t.function.now.expressions) hs →
      AllByRecursion (IsWrittenIn t.known.shader.now t.known.info.now t.function.now t.info.now) hs →
      AreInText t hs
  in_text [] there written = tt
  in_text (h ∷ hs) there written =
      (record { there = there.0; written = written.0 }, in_text hs there.1 written.1)

  pub body_in_text : AreInText t (block_handles (bound t) t.function.now.body)
  body_in_text =
      let f = t.function.now in
      let closed = written_are_closed t.known.shader.now t.known.info.now f t.info.now in
      in_text (block_handles (bound t) f.body)
      (block_within (bound t) (callees t) (length f.expressions) f.body
      (ranges_are t.known.shader.now (callees t) f can.ranges).1)
      closed.body

  pub first_in_range : (l : ℕ) (v : LocalVariable) →
      slice_get t.function.now.local_variables l ≡ Some v → AreInText t (option_to_list v.init)
  first_in_range l v at =
      let closed = written_are_closed t.known.shader.now t.known.info.now t.function.now t.info.now in
      in_text (option_to_list v.init) (within v.init (first_within t can l v at)) (closed.firsts l v at)
    where
      within : (o : Option ℕ) → IsTrue (is_below (length t.function.now.expressions) o) →
          AllWithin (length t.function.now.expressions) (option_to_list o)
      within None is = tt
      within (Some h) is = (ltb-true h (length t.function.now.expressions) is, tt)

-- ---- results
let_named : (binds : ℕ → Bool) (st : SimpleStatement) (h : ℕ) → simple_result st ≡ Some h → simple_lets binds st
    ≡ h ∷ []
let_named binds (emit first end) h is = absurd cc
let_named binds _ h is = ap option_to_list is

-- the result of a statement of a function is one of its expressions, and a `let` names it
pub outcome_inside : (t : FunctionText) (st : StatementTree) (h : ℕ) → CanWriteStatement t st → own_result st ≡ Some h →
    (h < length t.function.now.expressions) × IsLet t h
outcome_inside t (simple st) h w is = (
  result_within (bound t) (callees t) (length t.function.now.expressions) st h w.in_range is,
  (subst (AreLets t) (let_named (bound t) st h is) w.lets).0,
)
outcome_inside t _ h w is = absurd cc

-- ---- the body
pub body_of : (t : FunctionText) → CanWrite t → CanWriteBlock t t.function.now.body
body_of t can = record {
  in_range = (ranges_are t.known.shader.now (callees t) t.function.now can.ranges).1;
  formed = can.formed.statements;
  written = body_in_text t can;
  lets = all_among (block_lets (bound t) t.function.now.body) (λ h among. among);
}
