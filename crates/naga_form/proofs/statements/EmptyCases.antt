-- Where all that is written of a function has forms, only empty cases fall through.
use Rattle.std.proofs.Common.{◌≡◌, Bool, true, false, not, ◌&&◌, ◌||◌}
use Rattle.std.proofs.lemmas.Bool.{and_parts}
use Rattle.naga_ir.specs.StatementTree.{SimpleStatement, store, StatementTree, simple, block}
use Rattle.naga_ir.specs.StatementTree.{branch, switch, loop, BlockTree, no_statements, statement}
use Rattle.naga_ir.specs.StatementTree.{has_no_statements, CaseTrees, no_cases, case}
use Rattle.module_semantics.specs.ExpressionOperators.{ExpressionContext, is_atomic_pointer}
use Rattle.module_semantics.specs.FunctionShapes.{statement_shape, statements_shape, cases_shape}
use Rattle.module_semantics.specs.StatementForms.{statement_has_form, block_has_forms}
use Rattle.module_semantics.specs.StatementForms.{cases_have_forms}
use Rattle.module_semantics.specs.StatementShapes.{simple_shape, store_shape}
use Rattle.shader_runs.specs.Premises.{FallsEmpty, OnlyEmptyFalls, OnlyEmptyFallIn}
use Rattle.shader_runs.specs.Premises.{OnlyEmptyCasesFall}

module _ (a : ExpressionContext) where
  line_stays : (s : SimpleStatement) → OnlyEmptyFalls (simple_shape a s)
  line_stays (store pointer value) = by (is_atomic_pointer a pointer)
    where
      by : (to_atomic : Bool) → OnlyEmptyFalls (store_shape to_atomic pointer value)
      by true = tt
      by false = tt
  line_stays _ = tt

  falls_empty : (falls : Bool) (b : BlockTree) → (not falls || has_no_statements b) ≡ true →
      FallsEmpty falls (statements_shape a b)
  falls_empty false b only = tt
  falls_empty true no_statements only = tt
  falls_empty true (statement s b) only = absurd cc

  mutual
    statement_stays : (st : StatementTree) → statement_has_form st ≡ true →
        OnlyEmptyFalls (statement_shape a st)
    statement_stays (simple s) has = line_stays s
    statement_stays (block b) has = no_case_falls b has
    statement_stays (branch condition accept reject) has =
        let both = and_parts (block_has_forms accept) (block_has_forms reject) has in
        (no_case_falls accept both.0, no_case_falls reject both.1)
    statement_stays (switch selector cs) has = cases_stay cs has
    statement_stays (loop body continuing break_if) has =
        let both = and_parts (block_has_forms body) (block_has_forms continuing) has in
        (no_case_falls body both.0, no_case_falls continuing both.1)

    pub no_case_falls : (b : BlockTree) → block_has_forms b ≡ true →
        OnlyEmptyFallIn (statements_shape a b)
    no_case_falls no_statements has = tt
    no_case_falls (statement st b) has =
        let both = and_parts (statement_has_form st) (block_has_forms b) has in
        (statement_stays st both.0, no_case_falls b both.1)

    cases_stay : (cs : CaseTrees) → cases_have_forms cs ≡ true →
        OnlyEmptyCasesFall (cases_shape a cs)
    cases_stay no_cases has = tt
    cases_stay (case value body falls cs) has =
        let one =
        and_parts (not falls || has_no_statements body)
        (block_has_forms body && cases_have_forms cs) has in
        let two = and_parts (block_has_forms body) (cases_have_forms cs) one.1 in
        (falls_empty falls body one.0, no_case_falls body two.0, cases_stay cs two.1)
