-- The shape of a body has as many statements as the body.
-- Serves `of` and `of_function`.
use Rattle.std.proofs.Common.{◌≡◌, ℕ, suc, Bool, true, false, refl, ap, ap₂, sym, ◌∙◌}
use Rattle.std.proofs.Common.{◌+◌, length, length-append}
use Rattle.module_semantics.specs.ExpressionOperators.{ExpressionContext, is_atomic_pointer}
use Rattle.module_semantics.specs.FunctionShapes.{cases_shape, statement_shape, statements_shape}
use Rattle.module_semantics.specs.StatementShapes.{simple_shape, store_shape}
use Rattle.naga_ir.specs.StatementTree.{SimpleStatement, store, StatementTree, simple, block, branch, switch}
use Rattle.naga_ir.specs.StatementTree.{loop, BlockTree, no_statements, statement, CaseTrees, no_cases, case}
use Rattle.naga_ir.specs.InOrder.{case_trees, trees_in, trees_inside}
use Rattle.naga_scope.specs.ScopeFaults.{case_standing, inside, standing}
use Rattle.shader_runs.specs.Program.{Function}
use Rattle.shader_runs.specs.ScopeRules.{ScopeState, after_turn, following}

module _ (f : Function) (a : ExpressionContext) where
  store_none : (to_atomic : Bool) (p v : ℕ) (at : ScopeState) → length (inside f at (store_shape to_atomic p v)) ≡ 0
  store_none true p v at = refl
  store_none false p v at = refl

  simple_none : (s : SimpleStatement) (at : ScopeState) → length (inside f at (simple_shape a s)) ≡ 0
  simple_none (store p v) at = store_none (is_atomic_pointer a p) p v at
  simple_none _ at = refl

  mutual
    pub statement_count : (st : StatementTree) (at : ScopeState) →
        length (inside f at (statement_shape a st)) ≡ length (trees_inside st)
    statement_count (simple s) at = simple_none s at
    statement_count (block b) at = block_count b at
    statement_count (branch c x y) at =
        length-append (standing f at (statements_shape a x)) (standing f at (statements_shape a y))
        ∙ (ap₂ (λ i j. i + j) (block_count x at) (block_count y at)
        ∙ sym (length-append (trees_in x) (trees_in y)))
    statement_count (switch s cs) at = cases_count cs at
    statement_count (loop x y e) at =
        let there = after_turn f (statements_shape a x) at in
        length-append (standing f at (statements_shape a x)) (standing f there (statements_shape a y))
        ∙ (ap₂ (λ i j. i + j) (block_count x at) (block_count y there)
        ∙ sym (length-append (trees_in x) (trees_in y)))

    pub block_count : (b : BlockTree) (at : ScopeState) → length (standing f at (statements_shape a b))
        ≡ length (trees_in b)
    block_count no_statements at = refl
    block_count (statement st b) at =
        let there = following f (statement_shape a st) at in
        ap suc
        (length-append (inside f at (statement_shape a st)) (standing f there (statements_shape a b))
        ∙ (ap₂ (λ i j. i + j) (statement_count st at) (block_count b there)
        ∙ sym (length-append (trees_inside st) (trees_in b))))

    cases_count : (cs : CaseTrees) (at : ScopeState) →
        length (case_standing f at (cases_shape a cs)) ≡ length (case_trees cs)
    cases_count no_cases at = refl
    cases_count (case v b falls cs) at =
        length-append (standing f at (statements_shape a b)) (case_standing f at (cases_shape a cs))
        ∙ (ap₂ (λ i j. i + j) (block_count b at) (cases_count cs at)
        ∙ sym (length-append (trees_in b) (case_trees cs)))
