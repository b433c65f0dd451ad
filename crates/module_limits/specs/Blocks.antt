-- How deep statements stand in one another: one without blocks has depth 1, and any other is one
-- deeper than the deepest in its blocks. A block without statements has depth 0.
use Rattle.std.specs.Prelude.{ℕ, suc, max}
use Rattle.naga_ir.specs.StatementTree.{StatementTree, simple, block, branch, switch, loop}
use Rattle.naga_ir.specs.StatementTree.{BlockTree, no_statements, statement}
use Rattle.naga_ir.specs.StatementTree.{CaseTrees, no_cases, case}

abbrev mutual
  pub statement_depth : StatementTree → ℕ
  statement_depth (simple s) = 1
  statement_depth (block b) = suc (block_depth b)
  statement_depth (branch condition accept reject) =
      suc (max (block_depth accept) (block_depth reject))
  statement_depth (switch selector cases) = suc (cases_depth cases)
  statement_depth (loop body continuing break_if) =
      suc (max (block_depth body) (block_depth continuing))

  pub block_depth : BlockTree → ℕ
  block_depth no_statements = 0
  block_depth (statement s b) = max (statement_depth s) (block_depth b)

  pub cases_depth : CaseTrees → ℕ
  cases_depth no_cases = 0
  cases_depth (case value body falls cases) = max (block_depth body) (cases_depth cases)
