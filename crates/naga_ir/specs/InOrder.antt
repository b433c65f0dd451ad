-- The statements of a body in the order of its text: each before those in its blocks.
--
-- Throughout, st is a statement, b is the rest of a block, and cs are the further cases of a switch.
use Rattle.std.specs.Prelude.{List, [], ◌∷◌, ◌++◌, map}
use Rattle.std.specs.Borrow.{Bor}
use Rattle.naga_ir.specs.StatementTree.{StatementTree, simple, block, branch, switch, loop}
use Rattle.naga_ir.specs.StatementTree.{BlockTree, no_statements, statement, CaseTrees, no_cases}
use Rattle.naga_ir.specs.StatementTree.{case}
use Rattle.naga_ir.specs.StatementViews.{tree_of}
use Rattle.naga_ir.specs.declared.statement.Statement.{Statement}

-- the statements in the blocks of a statement, those of a block and those of cases, in the order of
-- the text: each after the one that holds its block
abbrev mutual
  pub trees_inside : StatementTree → List StatementTree
  trees_inside (simple st) = []
  trees_inside (block b) = trees_in b
  trees_inside (branch condition accept reject) = trees_in accept ++ trees_in reject
  trees_inside (switch selector cs) = case_trees cs
  trees_inside (loop body continuing break_if) = trees_in body ++ trees_in continuing

  pub trees_in : BlockTree → List StatementTree
  trees_in no_statements = []
  trees_in (statement st b) = st ∷ (trees_inside st ++ trees_in b)

  pub case_trees : CaseTrees → List StatementTree
  case_trees no_cases = []
  case_trees (case value body falls cs) = trees_in body ++ case_trees cs

-- what borrowed statements are seen as
abbrev pub trees_of : List (Bor Statement) → List StatementTree
trees_of statements = map (λ s. tree_of s.now) statements
