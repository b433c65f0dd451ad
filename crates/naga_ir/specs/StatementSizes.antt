-- Each block inside a block has fewer statements.
use Rattle.std.specs.Prelude.{◌≤◌, List, [], ◌∷◌}
use Rattle.std.proofs.Common.{arith}
use Rattle.naga_ir.specs.declared.statement.SwitchCase.{SwitchCase}
use Rattle.naga_ir.specs.declared.statement.Statement.{Statement}
use Rattle.naga_ir.specs.declared.statement.Statement.TheVariants.{Block, If, Switch, Loop}
use Rattle.naga_ir.specs.declared.statement.Block.TheDeep.{deep-Statement, deep-SwitchCase}
use Rattle.naga_ir.specs.StatementTree.{statement_size, block_size, cases_size}
use Rattle.naga_ir.specs.StatementViews.{tree_of, block_of, cases_of}
use denote.Param.Weighed.{most}

pub depth_le-cases_size :
    (cs : List SwitchCase) → most deep-SwitchCase cs ≤ cases_size (cases_of cs)
depth_le-cases_size [] = omega arith
depth_le-cases_size (c ∷ cs) = omega (arith, depth_le-cases_size cs)

pub depth_le-statement_size : (s : Statement) → deep-Statement s ≤ statement_size (tree_of s)
depth_le-statement_size (Block b) = omega arith
depth_le-statement_size (If c a r) = omega arith
depth_le-statement_size (Switch s cs) = omega (arith, depth_le-cases_size cs.items)
depth_le-statement_size (Loop b c x) = omega arith
depth_le-statement_size _ = omega arith

pub depth_le-block_size : (ss : List Statement) → most deep-Statement ss ≤ block_size (block_of ss)
depth_le-block_size [] = omega arith
depth_le-block_size (s ∷ ss) = omega (arith, depth_le-statement_size s, depth_le-block_size ss)
