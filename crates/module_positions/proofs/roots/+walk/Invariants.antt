use Rattle.std.proofs.Common.{◌≡◌, ◌+◌, ◌-◌, ◌*◌, ◌≤◌, drop}
use Rattle.naga_ir.specs.StatementTree.{statement_size, block_size, cases_size}
use Rattle.naga_ir.specs.StatementViews.{tree_of, block_of, cases_of}
use Rattle.module_positions.specs.Roots.{in_block, in_cases}
use Rattle.module_positions.proofs.roots.+walk.Given as goal

abbrev pub decreases-walk_block : goal.decreases-walk_block
decreases-walk_block l = 4 * block_size l.block.now + 1

abbrev pub decreases-walk_statement : goal.decreases-walk_statement
decreases-walk_statement l = 4 * statement_size (tree_of l.statement.now)

abbrev pub decreases-walk_inside : goal.decreases-walk_inside
decreases-walk_inside l = 4 * statement_size (tree_of l.statement.now) - 1

abbrev pub decreases-walk_cases : goal.decreases-walk_cases
decreases-walk_cases l = 4 * cases_size (cases_of l.cases.now)

abbrev pub invariant-walk_block-loop-statement : goal.invariant-walk_block-loop-statement
invariant-walk_block-loop-statement l = record {
  values : in_block l.function.expressions l.end l.stop l.left
      (block_of (drop l.statement-index l.statement-items)) l.values.items
      ≡ in_block l.function.expressions l.end l.stop l.first l.block l.initial.values.items;
  smaller : block_size (block_of (drop l.statement-index l.statement-items)) ≤ block_size l.block;
}

abbrev pub invariant-walk_cases-loop-case : goal.invariant-walk_cases-loop-case
invariant-walk_cases-loop-case l = record {
  values : in_cases l.function.expressions l.end l.stop l.left (cases_of (drop l.case-index l.cases))
      l.values.items
      ≡ in_cases l.function.expressions l.end l.stop l.first (cases_of l.cases) l.initial.values.items;
  smaller : cases_size (cases_of (drop l.case-index l.cases)) ≤ cases_size (cases_of l.cases);
}
