use Rattle.std.proofs.Common.{◌≡◌, ◌+◌, ◌-◌, ◌*◌, ◌≤◌, drop}
use Rattle.naga_ir.specs.StatementTree.{statement_size, block_size, cases_size}
use Rattle.naga_ir.specs.StatementViews.{tree_of, block_of, cases_of}
use Rattle.naga_ir.specs.InOrder.{case_trees, trees_in}
use Rattle.naga_listing.specs.Named.{sought}
use Rattle.naga_listing.proofs.numbers.+seek.Given as goal

abbrev pub decreases-seek_statement : goal.decreases-seek_statement
decreases-seek_statement l = 4 * statement_size (tree_of l.statement.now)

abbrev pub decreases-seek_inside : goal.decreases-seek_inside
decreases-seek_inside l = 4 * statement_size (tree_of l.statement.now) - 1

abbrev pub decreases-seek_two : goal.decreases-seek_two
decreases-seek_two l = 4 * (block_size l.first.now + block_size l.second.now) + 2

abbrev pub decreases-seek_block : goal.decreases-seek_block
decreases-seek_block l = 4 * block_size l.block.now + 1

abbrev pub decreases-seek_cases : goal.decreases-seek_cases
decreases-seek_cases l = 4 * cases_size (cases_of l.cases.now)

abbrev pub invariant-seek_block-loop-statement : goal.invariant-seek_block-loop-statement
invariant-seek_block-loop-statement l = record {
  left : sought l.left (trees_in (block_of (drop l.statement-index l.statement-items))) ≡
      sought l.first (trees_in l.block);
  smaller : block_size (block_of (drop l.statement-index l.statement-items)) ≤ block_size l.block;
}

abbrev pub invariant-seek_cases-loop-case : goal.invariant-seek_cases-loop-case
invariant-seek_cases-loop-case l = record {
  left : sought l.left (case_trees (cases_of (drop l.case-index l.cases))) ≡
      sought l.first (case_trees (cases_of l.cases));
  smaller : cases_size (cases_of (drop l.case-index l.cases)) ≤ cases_size (cases_of l.cases);
}
