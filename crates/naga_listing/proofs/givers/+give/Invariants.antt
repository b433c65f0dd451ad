use Rattle.std.proofs.Common.{◌≡◌, ◌+◌, ◌-◌, ◌*◌, ◌≤◌, drop}
use Rattle.naga_ir.specs.StatementTree.{statement_size, block_size, cases_size}
use Rattle.naga_ir.specs.StatementViews.{tree_of, block_of, cases_of}
use Rattle.naga_ir.specs.InOrder.{case_trees, trees_in}
use Rattle.naga_listing.specs.Givers.{giving}
use Rattle.naga_listing.proofs.givers.+give.Given as goal

abbrev pub decreases-giver_in : goal.decreases-giver_in
decreases-giver_in l = 4 * statement_size (tree_of l.statement.now)

abbrev pub decreases-giver_inside : goal.decreases-giver_inside
decreases-giver_inside l = 4 * statement_size (tree_of l.statement.now) - 1

abbrev pub decreases-giver_in_two : goal.decreases-giver_in_two
decreases-giver_in_two l = 4 * (block_size l.one.now + block_size l.other.now) + 2

abbrev pub decreases-giver_in_block : goal.decreases-giver_in_block
decreases-giver_in_block l = 4 * block_size l.block.now + 1

abbrev pub decreases-giver_in_cases : goal.decreases-giver_in_cases
decreases-giver_in_cases l = 4 * cases_size (cases_of l.cases.now)

abbrev pub invariant-giver_in_block-loop-statement : goal.invariant-giver_in_block-loop-statement
invariant-giver_in_block-loop-statement l = record {
  given : giving l.handle l.number (trees_in (block_of (drop l.statement-index l.statement-items))) ≡
      giving l.handle l.first (trees_in l.block);
  smaller : block_size (block_of (drop l.statement-index l.statement-items)) ≤ block_size l.block;
}

abbrev pub invariant-giver_in_cases-loop-case : goal.invariant-giver_in_cases-loop-case
invariant-giver_in_cases-loop-case l = record {
  given : giving l.handle l.number (case_trees (cases_of (drop l.case-index l.cases))) ≡
      giving l.handle l.first (case_trees (cases_of l.cases));
  smaller : cases_size (cases_of (drop l.case-index l.cases)) ≤ cases_size (cases_of l.cases);
}
