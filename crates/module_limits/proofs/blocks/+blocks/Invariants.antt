use Rattle.std.proofs.Common.{◌≡◌, ◌+◌, ◌*◌, ◌≤◌, drop, nat_le}
use Rattle.naga_ir.specs.StatementTree.{block_size, cases_size, statement_size}
use Rattle.naga_ir.specs.StatementViews.{block_of, cases_of, tree_of}
use Rattle.module_limits.specs.Blocks.{block_depth, cases_depth}
use Rattle.module_limits.proofs.blocks.+blocks.Given as goal

abbrev pub decreases-block_is_within : goal.decreases-block_is_within
decreases-block_is_within l = 4 * block_size l.block.now + 1

abbrev pub decreases-both_are_within : goal.decreases-both_are_within
decreases-both_are_within l = 4 * (block_size l.first.now + block_size l.second.now) + 2

abbrev pub decreases-cases_are_within : goal.decreases-cases_are_within
decreases-cases_are_within l = 4 * cases_size (cases_of l.cases.now)

abbrev pub decreases-statement_is_within : goal.decreases-statement_is_within
decreases-statement_is_within l = 4 * statement_size (tree_of l.statement.now)

abbrev pub invariant-block_is_within-loop-statement : goal.invariant-block_is_within-loop-statement
invariant-block_is_within-loop-statement l = record {
  left : nat_le (block_depth (block_of (drop l.statement-index l.statement-items))) l.levels
      ≡ nat_le (block_depth l.block) l.levels;
  smaller : block_size (block_of (drop l.statement-index l.statement-items)) ≤ block_size l.block;
}

abbrev pub invariant-cases_are_within-loop-case : goal.invariant-cases_are_within-loop-case
invariant-cases_are_within-loop-case l = record {
  left : nat_le (cases_depth (cases_of (drop l.case-index l.cases))) l.levels
      ≡ nat_le (cases_depth (cases_of l.cases)) l.levels;
  smaller : cases_size (cases_of (drop l.case-index l.cases)) ≤ cases_size (cases_of l.cases);
}
