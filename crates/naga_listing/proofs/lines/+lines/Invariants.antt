use Rattle.std.proofs.Common.{◌≡◌, ◌+◌, ◌-◌, ◌*◌, ◌≤◌, ◌++◌, drop}
use Rattle.naga_ir.specs.StatementTree.{statement_size, block_size, cases_size}
use Rattle.naga_ir.specs.StatementViews.{tree_of, block_of, cases_of}
use Rattle.naga_listing.specs.Lines.{after_block, after_cases, block_lines, case_lines}
use Rattle.naga_listing.proofs.lines.+lines.Given as goal

abbrev pub decreases-add_statement : goal.decreases-add_statement
decreases-add_statement l = 6 * statement_size (tree_of l.statement.now)

abbrev pub decreases-add_inside : goal.decreases-add_inside
decreases-add_inside l = 6 * statement_size (tree_of l.statement.now) - 1

abbrev pub decreases-add_two : goal.decreases-add_two
decreases-add_two l = 6 * (block_size l.accept.now + block_size l.reject.now) + 4

abbrev pub decreases-add_block : goal.decreases-add_block
decreases-add_block l = 6 * block_size l.block.now + 1

abbrev pub decreases-add_headed : goal.decreases-add_headed
decreases-add_headed l = 6 * block_size l.block.now + 2

abbrev pub decreases-add_another : goal.decreases-add_another
decreases-add_another l = 6 * block_size l.block.now + 3

abbrev pub decreases-add_cases : goal.decreases-add_cases
decreases-add_cases l = 6 * cases_size (cases_of l.cases.now)

abbrev pub invariant-add_block-loop-statement : goal.invariant-add_block-loop-statement
invariant-add_block-loop-statement l = record {
  left : l.lines.items
      ++ block_lines l.level l.number (block_of (drop l.statement-index l.statement-items)) ≡
      l.initial.lines.items ++ block_lines l.level l.first l.block;
  next : after_block l.number (block_of (drop l.statement-index l.statement-items)) ≡
      after_block l.first l.block;
  smaller : block_size (block_of (drop l.statement-index l.statement-items)) ≤ block_size l.block;
}

abbrev pub invariant-add_cases-loop-case : goal.invariant-add_cases-loop-case
invariant-add_cases-loop-case l = record {
  left : l.lines.items ++ case_lines l.level l.number (cases_of (drop l.case-index l.cases)) ≡
      l.initial.lines.items ++ case_lines l.level l.first (cases_of l.cases);
  next : after_cases l.number (cases_of (drop l.case-index l.cases)) ≡
      after_cases l.first (cases_of l.cases);
  smaller : cases_size (cases_of (drop l.case-index l.cases)) ≤ cases_size (cases_of l.cases);
}
