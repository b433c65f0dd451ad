use Rattle.std.proofs.Common.{ap, arith}
use Rattle.naga_ir.specs.StatementTree.{block_size, cases_size}
use Rattle.naga_listing.proofs.AddedLines.{block_more, block_number_more, cases_more}
use Rattle.naga_listing.proofs.AddedLines.{cases_number_more}
use Rattle.naga_ir.proofs.Listed.{first_case, first_of}
use Rattle.naga_listing.proofs.lines.+lines.Goals as goal

pub add_block-loop-statement-preserved : goal.add_block-loop-statement-preserved
add_block-loop-statement-preserved t c =
    let split = first_of c.as_slice-statement-items.result.now c.loop-statement.statement-index
    c.statement-item.result c.loop-statement-test.true c.statement-item.is in
    record {
      left = block_more _ _ _ _ _ _ _ _ _ split c.in_ok-next.ensures.lines
          c.in_ok-next.ensures.next c.loop-statement.invariant.left;
      next = block_number_more _ _ _ _ _ _ split c.in_ok-next.ensures.next c.loop-statement.invariant.next;
      smaller = omega (arith, ap block_size split, c.loop-statement.invariant.smaller);
    }

pub add_cases-loop-case-preserved : goal.add_cases-loop-case-preserved
add_cases-loop-case-preserved t c =
    let split = first_case c.args.cases.now c.loop-case.case-index c.case-item.result c.loop-case-test.true
    c.case-item.is in
    record {
      left = cases_more _ _ _ _ _ _ _ _ _ _ _ split c.in_ok-next.ensures.lines
          c.in_ok-next.ensures.next c.loop-case.invariant.left;
      next = cases_number_more _ _ _ _ _ _ _ _ split c.in_ok-next.ensures.next c.loop-case.invariant.next;
      smaller = omega (arith, ap cases_size split, c.loop-case.invariant.smaller);
    }
