use Rattle.std.proofs.Common.{ap, arith}
use Rattle.naga_ir.specs.StatementTree.{block_size, cases_size}
use Rattle.naga_ir.specs.StatementViews.{cases_of}
use Rattle.naga_listing.proofs.Seeking.{block_found, block_more, cases_found, cases_more}
use Rattle.naga_ir.proofs.Listed.{first_case, first_of}
use Rattle.naga_listing.proofs.numbers.+seek.Goals as goal

pub seek_block-returns-in-Ok : goal.seek_block-returns-in-Ok
seek_block-returns-in-Ok t c =
    let split = first_of c.as_slice-statement-items.result.now c.loop-statement.statement-index
    c.statement-item.result c.loop-statement-test.true c.statement-item.is in
    block_found _ c.args.first _ _ c.args.block.now _ _ split c.in-Ok.ensures c.loop-statement.invariant.left

pub seek_block-loop-statement-preserved : goal.seek_block-loop-statement-preserved
seek_block-loop-statement-preserved t c =
    let split = first_of c.as_slice-statement-items.result.now c.loop-statement.statement-index
    c.statement-item.result c.loop-statement-test.true c.statement-item.is in
    record {
      left = block_more _ _ c.args.first _ _ c.args.block.now _ split c.in-Err.ensures c.loop-statement.invariant.left;
      smaller = omega (arith, ap block_size split, c.loop-statement.invariant.smaller);
    }

pub seek_cases-returns-in-Ok : goal.seek_cases-returns-in-Ok
seek_cases-returns-in-Ok t c =
    let split = first_case c.args.cases.now c.loop-case.case-index c.case-item.result c.loop-case-test.true
    c.case-item.is in
    cases_found _ c.args.first _ _ (cases_of c.args.cases.now) _ _ _ _ split c.in-Ok.ensures c.loop-case.invariant.left

pub seek_cases-loop-case-preserved : goal.seek_cases-loop-case-preserved
seek_cases-loop-case-preserved t c =
    let split = first_case c.args.cases.now c.loop-case.case-index c.case-item.result c.loop-case-test.true
    c.case-item.is in
    record {
      left = cases_more _ _ c.args.first _ _ (cases_of c.args.cases.now) _ _ _ split
          c.in-Err.ensures c.loop-case.invariant.left;
      smaller = omega (arith, ap cases_size split, c.loop-case.invariant.smaller);
    }
