use Rattle.std.proofs.Common.{ap, arith}
use Rattle.naga_ir.specs.StatementTree.{block_size, cases_size}
use Rattle.naga_ir.proofs.Listed.{first_case, first_of}
use Rattle.naga_listing.proofs.Giving.{block_found, block_more, cases_found, cases_more}
use Rattle.naga_listing.proofs.givers.+give.Goals as goal

pub giver_in_block-returns-in-Ok : goal.giver_in_block-returns-in-Ok
giver_in_block-returns-in-Ok t c =
    let split = first_of c.as_slice-statement-items.result.now c.loop-statement.statement-index
    c.statement-item.result c.loop-statement-test.true c.statement-item.is in
    block_found c.args.handle _ _ _ _ _ _ split c.in-Ok.ensures c.loop-statement.invariant.given

pub giver_in_block-loop-statement-preserved : goal.giver_in_block-loop-statement-preserved
giver_in_block-loop-statement-preserved t c =
    let split = first_of c.as_slice-statement-items.result.now c.loop-statement.statement-index
    c.statement-item.result c.loop-statement-test.true c.statement-item.is in
    record {
      given = block_more c.args.handle _ _ _ _ _ _ split c.in-Err.ensures
          c.loop-statement.invariant.given;
      smaller = omega (arith, ap block_size split, c.loop-statement.invariant.smaller);
    }

pub giver_in_cases-returns-in-Ok : goal.giver_in_cases-returns-in-Ok
giver_in_cases-returns-in-Ok t c =
    let split = first_case c.args.cases.now c.loop-case.case-index c.case-item.result c.loop-case-test.true
    c.case-item.is in
    cases_found c.args.handle _ _ _ _ _ _ _ _ split c.in-Ok.ensures c.loop-case.invariant.given

pub giver_in_cases-loop-case-preserved : goal.giver_in_cases-loop-case-preserved
giver_in_cases-loop-case-preserved t c =
    let split = first_case c.args.cases.now c.loop-case.case-index c.case-item.result c.loop-case-test.true
    c.case-item.is in
    record {
      given = cases_more c.args.handle _ _ _ _ _ _ _ _ split c.in-Err.ensures
          c.loop-case.invariant.given;
      smaller = omega (arith, ap cases_size split, c.loop-case.invariant.smaller);
    }
