use Rattle.std.proofs.Common.{ap, arith, sym, ◌∙◌}
use Rattle.naga_ir.specs.StatementTree.{block_size, cases_size}
use Rattle.naga_ir.specs.StatementViews.{tree_of}
use Rattle.naga_ir.proofs.Listed.{first_case, first_of}
use Rattle.module_positions.specs.Roots.{given}
use Rattle.module_positions.proofs.Walking.{block_here, block_past, case_here, case_past}
use Rattle.module_positions.proofs.roots.+walk.Goals as goal

pub walk_block-loop-statement-preserved : goal.walk_block-loop-statement-preserved
walk_block-loop-statement-preserved t c =
    let es = c.args.function.now.expressions in
    let values = c.loop-statement.values.items in
    let split = first_of c.as_slice-statement-items.result.now c.loop-statement.statement-index
    c.statement-item.result c.loop-statement-test.true c.statement-item.is in
    let after = c.give.ensures
    ∙ ap (λ n. given es n (tree_of c.statement-item.result) values) c.saturating_sub.ensures in
    record {
      values = sym (block_past es c.args.end c.args.stop c.loop-statement.left _ _ _ _ values _ split
          c.in-Some.ensures after)
          ∙ c.loop-statement.invariant.values;
      smaller = omega (arith, ap block_size split, c.loop-statement.invariant.smaller);
    }

pub walk_block-returns-in-None : goal.walk_block-returns-in-None
walk_block-returns-in-None t c =
    let es = c.args.function.now.expressions in
    let split = first_of c.as_slice-statement-items.result.now c.loop-statement.statement-index
    c.statement-item.result c.loop-statement-test.true c.statement-item.is in
    c.walk_statement.ensures
    ∙ sym (block_here es c.args.end c.args.stop c.loop-statement.left _ _ _ c.loop-statement.values.items split
    c.in-None.ensures)
    ∙ c.loop-statement.invariant.values

pub walk_cases-loop-case-preserved : goal.walk_cases-loop-case-preserved
walk_cases-loop-case-preserved t c =
    let es = c.args.function.now.expressions in
    let split = first_case c.args.cases.now c.loop-case.case-index c.case-item.result c.loop-case-test.true
    c.case-item.is in
    record {
      values = sym (case_past es c.args.end c.args.stop c.loop-case.left _ _ _ _ _ _ c.loop-case.values.items split
          c.in-Some.ensures)
          ∙ c.loop-case.invariant.values;
      smaller = omega (arith, ap cases_size split, c.loop-case.invariant.smaller);
    }

pub walk_cases-returns-in-None : goal.walk_cases-returns-in-None
walk_cases-returns-in-None t c =
    let es = c.args.function.now.expressions in
    let split = first_case c.args.cases.now c.loop-case.case-index c.case-item.result c.loop-case-test.true
    c.case-item.is in
    c.walk_block.ensures
    ∙ sym (case_here es c.args.end c.args.stop c.loop-case.left _ _ _ _ _ c.loop-case.values.items split
    c.in-None.ensures)
    ∙ c.loop-case.invariant.values
