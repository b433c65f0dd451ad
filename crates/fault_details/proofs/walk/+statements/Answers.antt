use Rattle.std.proofs.Common.{◌+◌, ◌∷◌, drop, ap, sym, ◌∙◌, arith, true}
use Rattle.naga_ir.specs.StatementViews.{tree_of, block_of, cases_of}
use Rattle.naga_acceptance.specs.TextOrder.{case_statements, statements_in, statements_inside}
use Rattle.naga_acceptance.proofs.Counting.{block_size-left, cases_size-left}
use Rattle.fault_details.specs.Shown.{passed}
use Rattle.fault_details.proofs.Passing.{onward, block_next, cases_next}
use Rattle.fault_details.proofs.walk.+statements.Goals as goal

pub pass_block-returns-in-Err : goal.pass_block-returns-in-Err
pass_block-returns-in-Err t c =
    ap (λ r. onward r
    (statements_in c.args.breaks c.args.continues
    (block_of (drop (c.loop-statement.statement-index + 1)
    c.as_slice-statement-items.result.now)))) c.in-Err.ensures
    ∙ ap (λ s. onward
    (passed c.loop-statement.number
    (record { breaks = c.args.breaks; continues = c.args.continues; tree = tree_of s } ∷
    statements_inside c.args.breaks c.args.continues (tree_of s)))
    (statements_in c.args.breaks c.args.continues
    (block_of (drop (c.loop-statement.statement-index + 1)
    c.as_slice-statement-items.result.now)))) c.statement-item.is
    ∙ sym (block_next c.args.breaks c.args.continues c.loop-statement.number
    c.as_slice-statement-items.result.now c.loop-statement.statement-index
    c.statement-item.result c.loop-statement-test.true)
    ∙ c.loop-statement.invariant.left

pub pass_block-loop-statement-preserved : goal.pass_block-loop-statement-preserved
pass_block-loop-statement-preserved t c = record {
  left = ap (λ r. onward r
      (statements_in c.args.breaks c.args.continues
      (block_of (drop (c.loop-statement.statement-index + 1)
      c.as_slice-statement-items.result.now)))) c.in-Ok.ensures
      ∙ ap (λ s. onward
      (passed c.loop-statement.number
      (record { breaks = c.args.breaks; continues = c.args.continues; tree = tree_of s } ∷
      statements_inside c.args.breaks c.args.continues (tree_of s)))
      (statements_in c.args.breaks c.args.continues
      (block_of (drop (c.loop-statement.statement-index + 1)
      c.as_slice-statement-items.result.now)))) c.statement-item.is
      ∙ sym (block_next c.args.breaks c.args.continues
      c.loop-statement.number c.as_slice-statement-items.result.now
      c.loop-statement.statement-index c.statement-item.result c.loop-statement-test.true)
      ∙ c.loop-statement.invariant.left;
  smaller = omega (
    arith,
    block_size-left c.as_slice-statement-items.result.now c.loop-statement.statement-index
        c.statement-item.result c.loop-statement-test.true,
    c.loop-statement.invariant.smaller,
  );
}

pub pass_cases-returns-in-Err : goal.pass_cases-returns-in-Err
pass_cases-returns-in-Err t c =
    ap (λ r. onward r (case_statements true c.args.continues
    (cases_of (drop (c.loop-case.case-index + 1) c.args.cases.now)))) c.in-Err.ensures
    ∙ ap (λ s. onward
    (passed c.loop-case.number
    (statements_in true c.args.continues s.body))
    (case_statements true c.args.continues
    (cases_of (drop (c.loop-case.case-index + 1) c.args.cases.now)))) c.case-item.is
    ∙ sym (cases_next true c.args.continues c.loop-case.number c.args.cases.now c.loop-case.case-index
    c.case-item.result c.loop-case-test.true)
    ∙ c.loop-case.invariant.left

pub pass_cases-loop-case-preserved : goal.pass_cases-loop-case-preserved
pass_cases-loop-case-preserved t c = record {
  left = ap (λ r. onward r (case_statements true c.args.continues
      (cases_of (drop (c.loop-case.case-index + 1) c.args.cases.now)))) c.in-Ok.ensures
      ∙ ap (λ s. onward
      (passed c.loop-case.number
      (statements_in true c.args.continues s.body))
      (case_statements true c.args.continues
      (cases_of (drop (c.loop-case.case-index + 1) c.args.cases.now)))) c.case-item.is
      ∙ sym (cases_next true c.args.continues c.loop-case.number c.args.cases.now c.loop-case.case-index
      c.case-item.result c.loop-case-test.true)
      ∙ c.loop-case.invariant.left;
  smaller = omega (
    arith,
    cases_size-left c.args.cases.now c.loop-case.case-index c.case-item.result c.loop-case-test.true,
    c.loop-case.invariant.smaller,
  );
}
