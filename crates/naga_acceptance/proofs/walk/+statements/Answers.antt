use Rattle.std.proofs.Common.{◌+◌, ◌∷◌, drop, ap, sym, ◌∙◌, arith, true}
use Rattle.naga_ir.specs.StatementViews.{tree_of, block_of, cases_of}
use Rattle.naga_acceptance.specs.TextOrder.{case_statements, is_met, numbered, statements_in}
use Rattle.naga_acceptance.specs.TextOrder.{statements_inside}
use Rattle.naga_acceptance.proofs.Counting.{block_size-left, cases_size-left}
use Rattle.naga_acceptance.proofs.Walking.{onward, block_next, cases_next}
use Rattle.naga_acceptance.proofs.walk.+statements.Goals as goal

pub walk_block-returns-in-Err : goal.walk_block-returns-in-Err
walk_block-returns-in-Err t c =
    ap (λ r. onward (is_met c.args.test) r
    (statements_in c.args.breaks c.args.continues
    (block_of (drop (c.loop-statement.statement-index + 1)
    c.as_slice-statement-items.result.now)))) c.in-Err.ensures
    ∙ ap (λ s. onward (is_met c.args.test)
    (numbered (is_met c.args.test) c.loop-statement.number
    (record { breaks = c.args.breaks; continues = c.args.continues; tree = tree_of s } ∷
    statements_inside c.args.breaks c.args.continues (tree_of s)))
    (statements_in c.args.breaks c.args.continues
    (block_of (drop (c.loop-statement.statement-index + 1)
    c.as_slice-statement-items.result.now)))) c.statement-item.is
    ∙ sym (block_next (is_met c.args.test) c.args.breaks c.args.continues c.loop-statement.number
    c.as_slice-statement-items.result.now c.loop-statement.statement-index
    c.statement-item.result c.loop-statement-test.true)
    ∙ c.loop-statement.invariant.left

pub walk_block-loop-statement-preserved : goal.walk_block-loop-statement-preserved
walk_block-loop-statement-preserved t c = record {
  left = ap (λ r. onward (is_met c.args.test) r
      (statements_in c.args.breaks c.args.continues
      (block_of (drop (c.loop-statement.statement-index + 1)
      c.as_slice-statement-items.result.now)))) c.in-Ok.ensures
      ∙ ap (λ s. onward (is_met c.args.test)
      (numbered (is_met c.args.test) c.loop-statement.number
      (record { breaks = c.args.breaks; continues = c.args.continues; tree = tree_of s } ∷
      statements_inside c.args.breaks c.args.continues (tree_of s)))
      (statements_in c.args.breaks c.args.continues
      (block_of (drop (c.loop-statement.statement-index + 1)
      c.as_slice-statement-items.result.now)))) c.statement-item.is
      ∙ sym (block_next (is_met c.args.test) c.args.breaks c.args.continues
      c.loop-statement.number c.as_slice-statement-items.result.now
      c.loop-statement.statement-index c.statement-item.result c.loop-statement-test.true)
      ∙ c.loop-statement.invariant.left;
  smaller = omega (
    arith,
    block_size-left c.as_slice-statement-items.result.now c.loop-statement.statement-index
        c.statement-item.result c.loop-statement-test.true,
    c.loop-statement.invariant.smaller,
  );
}

pub walk_cases-returns-in-Err : goal.walk_cases-returns-in-Err
walk_cases-returns-in-Err t c =
    ap (λ r. onward (is_met c.args.test) r
    (case_statements true c.args.continues (cases_of (drop (c.loop-case.case-index + 1) c.args.cases.now))))
    c.in-Err.ensures
    ∙ ap (λ s. onward (is_met c.args.test)
    (numbered (is_met c.args.test) c.loop-case.number
    (statements_in true c.args.continues s.body))
    (case_statements true c.args.continues
    (cases_of (drop (c.loop-case.case-index + 1) c.args.cases.now)))) c.case-item.is
    ∙ sym (cases_next (is_met c.args.test) true c.args.continues c.loop-case.number c.args.cases.now
    c.loop-case.case-index c.case-item.result c.loop-case-test.true)
    ∙ c.loop-case.invariant.left

pub walk_cases-loop-case-preserved : goal.walk_cases-loop-case-preserved
walk_cases-loop-case-preserved t c = record {
  left = ap (λ r. onward (is_met c.args.test) r
      (case_statements true c.args.continues (cases_of (drop (c.loop-case.case-index + 1) c.args.cases.now))))
      c.in-Ok.ensures
      ∙ ap (λ s. onward (is_met c.args.test)
      (numbered (is_met c.args.test) c.loop-case.number
      (statements_in true c.args.continues s.body))
      (case_statements true c.args.continues
      (cases_of (drop (c.loop-case.case-index + 1) c.args.cases.now)))) c.case-item.is
      ∙ sym (cases_next (is_met c.args.test) true c.args.continues c.loop-case.number c.args.cases.now
      c.loop-case.case-index c.case-item.result c.loop-case-test.true)
      ∙ c.loop-case.invariant.left;
  smaller = omega (
    arith,
    cases_size-left c.args.cases.now c.loop-case.case-index c.case-item.result c.loop-case-test.true,
    c.loop-case.invariant.smaller,
  );
}
