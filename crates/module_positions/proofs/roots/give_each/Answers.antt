use Rattle.std.proofs.Common.{ap, sym, ◌∙◌}
use Rattle.naga_ir.proofs.Listed.{first_of}
use Rattle.naga_ir.specs.StatementViews.{tree_of}
use Rattle.module_positions.specs.Roots.{given}
use Rattle.module_positions.proofs.Walking.{given_each_step, left_step}
use Rattle.module_positions.proofs.roots.give_each.Goals as goal

pub loop-statement-preserved : goal.loop-statement-preserved
loop-statement-preserved c =
    let es = c.args.function.now.expressions in
    let values = c.loop-statement.values.items in
    let split = first_of c.args.statements.now c.loop-statement.statement-index c.statement-item.result
    c.loop-statement-test.true c.statement-item.is in
    let after = c.give.ensures
    ∙ ap (λ n. given es n (tree_of c.statement-item.result) values) c.saturating_sub.ensures in
    record {
      left = sym (left_step c.loop-statement.left _ _ _ _ split c.left_after-left.ensures)
          ∙ c.loop-statement.invariant.left;
      values = sym (given_each_step es c.args.end c.loop-statement.left _ _ _ _ values _ split
          c.left_after-left.ensures after)
          ∙ c.loop-statement.invariant.values;
    }
