use Rattle.std.proofs.Common.{ap, sym, ◌∙◌}
use Rattle.naga_ir.proofs.Listed.{first_of}
use Rattle.naga_ir.specs.StatementViews.{tree_of}
use Rattle.module_positions.specs.Roots.{skipped}
use Rattle.module_positions.proofs.Walking.{left_step, skipped_each_step}
use Rattle.module_positions.proofs.roots.skip_each.Goals as goal

pub loop-statement-preserved : goal.loop-statement-preserved
loop-statement-preserved c =
    let values = c.loop-statement.values.items in
    let split = first_of c.args.statements.now c.loop-statement.statement-index c.statement-item.result
    c.loop-statement-test.true c.statement-item.is in
    let after = c.skip.ensures
    ∙ ap (λ n. skipped n (tree_of c.statement-item.result) values) c.saturating_sub.ensures in
    record {
      left = sym (left_step c.loop-statement.left _ _ _ _ split c.left_after-left.ensures)
          ∙ c.loop-statement.invariant.left;
      values = sym (skipped_each_step c.args.end c.loop-statement.left _ _ _ _ values _ split
          c.left_after-left.ensures after)
          ∙ c.loop-statement.invariant.values;
    }
