use Rattle.std.proofs.Common.{◌≡◌, drop}
use Rattle.naga_ir.specs.StatementViews.{block_of}
use Rattle.module_positions.specs.Roots.{skipped_each, left_after_each}
use Rattle.module_positions.proofs.roots.skip_each.Given as goal

abbrev pub invariant-loop-statement : goal.invariant-loop-statement
invariant-loop-statement l = record {
  left : left_after_each l.left (block_of (drop l.statement-index l.statements))
      ≡ left_after_each l.first (block_of l.statements);
  values : skipped_each l.end l.left (block_of (drop l.statement-index l.statements)) l.values.items
      ≡ skipped_each l.end l.first (block_of l.statements) l.initial.values.items;
}
