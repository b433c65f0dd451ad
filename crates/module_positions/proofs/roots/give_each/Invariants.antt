use Rattle.std.proofs.Common.{◌≡◌, drop}
use Rattle.naga_ir.specs.StatementViews.{block_of}
use Rattle.module_positions.specs.Roots.{given_each, left_after_each}
use Rattle.module_positions.proofs.roots.give_each.Given as goal

abbrev pub invariant-loop-statement : goal.invariant-loop-statement
invariant-loop-statement l = record {
  left : left_after_each l.left (block_of (drop l.statement-index l.statements))
      ≡ left_after_each l.first (block_of l.statements);
  values : given_each l.function.expressions l.end l.left (block_of (drop l.statement-index l.statements))
      l.values.items
      ≡ given_each l.function.expressions l.end l.first (block_of l.statements) l.initial.values.items;
}
