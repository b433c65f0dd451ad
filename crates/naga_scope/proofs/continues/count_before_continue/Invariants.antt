use Rattle.std.proofs.Common.{◌≡◌, ◌+◌, drop}
use Rattle.naga_ir.specs.StatementViews.{block_of}
use Rattle.naga_scope.specs.Continues.{count_before}
use Rattle.naga_scope.proofs.continues.count_before_continue.Given as goal

abbrev pub invariant-loop-statement : goal.invariant-loop-statement
invariant-loop-statement l = record {
  count : l.count ≡ l.statement-index;
  left : l.count + count_before (block_of (drop l.statement-index l.statements)) ≡ count_before (block_of l.statements);
}
