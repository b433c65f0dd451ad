use Rattle.std.proofs.Common.{false, length}
use Rattle.module_semantics.specs.WrittenOut.{is_written_out}
use Rattle.naga_tables.proofs.WrittenConstants.{CellsBelow}
use Rattle.naga_scope.proofs.lacks.mark_constants.Given as goal

abbrev pub invariant-loop-index : goal.invariant-loop-index
invariant-loop-index l =
    CellsBelow false (is_written_out l.function.expressions) (length l.function.expressions) l.marks
    l.index
