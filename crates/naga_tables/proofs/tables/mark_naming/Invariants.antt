use Rattle.std.proofs.Common.{false, length}
use Rattle.module_semantics.specs.Undeclared.{handle_names_undeclared}
use Rattle.naga_tables.proofs.WrittenConstants.{CellsBelow}
use Rattle.naga_tables.proofs.tables.mark_naming.Given as goal

abbrev pub invariant-loop-index : goal.invariant-loop-index
invariant-loop-index l =
    CellsBelow false (handle_names_undeclared l.module) (length l.module.types) l.marks l.index
