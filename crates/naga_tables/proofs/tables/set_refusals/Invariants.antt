use Rattle.std.proofs.Common.{length}
use Rattle.naga_tables.proofs.WrittenConstants.{CellsBelow, no_constant}
use Rattle.naga_tables.specs.Refusals.{global_refusal}
use Rattle.naga_tables.proofs.tables.set_refusals.Given as goal

abbrev pub invariant-loop-index : goal.invariant-loop-index
invariant-loop-index l =
    CellsBelow no_constant (global_refusal l.module) (length l.module.global_expressions) l.cells
    l.index
