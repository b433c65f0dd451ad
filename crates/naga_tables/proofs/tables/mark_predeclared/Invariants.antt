use Rattle.indexmap.specs.IndexMap.{values}
use Rattle.naga_tables.proofs.Marking.{MarkedSoFar}
use Rattle.naga_tables.proofs.tables.mark_predeclared.Given as goal

abbrev pub invariant-loop-known : goal.invariant-loop-known
invariant-loop-known l =
    MarkedSoFar l.initial.marks (values l.special_types.predeclared_types) l.known-iterator l.marks
