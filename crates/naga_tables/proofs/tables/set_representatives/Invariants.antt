use Rattle.naga_tables.proofs.FilledTables.{RepresentativesBelow}
use Rattle.naga_tables.proofs.tables.set_representatives.Given as goal

abbrev pub invariant-loop-index : goal.invariant-loop-index
invariant-loop-index l = RepresentativesBelow l.module l.known l.index
