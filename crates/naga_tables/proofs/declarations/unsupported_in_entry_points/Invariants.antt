use Rattle.naga_tables.proofs.Searching.{Passed}
use Rattle.naga_tables.specs.Declarations.{EntryPointHasForm}
use Rattle.naga_tables.proofs.declarations.unsupported_in_entry_points.Given as goal

abbrev pub invariant-loop-index : goal.invariant-loop-index
invariant-loop-index l =
    Passed (λ i. EntryPointHasForm) l.entry_points l.index
