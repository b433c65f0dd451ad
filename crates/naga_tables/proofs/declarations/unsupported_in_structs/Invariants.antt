use Rattle.naga_tables.proofs.Searching.{Left}
use Rattle.naga_tables.specs.Declarations.{TypeHasForm}
use Rattle.naga_tables.proofs.declarations.unsupported_in_structs.Given as goal

abbrev pub invariant-loop-handle : goal.invariant-loop-handle
invariant-loop-handle l =
    Left (TypeHasForm l.module) l.module.types l.handle-iterator
