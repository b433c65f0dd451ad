use Rattle.naga_tables.proofs.Searching.{Left}
use Rattle.naga_tables.specs.Declarations.{ValueHasForm}
use Rattle.naga_tables.proofs.declarations.unsupported_in_variables.Given as goal

abbrev pub invariant-loop-handle : goal.invariant-loop-handle
invariant-loop-handle l =
    Left (λ i g. ValueHasForm l.module g.ty g.init) l.module.global_variables l.handle-iterator
