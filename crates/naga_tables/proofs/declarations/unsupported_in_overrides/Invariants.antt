use Rattle.naga_tables.proofs.Searching.{Left}
use Rattle.naga_tables.specs.Declarations.{ValueHasForm}
use Rattle.naga_tables.proofs.declarations.unsupported_in_overrides.Given as goal

abbrev pub invariant-loop-handle : goal.invariant-loop-handle
invariant-loop-handle l =
    Left (λ i o. ValueHasForm l.module o.ty o.init) l.module.overrides l.handle-iterator
