use Rattle.naga_tables.proofs.Searching.{Left}
use Rattle.naga_tables.specs.Declarations.{ConstantHasForm}
use Rattle.naga_tables.proofs.declarations.unsupported_in_constants.Given as goal

abbrev pub invariant-loop-handle : goal.invariant-loop-handle
invariant-loop-handle l =
    Left (λ i. ConstantHasForm l.module) l.module.constants l.handle-iterator
