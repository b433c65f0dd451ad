use Rattle.naga_tables.proofs.Searching.{Left}
use Rattle.naga_tables.specs.Declarations.{IoHasForm}
use Rattle.naga_tables.proofs.declarations.unsupported_in_functions.Given as goal

abbrev pub invariant-loop-handle : goal.invariant-loop-handle
invariant-loop-handle l =
    Left (λ i. IoHasForm) l.module.functions l.handle-iterator
