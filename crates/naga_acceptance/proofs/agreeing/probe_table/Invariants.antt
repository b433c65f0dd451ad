use Rattle.module_semantics.specs.acceptance.AgreeingOperators.{groups_of}
use Rattle.naga_acceptance.specs.Uses.{ArePassed, operation}
use Rattle.naga_acceptance.proofs.agreeing.probe_table.Given as goal

abbrev pub invariant-loop-steps : goal.invariant-loop-steps
invariant-loop-steps l =
    ArePassed l.module.types (groups_of l.module l.info) l.slots l.table (operation l.module.types l.used) l.steps
