use Rattle.std.proofs.Common.{◌≡◌, []}
use Rattle.indexmap.specs.IndexMap.{values}
use Rattle.fault_details.specs.Demands.{OfEach, there, unmet}
use Rattle.module_semantics.specs.declared.named.ListName.TheVariants.{Types}
use Rattle.fault_details.proofs.names.predeclared_reason.Given as goal

abbrev pub invariant-loop-handle : goal.invariant-loop-handle
invariant-loop-handle l =
    unmet [] (OfEach (there Types l.types) l.handle-iterator)
    ≡ unmet [] (OfEach (there Types l.types) (values l.predeclared))
