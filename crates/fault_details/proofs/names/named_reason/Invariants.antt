use Rattle.std.proofs.Common.{◌≡◌, []}
use Rattle.indexmap.specs.IndexMap.{keys}
use Rattle.fault_details.specs.Demands.{OfEach, there, unmet}
use Rattle.module_semantics.specs.declared.named.ListName.TheVariants.{Expressions}
use Rattle.fault_details.proofs.names.named_reason.Given as goal

abbrev pub invariant-loop-handle : goal.invariant-loop-handle
invariant-loop-handle l =
    unmet [] (OfEach (there Expressions l.count) l.handle-iterator)
    ≡ unmet [] (OfEach (there Expressions l.count) (keys l.function.named_expressions))
