use Rattle.std.proofs.Common.{◌≡◌, drop, []}
use Rattle.fault_details.specs.Demands.{OfEach, OfSome, there, unmet}
use Rattle.module_semantics.specs.declared.named.ListName.TheVariants.{Overrides}
use Rattle.fault_details.proofs.names.sizes_reason.Given as goal

abbrev pub invariant-loop-size : goal.invariant-loop-size
invariant-loop-size l =
    unmet [] (OfEach (OfSome (there Overrides l.overrides)) (drop l.size-index l.sizes))
    ≡ unmet [] (OfEach (OfSome (there Overrides l.overrides)) l.sizes)
