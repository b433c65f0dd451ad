use Rattle.std.proofs.Common.{◌≡◌, drop, []}
use Rattle.fault_details.specs.Demands.{OfEach, there, unmet}
use Rattle.module_semantics.specs.declared.named.ListName.TheVariants.{Types}
use Rattle.fault_details.proofs.names.arguments_reason.Given as goal

abbrev pub invariant-loop-argument : goal.invariant-loop-argument
invariant-loop-argument l =
    unmet [] (OfEach (λ a. there Types l.types a.ty) (drop l.argument-index l.arguments))
    ≡ unmet [] (OfEach (λ a. there Types l.types a.ty) l.arguments)
