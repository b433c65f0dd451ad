use Rattle.std.proofs.Common.{◌≡◌, drop}
use Rattle.std.specs.List.{list_any}
use Rattle.module_semantics.specs.Halves.{value_is_over_halves}
use Rattle.module_semantics.proofs.extensions.known_over_halves.Given as goal

abbrev pub invariant-loop-info : goal.invariant-loop-info
invariant-loop-info l =
    list_any (λ k. value_is_over_halves k.ty) (drop l.info-index l.known)
    ≡ list_any (λ k. value_is_over_halves k.ty) l.known
