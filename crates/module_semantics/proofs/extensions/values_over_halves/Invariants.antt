use Rattle.std.proofs.Common.{◌≡◌, drop}
use Rattle.std.specs.List.{list_any}
use Rattle.module_semantics.specs.Halves.{value_is_over_halves}
use Rattle.module_semantics.proofs.extensions.values_over_halves.Given as goal

abbrev pub invariant-loop-ty : goal.invariant-loop-ty
invariant-loop-ty l =
    list_any value_is_over_halves (drop l.ty-index l.known) ≡ list_any value_is_over_halves l.known
