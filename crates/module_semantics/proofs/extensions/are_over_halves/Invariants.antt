use Rattle.std.proofs.Common.{◌≡◌}
use Rattle.std.specs.List.{enumerate_from, list_any}
use Rattle.module_semantics.specs.Halves.{is_over_halves}
use Rattle.module_semantics.proofs.extensions.are_over_halves.Given as goal

abbrev pub invariant-loop-ty : goal.invariant-loop-ty
invariant-loop-ty l =
    list_any (λ p. is_over_halves p.1.inner) l.ty-iterator
    ≡ list_any (λ p. is_over_halves p.1.inner) (enumerate_from 0 l.types)
