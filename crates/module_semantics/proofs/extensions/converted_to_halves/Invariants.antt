use Rattle.std.proofs.Common.{◌≡◌}
use Rattle.std.specs.List.{enumerate_from, list_any}
use Rattle.module_semantics.specs.Halves.{converts_to_halves}
use Rattle.module_semantics.proofs.extensions.converted_to_halves.Given as goal

abbrev pub invariant-loop-expression : goal.invariant-loop-expression
invariant-loop-expression l =
    list_any (λ p. converts_to_halves l.types l.known p.1) l.expression-iterator
    ≡ list_any (λ p. converts_to_halves l.types l.known p.1) (enumerate_from 0 l.expressions)
