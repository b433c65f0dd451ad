use Rattle.std.proofs.Common.{◌≡◌, slice_get}
use Rattle.std.specs.List.{enumerate_from, list_any}
use Rattle.module_semantics.specs.Halves.{spells_known_halves}
use Rattle.module_semantics.proofs.extensions.functions_spell_halves.Given as goal

abbrev pub invariant-loop-handle : goal.invariant-loop-handle
invariant-loop-handle l =
    list_any (λ p. spells_known_halves l.module.types p.1 (slice_get l.info.functions.items p.0)) l.handle-iterator
    ≡ list_any (λ p. spells_known_halves l.module.types p.1 (slice_get l.info.functions.items p.0))
    (enumerate_from 0 l.module.functions)
