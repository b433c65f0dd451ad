use Rattle.std.proofs.Common.{◌≡◌, drop, slice_get}
use Rattle.std.specs.List.{enumerate_from, list_any}
use Rattle.module_semantics.specs.Halves.{spells_known_halves}
use Rattle.module_semantics.proofs.extensions.entry_points_spell_halves.Given as goal

abbrev pub invariant-loop-index : goal.invariant-loop-index
invariant-loop-index l =
    list_any (λ p. spells_known_halves l.module.types p.1.function (slice_get l.info.entry_points.items p.0))
    (enumerate_from l.index (drop l.index l.module.entry_points.items))
    ≡ list_any (λ p. spells_known_halves l.module.types p.1.function (slice_get l.info.entry_points.items p.0))
    (enumerate_from 0 l.module.entry_points.items)
