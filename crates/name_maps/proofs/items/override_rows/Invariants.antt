use Rattle.std.proofs.Common.{◌≡◌, map}
use Rattle.std.specs.List.{enumerate_from}
use Rattle.naga_naming.specs.Keys.{names_in}
use Rattle.name_maps.proofs.MadeRows.{rows_after}
use Rattle.name_maps.specs.NameMaps.{override_row}
use Rattle.name_maps.proofs.items.override_rows.Given as goal

abbrev pub invariant-loop-handle : goal.invariant-loop-handle
invariant-loop-handle l =
    rows_after (override_row (names_in l.names)) l.rows.items l.handle-iterator
    ≡ map (override_row (names_in l.names)) (enumerate_from 0 l.overrides)
