use Rattle.std.proofs.Common.{◌≡◌, drop, map}
use Rattle.std.specs.List.{enumerate_from}
use Rattle.naga_naming.specs.Keys.{names_in}
use Rattle.name_maps.proofs.MadeRows.{rows_after}
use Rattle.name_maps.specs.NameMaps.{entry_point_row}
use Rattle.name_maps.proofs.items.entry_point_rows.Given as goal

abbrev pub invariant-loop-index : goal.invariant-loop-index
invariant-loop-index l =
    rows_after (entry_point_row (names_in l.names)) l.rows.items (enumerate_from l.index (drop l.index l.entry_points))
    ≡ map (entry_point_row (names_in l.names)) (enumerate_from 0 l.entry_points)
