use Rattle.std.proofs.Common.{◌≡◌, drop, map}
use Rattle.std.specs.List.{enumerate_from}
use Rattle.naga_naming.specs.Keys.{names_in}
use Rattle.name_maps.proofs.MadeRows.{rows_after}
use Rattle.name_maps.specs.NameMaps.{member_row}
use Rattle.name_maps.proofs.items.member_rows.Given as goal

abbrev pub invariant-loop-index : goal.invariant-loop-index
invariant-loop-index l =
    rows_after (member_row (names_in l.names) l.handle) l.rows.items (enumerate_from l.index (drop l.index l.members))
    ≡ map (member_row (names_in l.names) l.handle) (enumerate_from 0 l.members)
