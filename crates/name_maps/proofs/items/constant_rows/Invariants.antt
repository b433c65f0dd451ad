use Rattle.std.proofs.Common.{◌≡◌}
use Rattle.std.specs.List.{enumerate_from, filter_map}
use Rattle.naga_naming.specs.Keys.{names_in}
use Rattle.name_maps.proofs.MadeRows.{picked_after}
use Rattle.name_maps.specs.NameMaps.{named_constant}
use Rattle.name_maps.proofs.items.constant_rows.Given as goal

abbrev pub invariant-loop-handle : goal.invariant-loop-handle
invariant-loop-handle l =
    picked_after (named_constant (names_in l.names)) l.rows.items l.handle-iterator
    ≡ filter_map (named_constant (names_in l.names)) (enumerate_from 0 l.constants)
