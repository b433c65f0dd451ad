use Rattle.std.proofs.Common.{◌≡◌}
use Rattle.std.specs.List.{enumerate_from, filter_map}
use Rattle.naga_naming.specs.Keys.{names_in}
use Rattle.name_maps.proofs.FewMembers.{HaveFew}
use Rattle.name_maps.proofs.MadeRows.{picked_after}
use Rattle.name_maps.specs.NameMaps.{declared_struct}
use Rattle.name_maps.proofs.items.struct_rows.Given as goal

abbrev pub invariant-loop-handle : goal.invariant-loop-handle
invariant-loop-handle l =
    let one = declared_struct (names_in l.names) l.«module».special_types in
    (picked_after one l.rows.items l.handle-iterator
    ≡ filter_map one (enumerate_from 0 l.«module».types))
    × HaveFew l.handle-iterator
