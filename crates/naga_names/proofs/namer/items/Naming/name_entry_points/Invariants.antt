use Rattle.std.proofs.Common.{drop}
use Rattle.std.specs.List.{flat_map, enumerate_from}
use Rattle.naga_naming.specs.Reset.{labelled_entry_point, labelled_entry_points}
use Rattle.naga_names.specs.Progress.{progress, Leaves}
use Rattle.naga_names.proofs.namer.items.Naming.name_entry_points.Given as goal

abbrev pub invariant-loop-index : goal.invariant-loop-index
invariant-loop-index l =
    Leaves (progress l.initial.self l.initial.output) (progress l.self l.output)
    (labelled_entry_points l.entry_points)
    (flat_map (λ p. labelled_entry_point p.0 p.1)
    (enumerate_from l.index (drop l.index l.entry_points)))
