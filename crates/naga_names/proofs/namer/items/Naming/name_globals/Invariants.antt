use Rattle.std.specs.List.{flat_map}
use Rattle.naga_naming.specs.Reset.{labelled_global, labelled_globals}
use Rattle.naga_names.specs.Progress.{progress, Leaves}
use Rattle.naga_names.proofs.namer.items.Naming.name_globals.Given as goal

abbrev pub invariant-loop-handle : goal.invariant-loop-handle
invariant-loop-handle l =
    Leaves (progress l.initial.self l.initial.output) (progress l.self l.output)
    (labelled_globals l.types l.globals)
    (flat_map (λ p. labelled_global l.types p.0 p.1) l.handle-iterator)
