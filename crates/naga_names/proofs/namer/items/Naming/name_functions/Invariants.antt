use Rattle.std.specs.List.{flat_map}
use Rattle.naga_naming.specs.Reset.{labelled_function, labelled_functions}
use Rattle.naga_names.specs.Progress.{progress, Leaves}
use Rattle.naga_names.proofs.namer.items.Naming.name_functions.Given as goal

abbrev pub invariant-loop-handle : goal.invariant-loop-handle
invariant-loop-handle l =
    Leaves (progress l.initial.self l.initial.output) (progress l.self l.output)
    (labelled_functions l.types l.functions)
    (flat_map (λ p. labelled_function l.types p.0 p.1) l.handle-iterator)
