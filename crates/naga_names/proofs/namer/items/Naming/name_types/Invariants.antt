use Rattle.std.specs.List.{flat_map, enumerate_from}
use Rattle.naga_naming.specs.Outputs.{words_in, labelled_type_by}
use Rattle.naga_names.specs.Progress.{progress, Leaves}
use Rattle.naga_names.proofs.namer.items.Naming.name_types.Given as goal

abbrev pub invariant-loop-handle : goal.invariant-loop-handle
invariant-loop-handle l =
    Leaves (progress l.initial.self l.initial.output) (progress l.self l.output)
    (flat_map (λ p. labelled_type_by (words_in l.outputs) p.0 p.1) (enumerate_from 0 l.types))
    (flat_map (λ p. labelled_type_by (words_in l.outputs) p.0 p.1) l.handle-iterator)
