use Rattle.std.proofs.Common.{drop}
use Rattle.std.specs.List.{flat_map, enumerate_from}
use Rattle.naga_names.specs.Progress.{progress, Leaves, argument_items}
use Rattle.naga_names.proofs.namer.items.Naming.name_arguments.Given as goal

abbrev pub invariant-loop-index : goal.invariant-loop-index
invariant-loop-index l =
    Leaves (progress l.initial.self l.initial.output) (progress l.self l.output)
    (flat_map (λ p. argument_items l.owner l.types p.0 p.1) (enumerate_from 0 l.arguments))
    (flat_map (λ p. argument_items l.owner l.types p.0 p.1)
    (enumerate_from l.index (drop l.index l.arguments)))
