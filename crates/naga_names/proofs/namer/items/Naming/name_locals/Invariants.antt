use Rattle.std.proofs.Common.{map}
use Rattle.std.specs.List.{enumerate_from}
use Rattle.naga_names.specs.Progress.{progress, Leaves, local_item}
use Rattle.naga_names.proofs.namer.items.Naming.name_locals.Given as goal

abbrev pub invariant-loop-handle : goal.invariant-loop-handle
invariant-loop-handle l =
    Leaves (progress l.initial.self l.initial.output) (progress l.self l.output)
    (map (λ p. local_item l.owner p.0 p.1) (enumerate_from 0 l.locals))
    (map (λ p. local_item l.owner p.0 p.1) l.handle-iterator)
