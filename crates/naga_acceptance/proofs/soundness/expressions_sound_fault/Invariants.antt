use Rattle.std.proofs.Common.{◌≡◌}
use Rattle.std.specs.List.{enumerate_from}
use Rattle.naga_acceptance.specs.Searching.{first_faulty}
use Rattle.naga_acceptance.specs.FirstFaults.{expression_sound_fault}
use Rattle.naga_acceptance.specs.KnownTypes.{known_types}
use Rattle.std.specs.Option.{option_copied}
use Rattle.naga_acceptance.proofs.soundness.expressions_sound_fault.Given as goal

abbrev pub invariant-loop-handle : goal.invariant-loop-handle
invariant-loop-handle l =
    first_faulty (expression_sound_fault l.module (option_copied l.function) (known_types l.known)) (l.handle-iterator)
    ≡ first_faulty (expression_sound_fault l.module (option_copied l.function) (known_types l.known))
    (enumerate_from 0 l.expressions)
