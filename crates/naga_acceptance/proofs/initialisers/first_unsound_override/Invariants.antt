use Rattle.std.proofs.Common.{◌≡◌}
use Rattle.std.specs.List.{enumerate_from}
use Rattle.naga_acceptance.specs.Searching.{first_unfit}
use Rattle.module_semantics.specs.acceptance.Initialisers.{override_is_sound}
use Rattle.naga_acceptance.specs.KnownTypes.{known_types}
use Rattle.naga_acceptance.proofs.initialisers.first_unsound_override.Given as goal

abbrev pub invariant-loop-handle : goal.invariant-loop-handle
invariant-loop-handle l =
    first_unfit (λ _. override_is_sound l.types (known_types l.known)) (l.handle-iterator)
    ≡ first_unfit (λ _. override_is_sound l.types (known_types l.known)) (enumerate_from 0 l.overrides)
