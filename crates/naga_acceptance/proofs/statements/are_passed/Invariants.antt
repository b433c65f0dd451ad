use Rattle.std.proofs.Common.{◌≡◌, drop}
use Rattle.module_semantics.specs.acceptance.StatementsFit.{are_passed}
use Rattle.naga_acceptance.specs.KnownTypes.{known_types}
use Rattle.naga_acceptance.proofs.statements.are_passed.Given as goal

abbrev pub invariant-loop-index : goal.invariant-loop-index
invariant-loop-index l =
    are_passed l.types (known_types l.known) (drop l.index l.arguments) (drop l.index l.values)
    ≡ are_passed l.types (known_types l.known) l.arguments l.values
