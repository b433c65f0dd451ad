use Rattle.std.proofs.Common.{◌≡◌, drop}
use Rattle.naga_acceptance.specs.KnownTypes.{known_types}
use Rattle.fault_details.specs.Demands.{unmet}
use Rattle.fault_details.specs.Reasons.{passed_demands}
use Rattle.fault_details.proofs.statements.passed_reason.Given as goal

abbrev pub invariant-loop-index : goal.invariant-loop-index
invariant-loop-index l =
    unmet l.types (passed_demands (known_types l.known) (drop l.index l.arguments) (drop l.index l.values))
    ≡ unmet l.types (passed_demands (known_types l.known) l.arguments l.values)
