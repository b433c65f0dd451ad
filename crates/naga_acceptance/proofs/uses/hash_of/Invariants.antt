use Rattle.std.proofs.Common.{◌≡◌}
use Rattle.std.specs.Prelude.{map}
use Rattle.naga_ir.specs.Operands.{expression_operands}
use Rattle.module_semantics.specs.acceptance.AgreeingOperators.{identity_at}
use Rattle.naga_acceptance.specs.KnownTypes.{known_types}
use Rattle.naga_acceptance.specs.OperatorKeys.{key}
use Rattle.naga_acceptance.specs.Uses.{all_mixed, lists_mixed}
use Rattle.naga_acceptance.proofs.uses.hash_of.Given as goal

abbrev pub invariant-loop-operand : goal.invariant-loop-operand
invariant-loop-operand l =
    lists_mixed l.hash (map (identity_at l.types (known_types l.used.known)) l.operand-iterator)
    ≡ lists_mixed (all_mixed 0 (key l.types l.used.key))
    (map (identity_at l.types (known_types l.used.known)) (expression_operands l.used.expression.now))
