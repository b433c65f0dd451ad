use Rattle.std.proofs.Common.{◌≡◌, []}
use Rattle.naga_ir.specs.Operands.{expression_operands}
use Rattle.fault_details.specs.Demands.{OfEach, before, unmet}
use Rattle.fault_details.proofs.names.operands_reason.Given as goal

abbrev pub invariant-loop-operand : goal.invariant-loop-operand
invariant-loop-operand l =
    unmet [] (OfEach (before l.list l.here l.count) l.operand-iterator)
    ≡ unmet [] (OfEach (before l.list l.here l.count) (expression_operands l.expression))
