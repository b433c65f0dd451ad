use Rattle.std.proofs.Common.{◌≡◌, max}
use Rattle.naga_ir.specs.Operands.{expression_operands}
use Rattle.module_limits.specs.Depths.{deepest}
use Rattle.module_limits.proofs.depths.deepest_operand.Given as goal

abbrev pub invariant-loop-operand : goal.invariant-loop-operand
invariant-loop-operand l = max l.deepest (deepest l.depths l.operand-iterator)
    ≡ deepest l.depths (expression_operands l.expression)
