use Rattle.std.proofs.Common.{◌≡◌}
use Rattle.naga_ir.specs.Operands.{expression_operands}
use Rattle.module_positions.specs.Roots.{are_constant}
use Rattle.module_positions.proofs.roots.are_constant.Given as goal

abbrev pub invariant-loop-operand : goal.invariant-loop-operand
invariant-loop-operand l =
    are_constant l.values l.operand-iterator ≡ are_constant l.values (expression_operands l.expression)
