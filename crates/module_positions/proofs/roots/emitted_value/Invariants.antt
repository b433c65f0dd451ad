use Rattle.std.proofs.Common.{◌≡◌}
use Rattle.naga_ir.specs.Operands.{expression_operands}
use Rattle.module_positions.specs.Roots.{emitted_value}
use Rattle.module_positions.proofs.roots.emitted_value.Given as goal

abbrev pub invariant-loop-operand : goal.invariant-loop-operand
invariant-loop-operand l =
    emitted_value l.values l.statement l.operand-iterator
    ≡ emitted_value l.values l.statement (expression_operands l.expression)
