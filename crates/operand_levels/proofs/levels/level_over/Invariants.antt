use Rattle.std.proofs.Common.{◌≡◌, max}
use Rattle.naga_ir.specs.Operands.{expression_operands}
use Rattle.operand_levels.specs.Levels.{level_over}
use Rattle.operand_levels.proofs.levels.level_over.Given as goal

abbrev pub invariant-loop-operand : goal.invariant-loop-operand
invariant-loop-operand l =
    max l.level (level_over l.levels l.operand-iterator) ≡ level_over l.levels (expression_operands l.expression)
