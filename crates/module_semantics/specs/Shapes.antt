-- What the shapes of expressions, statements and functions are made of: an operator over operands,
-- the label of a case, and which handles a front end named.
use Rattle.std.specs.Prelude.{ℕ, pos, ◌+◌, Bool, List, [], ◌∷◌}
use Rattle.std.specs.List.{list_any}
use Rattle.std.specs.Bool.{nat_eq}
use Rattle.naga_ir.specs.declared.statement.SwitchValue.{SwitchValue}
use Rattle.naga_ir.specs.declared.statement.SwitchValue.TheVariants as switch_value
use Rattle.naga_ir.specs.declared.expression.Expression as ir
use Rattle.naga_ir.specs.declared.operators.BinaryOperator.TheVariants.{LogicalAnd, LogicalOr}
use Rattle.module_semantics.specs.OperatorTable.{Operator as TableOperator, BinarySign, run_word}
use Rattle.shader_runs.specs.Value.{ShortCircuitAnd, ShortCircuitOr}
use Rattle.shader_runs.specs.Program.{Expression, Operator, Logical, CaseValue, Numbered, Default}

-- `&&` and `||` evaluate their right side only where it decides; any other operator is its word
abbrev pub operator_shape : TableOperator → List ℕ → Expression
operator_shape (BinarySign LogicalAnd) (left ∷ right ∷ []) = Logical ShortCircuitAnd left right
operator_shape (BinarySign LogicalOr) (left ∷ right ∷ []) = Logical ShortCircuitOr left right
operator_shape operator operands = Operator (run_word operator) operands

-- the value of a case
abbrev pub case_value_shape : SwitchValue → CaseValue
case_value_shape (switch_value.I32 z) = Numbered z
case_value_shape (switch_value.U32 n) = Numbered (pos n)
case_value_shape switch_value.Default = Default

-- which of the handles from this one on a front end named
abbrev pub named_from : List ℕ → ℕ → List ir.Expression → List Bool
named_from named h [] = []
named_from named h (e ∷ es) = list_any (nat_eq h) named ∷ named_from named (h + 1) es
