-- Operators over their operands, as they are written.
use Rattle.std.specs.Prelude.{List, [], ◌∷◌, Option, unwrap_or}
use Rattle.naga_ir.specs.declared.operators.BinaryOperator as ir
use Rattle.naga_ir.specs.declared.operators.BinaryOperator.TheVariants as operator
use Rattle.naga_ir.specs.declared.operators.UnaryOperator as ir_unary
use Rattle.naga_ir.specs.declared.operators.UnaryOperator.TheVariants as unary
use Rattle.module_semantics.specs.OperatorTable.{Operator, BinarySign, UnarySign, run_word}
use Rattle.wgsl_text.specs.Types.{TypeSpecifier, Named}
use Rattle.wgsl_text.specs.Expressions.{BinaryOperator, Add, Subtract, Multiply, Divide, Modulo}
use Rattle.wgsl_text.specs.Expressions.{Equal, NotEqual, Less, LessEqual, Greater, GreaterEqual}
use Rattle.wgsl_text.specs.Expressions.{And, ExclusiveOr, InclusiveOr, LogicalAnd, LogicalOr}
use Rattle.wgsl_text.specs.Expressions.{ShiftLeft, ShiftRight, UnaryOperator, Negate, LogicalNot}
use Rattle.wgsl_text.specs.Expressions.{BitwiseNot, Expression, Binary, Unary, Call, operands}
use Rattle.wgsl_text.specs.Expressions.{binary_pieces, unary_mark}
use Rattle.wgsl_text.specs.Text.{text, mark_text}

abbrev pub operator_form : ir.BinaryOperator → BinaryOperator
operator_form operator.Add = Add
operator_form operator.Subtract = Subtract
operator_form operator.Multiply = Multiply
operator_form operator.Divide = Divide
operator_form operator.Modulo = Modulo
operator_form operator.Equal = Equal
operator_form operator.NotEqual = NotEqual
operator_form operator.Less = Less
operator_form operator.LessEqual = LessEqual
operator_form operator.Greater = Greater
operator_form operator.GreaterEqual = GreaterEqual
operator_form operator.And = And
operator_form operator.ExclusiveOr = ExclusiveOr
operator_form operator.InclusiveOr = InclusiveOr
operator_form operator.LogicalAnd = LogicalAnd
operator_form operator.LogicalOr = LogicalOr
operator_form operator.ShiftLeft = ShiftLeft
operator_form operator.ShiftRight = ShiftRight

abbrev pub unary_form : ir_unary.UnaryOperator → UnaryOperator
unary_form unary.Negate = Negate
unary_form unary.LogicalNot = LogicalNot
unary_form unary.BitwiseNot = BitwiseNot

-- how an operator is written: between two operands, before one, or called by a word or a type with
-- all of them
pub data Notation : Type 0 where
  Infix : BinaryOperator → Notation
  Prefix : UnaryOperator → Notation
  Called : TypeSpecifier → Notation

-- The notation of an operator whose operands are all expressions, as those are that ask for no
-- event. One that is spelled by a type is called by that type, and any other by its word.
abbrev pub notation : (type : Option TypeSpecifier) → Operator → Notation
notation type (BinarySign op) = Infix (operator_form op)
notation type (UnarySign op) = Prefix (unary_form op)
notation type op = Called (unwrap_or type (Named (run_word op)))

-- what is called, where a sign is not between two operands or before one, as it is in no module
abbrev pub callee : Notation → TypeSpecifier
callee (Infix op) = Named (text (binary_pieces op))
callee (Prefix op) = Named (mark_text (unary_mark op))
callee (Called t) = t

-- the tree of an operator over operands
abbrev pub applied_form : Notation → List Expression → Expression
applied_form (Infix op) (left ∷ right ∷ []) = Binary left op right
applied_form (Prefix op) (operand ∷ []) = Unary op operand
applied_form n es = Call (callee n) (operands es)
