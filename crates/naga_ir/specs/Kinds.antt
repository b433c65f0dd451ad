-- What kind of thing each expression is: when it has its value, and what evaluating it does; and
-- which statements end a block.
--
-- Constants, leaves and results need no `Emit`: naga's `needs_pre_emit` names the first two, and a
-- result has its value by the statement that gives it. Of the expressions that an `Emit` evaluates,
-- a load reads memory; a request asks for another event: an operation on images, a derivative or a
-- cooperative load; and every other is an operator, whose value its operands alone determine.
use Rattle.std.specs.Prelude.{Bool, true, false}
use Rattle.naga_ir.specs.declared.expression.Expression.{Expression}
use Rattle.naga_ir.specs.declared.expression.Expression.TheVariants as expression
use Rattle.naga_ir.specs.declared.kind.ExpressionKind.{ExpressionKind}
use Rattle.naga_ir.specs.declared.kind.ExpressionKind.TheVariants.{Constant, Leaf, Pure, Load}
use Rattle.naga_ir.specs.declared.kind.ExpressionKind.TheVariants.{Request, Result}
use Rattle.naga_ir.specs.declared.statement.Statement.{Statement}
use Rattle.naga_ir.specs.declared.statement.Statement.TheVariants.{Break, Continue, Return, Kill}

abbrev pub kind_of : Expression → ExpressionKind
kind_of (expression.Literal value) = Constant
kind_of (expression.Constant handle) = Constant
kind_of (expression.Override handle) = Constant
kind_of (expression.ZeroValue ty) = Constant
kind_of (expression.Compose ty components) = Pure
kind_of (expression.Access base index) = Pure
kind_of (expression.AccessIndex base index) = Pure
kind_of (expression.Splat size value) = Pure
kind_of (expression.Swizzle size vector pattern) = Pure
kind_of (expression.FunctionArgument number) = Leaf
kind_of (expression.GlobalVariable handle) = Leaf
kind_of (expression.LocalVariable handle) = Leaf
kind_of (expression.Load pointer) = Load
kind_of
    (expression.ImageSample
    image sampler gather coordinate array_index offset level depth_ref clamp) =
    Request
kind_of (expression.ImageLoad image coordinate array_index sample level) = Request
kind_of (expression.ImageQuery image query) = Request
kind_of (expression.Unary op expr) = Pure
kind_of (expression.Binary op left right) = Pure
kind_of (expression.Select condition accept reject) = Pure
kind_of (expression.Derivative axis ctrl expr) = Request
kind_of (expression.Relational fun argument) = Pure
kind_of (expression.Math fun arg arg1 arg2 arg3) = Pure
kind_of (expression.As expr kind convert) = Pure
kind_of (expression.CallResult function) = Result
kind_of (expression.AtomicResult ty comparison) = Result
kind_of (expression.WorkGroupUniformLoadResult ty) = Result
kind_of (expression.ArrayLength array) = Pure
kind_of expression.RayQueryProceedResult = Result
kind_of (expression.RayQueryGetIntersection query committed) = Pure
kind_of (expression.RayQueryVertexPositions query committed) = Pure
kind_of expression.SubgroupBallotResult = Result
kind_of (expression.SubgroupOperationResult ty) = Result
kind_of (expression.CooperativeLoad columns rows role memory) = Request
kind_of (expression.CooperativeMultiplyAdd a b c) = Pure

-- what stands after such a statement in its block is not reached
abbrev pub ends_block : Statement → Bool
ends_block Break = true
ends_block Continue = true
ends_block (Return value) = true
ends_block Kill = true
ends_block _ = false
