-- The kind of what an expression evaluates, in the words that sort the module's expressions. A
-- shape has the kind of its expression, but that the load of an atomic is a request
-- (`proofs/ExpressionShapes`). A handle without an expression counts as a result.
use Rattle.std.specs.Prelude.{Option, Some, None}
use Rattle.naga_ir.specs.declared.kind.ExpressionKind.{ExpressionKind}
use Rattle.naga_ir.specs.declared.kind.ExpressionKind.TheVariants as kind
use Rattle.shader_runs.specs.Program.{Expression, Constant, Argument, Local, Global, Load, Operator}
use Rattle.shader_runs.specs.Program.{Access, AccessIndex, Swizzle, Logical, Request, Result}

abbrev pub shape_kind : Option Expression → ExpressionKind
shape_kind (Some (Constant tree)) = kind.Constant
shape_kind (Some (Argument number)) = kind.Leaf
shape_kind (Some (Local number)) = kind.Leaf
shape_kind (Some (Global held number)) = kind.Leaf
shape_kind (Some (Load pointer)) = kind.Load
shape_kind (Some (Operator word operands)) = kind.Pure
shape_kind (Some (Access base index)) = kind.Pure
shape_kind (Some (AccessIndex selector base)) = kind.Pure
shape_kind (Some (Swizzle letters vector)) = kind.Pure
shape_kind (Some (Logical circuit left right)) = kind.Pure
shape_kind (Some (Request word operands constants)) = kind.Request
shape_kind (Some Result) = kind.Result
shape_kind None = kind.Result
