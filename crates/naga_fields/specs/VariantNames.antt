-- The names of the variants of expressions and statements, as naga's source and its JSON have them.
use Rattle.std.specs.Prelude.{ℕ, List, Bool, true, false, codes}
use Rattle.naga_ir.specs.StatementTree.{SimpleStatement, emit, break, continue, return, kill}
use Rattle.naga_ir.specs.StatementTree.{control_barrier, memory_barrier, store, image_store, atomic}
use Rattle.naga_ir.specs.StatementTree.{image_atomic, work_group_uniform_load, call, ray_query}
use Rattle.naga_ir.specs.StatementTree.{subgroup_ballot, subgroup_gather}
use Rattle.naga_ir.specs.StatementTree.{subgroup_collective_operation, cooperative_store}
use Rattle.naga_ir.specs.StatementTree.{ray_pipeline_function, StatementTree, simple, block, branch}
use Rattle.naga_ir.specs.StatementTree.{switch, loop}
use Rattle.naga_ir.specs.declared.expression.Expression.{Expression}
use Rattle.naga_ir.specs.declared.expression.Expression.TheVariants as expression
use Rattle.naga_ir.specs.declared.statement.RayPipelineFunction.{RayPipelineFunction}
use Rattle.naga_ir.specs.declared.statement.RayPipelineFunction.TheVariants.{TraceRay}

abbrev pub expression_name : Expression → List ℕ
expression_name (expression.Literal value) = codes "Literal"
expression_name (expression.Constant handle) = codes "Constant"
expression_name (expression.Override handle) = codes "Override"
expression_name (expression.ZeroValue ty) = codes "ZeroValue"
expression_name (expression.Compose ty components) = codes "Compose"
expression_name (expression.Access base index) = codes "Access"
expression_name (expression.AccessIndex base index) = codes "AccessIndex"
expression_name (expression.Splat size value) = codes "Splat"
expression_name (expression.Swizzle size vector pattern) = codes "Swizzle"
expression_name (expression.FunctionArgument number) = codes "FunctionArgument"
expression_name (expression.GlobalVariable handle) = codes "GlobalVariable"
expression_name (expression.LocalVariable handle) = codes "LocalVariable"
expression_name (expression.Load pointer) = codes "Load"
expression_name
    (expression.ImageSample image sampler gather coordinate array_index offset level depth_ref clamp) =
    codes "ImageSample"
expression_name (expression.ImageLoad image coordinate array_index sample level) = codes "ImageLoad"
expression_name (expression.ImageQuery image query) = codes "ImageQuery"
expression_name (expression.Unary op expr) = codes "Unary"
expression_name (expression.Binary op left right) = codes "Binary"
expression_name (expression.Select condition accept reject) = codes "Select"
expression_name (expression.Derivative axis ctrl expr) = codes "Derivative"
expression_name (expression.Relational fun argument) = codes "Relational"
expression_name (expression.Math fun arg arg1 arg2 arg3) = codes "Math"
expression_name (expression.As expr kind convert) = codes "As"
expression_name (expression.CallResult function) = codes "CallResult"
expression_name (expression.AtomicResult ty comparison) = codes "AtomicResult"
expression_name (expression.WorkGroupUniformLoadResult ty) = codes "WorkGroupUniformLoadResult"
expression_name (expression.ArrayLength array) = codes "ArrayLength"
expression_name expression.RayQueryProceedResult = codes "RayQueryProceedResult"
expression_name
    (expression.RayQueryGetIntersection query committed) =
    codes "RayQueryGetIntersection"
expression_name
    (expression.RayQueryVertexPositions query committed) =
    codes "RayQueryVertexPositions"
expression_name expression.SubgroupBallotResult = codes "SubgroupBallotResult"
expression_name (expression.SubgroupOperationResult ty) = codes "SubgroupOperationResult"
expression_name (expression.CooperativeLoad columns rows role memory) = codes "CooperativeLoad"
expression_name (expression.CooperativeMultiplyAdd a b c) = codes "CooperativeMultiplyAdd"

-- a store of a cooperative matrix also says how that lies in memory, and what is done with a ray which
-- of the functions of a pipeline it is
abbrev pub store_name : (row_major : Bool) → List ℕ
store_name true = codes "CooperativeStore by rows"
store_name false = codes "CooperativeStore by columns"

abbrev pub ray_name : RayPipelineFunction → List ℕ
ray_name (TraceRay structure descriptor payload) = codes "RayPipelineFunction TraceRay"

abbrev pub simple_name : SimpleStatement → List ℕ
simple_name (emit first end) = codes "Emit"
simple_name break = codes "Break"
simple_name continue = codes "Continue"
simple_name (return value) = codes "Return"
simple_name kill = codes "Kill"
simple_name (control_barrier flags) = codes "ControlBarrier"
simple_name (memory_barrier flags) = codes "MemoryBarrier"
simple_name (store pointer value) = codes "Store"
simple_name (image_store image coordinate array_index value) = codes "ImageStore"
simple_name (atomic pointer fun value outcome) = codes "Atomic"
simple_name (image_atomic image coordinate array_index fun value) = codes "ImageAtomic"
simple_name (work_group_uniform_load pointer outcome) = codes "WorkGroupUniformLoad"
simple_name (call function arguments outcome) = codes "Call"
simple_name (ray_query query) = codes "RayQuery"
simple_name (subgroup_ballot outcome predicate) = codes "SubgroupBallot"
simple_name (subgroup_gather mode argument outcome) = codes "SubgroupGather"
simple_name (subgroup_collective_operation op collective_op argument outcome) =
    codes "SubgroupCollectiveOperation"
simple_name (cooperative_store target data_) = store_name data_.row_major
simple_name (ray_pipeline_function fun) = ray_name fun

abbrev pub statement_name : StatementTree → List ℕ
statement_name (simple s) = simple_name s
statement_name (block b) = codes "Block"
statement_name (branch condition accept reject) = codes "If"
statement_name (switch selector cases) = codes "Switch"
statement_name (loop body continuing break_if) = codes "Loop"
