-- The operands of expressions and statements, each by its handle, in the order in which WGSL writes
-- them. The result of a statement is no operand, nor is an `Emit`'s range. And which statements have
-- results.
use Rattle.std.specs.Prelude.{ℕ, List, [], ◌∷◌, ◌++◌, Option, Some, None, drop}
use Rattle.std.specs.Option.{option_to_list}
use Rattle.naga_ir.specs.StatementTree.{SimpleStatement, emit, break, continue, return, kill}
use Rattle.naga_ir.specs.StatementTree.{control_barrier, memory_barrier, store, image_store, atomic}
use Rattle.naga_ir.specs.StatementTree.{image_atomic, work_group_uniform_load, call, ray_query}
use Rattle.naga_ir.specs.StatementTree.{subgroup_ballot, subgroup_gather}
use Rattle.naga_ir.specs.StatementTree.{subgroup_collective_operation, cooperative_store}
use Rattle.naga_ir.specs.StatementTree.{ray_pipeline_function, StatementTree, simple, block, branch}
use Rattle.naga_ir.specs.StatementTree.{switch, loop, BlockTree, no_statements, statement}
use Rattle.naga_ir.specs.StatementTree.{CaseTrees, no_cases, case}
use Rattle.naga_ir.specs.declared.expression.CooperativeData.{CooperativeData}
use Rattle.naga_ir.specs.declared.expression.Expression.{Expression}
use Rattle.naga_ir.specs.declared.expression.Expression.TheVariants.{Compose, Access, AccessIndex}
use Rattle.naga_ir.specs.declared.expression.Expression.TheVariants.{Splat, Swizzle, Load}
use Rattle.naga_ir.specs.declared.expression.Expression.TheVariants.{ImageSample, ImageLoad}
use Rattle.naga_ir.specs.declared.expression.Expression.TheVariants.{ImageQuery, Unary, Binary}
use Rattle.naga_ir.specs.declared.expression.Expression.TheVariants.{Select, Derivative, Relational}
use Rattle.naga_ir.specs.declared.expression.Expression.TheVariants.{Math, As, ArrayLength}
use Rattle.naga_ir.specs.declared.expression.Expression.TheVariants.{RayQueryGetIntersection}
use Rattle.naga_ir.specs.declared.expression.Expression.TheVariants.{RayQueryVertexPositions}
use Rattle.naga_ir.specs.declared.expression.Expression.TheVariants.{CooperativeLoad}
use Rattle.naga_ir.specs.declared.expression.Expression.TheVariants.{CooperativeMultiplyAdd}
use Rattle.naga_ir.specs.declared.expression.Expression.TheVariants.{Literal, Constant, Override}
use Rattle.naga_ir.specs.declared.expression.Expression.TheVariants.{ZeroValue, FunctionArgument}
use Rattle.naga_ir.specs.declared.expression.Expression.TheVariants.{GlobalVariable, LocalVariable}
use Rattle.naga_ir.specs.declared.expression.Expression.TheVariants.{CallResult, AtomicResult}
use Rattle.naga_ir.specs.declared.expression.Expression.TheVariants.{WorkGroupUniformLoadResult}
use Rattle.naga_ir.specs.declared.expression.Expression.TheVariants.{RayQueryProceedResult}
use Rattle.naga_ir.specs.declared.expression.Expression.TheVariants.{SubgroupBallotResult}
use Rattle.naga_ir.specs.declared.expression.Expression.TheVariants.{SubgroupOperationResult}
use Rattle.naga_ir.specs.declared.expression.ImageQuery.{ImageQuery as Query}
use Rattle.naga_ir.specs.declared.expression.ImageQuery.TheVariants.{Size, NumLevels, NumLayers}
use Rattle.naga_ir.specs.declared.expression.ImageQuery.TheVariants.{NumSamples}
use Rattle.naga_ir.specs.declared.expression.SampleLevel.{SampleLevel}
use Rattle.naga_ir.specs.declared.expression.SampleLevel.TheVariants.{Auto, Zero, Exact, Bias}
use Rattle.naga_ir.specs.declared.expression.SampleLevel.TheVariants.{Gradient}
use Rattle.naga_ir.specs.declared.operators.AtomicFunction.{AtomicFunction}
use Rattle.naga_ir.specs.declared.operators.AtomicFunction.TheVariants.{Exchange}
use Rattle.naga_ir.specs.declared.operators.GatherMode.{GatherMode}
use Rattle.naga_ir.specs.declared.operators.GatherMode.TheVariants.{BroadcastFirst, Broadcast}
use Rattle.naga_ir.specs.declared.operators.GatherMode.TheVariants.{Shuffle, ShuffleDown, ShuffleUp}
use Rattle.naga_ir.specs.declared.operators.GatherMode.TheVariants.{ShuffleXor, QuadBroadcast}
use Rattle.naga_ir.specs.declared.operators.GatherMode.TheVariants.{QuadSwap}
use Rattle.naga_ir.specs.declared.statement.RayPipelineFunction.{RayPipelineFunction}
use Rattle.naga_ir.specs.declared.statement.RayPipelineFunction.TheVariants.{TraceRay}

abbrev pub level_operands : SampleLevel → List ℕ
level_operands Auto = []
level_operands Zero = []
level_operands (Exact level) = level ∷ []
level_operands (Bias bias) = bias ∷ []
level_operands (Gradient x y) = x ∷ y ∷ []

abbrev pub query_operands : Query → List ℕ
query_operands (Size level) = option_to_list level
query_operands NumLevels = []
query_operands NumLayers = []
query_operands NumSamples = []

abbrev pub cooperative_operands : CooperativeData → List ℕ
cooperative_operands memory = memory.pointer ∷ memory.stride ∷ []

abbrev pub expression_operands : Expression → List ℕ
expression_operands (Literal value) = []
expression_operands (Constant handle) = []
expression_operands (Override handle) = []
expression_operands (ZeroValue ty) = []
expression_operands (Compose ty components) = components.items
expression_operands (Access base index) = base ∷ index ∷ []
expression_operands (AccessIndex base index) = base ∷ []
expression_operands (Splat size value) = value ∷ []
expression_operands (Swizzle size vector pattern) = vector ∷ []
expression_operands (FunctionArgument number) = []
expression_operands (GlobalVariable handle) = []
expression_operands (LocalVariable handle) = []
expression_operands (Load pointer) = pointer ∷ []
expression_operands
    (ImageSample image sampler gather coordinate array_index offset level depth_ref clamp) =
    image ∷ sampler ∷ coordinate ∷ option_to_list array_index ++ option_to_list depth_ref ++
    level_operands level ++ option_to_list offset
expression_operands (ImageLoad image coordinate array_index sample level) =
    image ∷ coordinate ∷ option_to_list array_index ++ option_to_list sample ++ option_to_list level
expression_operands (ImageQuery image query) = image ∷ query_operands query
expression_operands (Unary op expr) = expr ∷ []
expression_operands (Binary op left right) = left ∷ right ∷ []
expression_operands (Select condition accept reject) = reject ∷ accept ∷ condition ∷ []
expression_operands (Derivative axis ctrl expr) = expr ∷ []
expression_operands (Relational fun argument) = argument ∷ []
expression_operands (Math fun arg arg1 arg2 arg3) =
    arg ∷ option_to_list arg1 ++ option_to_list arg2 ++ option_to_list arg3
expression_operands (As expr kind convert) = expr ∷ []
expression_operands (CallResult function) = []
expression_operands (AtomicResult ty comparison) = []
expression_operands (WorkGroupUniformLoadResult ty) = []
expression_operands (ArrayLength array) = array ∷ []
expression_operands RayQueryProceedResult = []
expression_operands (RayQueryGetIntersection query committed) = query ∷ []
expression_operands (RayQueryVertexPositions query committed) = query ∷ []
expression_operands SubgroupBallotResult = []
expression_operands (SubgroupOperationResult ty) = []
expression_operands (CooperativeLoad columns rows role memory) = cooperative_operands memory
expression_operands (CooperativeMultiplyAdd a b c) = a ∷ b ∷ c ∷ []

-- those of an expression, if there is one, from this number on
abbrev pub operands_from : (number : ℕ) → Option Expression → List ℕ
operands_from number None = []
operands_from number (Some e) = drop number (expression_operands e)

abbrev pub atomic_operands : AtomicFunction → List ℕ
atomic_operands (Exchange compare) = option_to_list compare
atomic_operands _ = []

abbrev pub gather_operands : GatherMode → List ℕ
gather_operands BroadcastFirst = []
gather_operands (Broadcast index) = index ∷ []
gather_operands (Shuffle index) = index ∷ []
gather_operands (ShuffleDown delta) = delta ∷ []
gather_operands (ShuffleUp delta) = delta ∷ []
gather_operands (ShuffleXor mask) = mask ∷ []
gather_operands (QuadBroadcast index) = index ∷ []
gather_operands (QuadSwap direction) = []

abbrev pub ray_operands : RayPipelineFunction → List ℕ
ray_operands (TraceRay structure descriptor payload) = structure ∷ descriptor ∷ payload ∷ []

abbrev pub simple_operands : SimpleStatement → List ℕ
simple_operands (emit first end) = []
simple_operands break = []
simple_operands continue = []
simple_operands (return value) = option_to_list value
simple_operands kill = []
simple_operands (control_barrier flags) = []
simple_operands (memory_barrier flags) = []
simple_operands (store pointer value) = pointer ∷ value ∷ []
simple_operands (image_store image coordinate array_index value) =
    image ∷ coordinate ∷ option_to_list array_index ++ value ∷ []
simple_operands (atomic pointer fun value outcome) = pointer ∷ atomic_operands fun ++ value ∷ []
simple_operands (image_atomic image coordinate array_index fun value) =
    image ∷ coordinate ∷ option_to_list array_index ++ atomic_operands fun ++ value ∷ []
simple_operands (work_group_uniform_load pointer outcome) = pointer ∷ []
simple_operands (call function arguments outcome) = arguments
simple_operands (ray_query query) = query ∷ []
simple_operands (subgroup_ballot outcome predicate) = option_to_list predicate
simple_operands (subgroup_gather mode argument outcome) = argument ∷ gather_operands mode
simple_operands (subgroup_collective_operation op collective_op argument outcome) = argument ∷ []
simple_operands (cooperative_store target memory) = target ∷ cooperative_operands memory
simple_operands (ray_pipeline_function fun) = ray_operands fun

-- those of a statement by itself, without those of the statements in its blocks
abbrev pub own_operands : StatementTree → List ℕ
own_operands (simple s) = simple_operands s
own_operands (block b) = []
own_operands (branch condition accept reject) = condition ∷ []
own_operands (switch selector cases) = selector ∷ []
own_operands (loop body continuing break_if) = option_to_list break_if

-- the expression for which the statement gives a value, if it gives one: its result
abbrev pub simple_result : SimpleStatement → Option ℕ
simple_result (emit first end) = None
simple_result break = None
simple_result continue = None
simple_result (return value) = None
simple_result kill = None
simple_result (control_barrier flags) = None
simple_result (memory_barrier flags) = None
simple_result (store pointer value) = None
simple_result (image_store image coordinate array_index value) = None
simple_result (atomic pointer fun value outcome) = outcome
simple_result (image_atomic image coordinate array_index fun value) = None
simple_result (work_group_uniform_load pointer outcome) = Some outcome
simple_result (call function arguments outcome) = outcome
simple_result (ray_query query) = None
simple_result (subgroup_ballot outcome predicate) = Some outcome
simple_result (subgroup_gather mode argument outcome) = Some outcome
simple_result (subgroup_collective_operation op collective_op argument outcome) = Some outcome
simple_result (cooperative_store target memory) = None
simple_result (ray_pipeline_function fun) = None

abbrev pub own_result : StatementTree → Option ℕ
own_result (simple s) = simple_result s
own_result _ = None

abbrev mutual
  pub statement_operands : StatementTree → List ℕ
  statement_operands (simple s) = simple_operands s
  statement_operands (block b) = block_operands b
  statement_operands (branch condition accept reject) =
      condition ∷ block_operands accept ++ block_operands reject
  statement_operands (switch selector cases) = selector ∷ cases_operands cases
  statement_operands (loop body continuing break_if) =
      block_operands body ++ block_operands continuing ++ option_to_list break_if

  pub block_operands : BlockTree → List ℕ
  block_operands no_statements = []
  block_operands (statement s b) = statement_operands s ++ block_operands b

  pub cases_operands : CaseTrees → List ℕ
  cases_operands no_cases = []
  cases_operands (case value body falls cases) = block_operands body ++ cases_operands cases
