-- The fields of expressions and statements that hold an operand or a result, or may hold one: their
-- names and what they hold, in the order of naga's source, a result after the operands. Fields of
-- what a field holds stand instead of it. What has no name there has one of its own: the `array` of
-- an `ArrayLength`, and the `index` of a gather. Without the fields of a sampling's level of detail,
-- and without those that are lists.
use Rattle.std.specs.Prelude.{ℕ, List, [], ◌∷◌, Option, Some, None, codes}
use Rattle.std.specs.Borrow.{Bor}
use Rattle.naga_ir.specs.StatementTree.{SimpleStatement, return, store, image_store, atomic}
use Rattle.naga_ir.specs.StatementTree.{image_atomic, work_group_uniform_load, call, ray_query}
use Rattle.naga_ir.specs.StatementTree.{subgroup_ballot, subgroup_gather, cooperative_store}
use Rattle.naga_ir.specs.StatementTree.{subgroup_collective_operation, ray_pipeline_function}
use Rattle.naga_ir.specs.StatementTree.{StatementTree, simple, branch, switch, loop}
use Rattle.naga_ir.specs.declared.expression.CooperativeData.{CooperativeData}
use Rattle.naga_ir.specs.declared.expression.Expression.{Expression}
use Rattle.naga_ir.specs.declared.expression.Expression.TheVariants as expression
use Rattle.naga_ir.specs.declared.expression.ImageQuery.{ImageQuery as Query}
use Rattle.naga_ir.specs.declared.expression.ImageQuery.TheVariants.{Size}
use Rattle.naga_ir.specs.declared.operators.AtomicFunction.{AtomicFunction}
use Rattle.naga_ir.specs.declared.operators.AtomicFunction.TheVariants.{Exchange}
use Rattle.naga_ir.specs.declared.operators.GatherMode.{GatherMode}
use Rattle.naga_ir.specs.declared.operators.GatherMode.TheVariants.{Broadcast, Shuffle, ShuffleDown}
use Rattle.naga_ir.specs.declared.operators.GatherMode.TheVariants.{ShuffleUp, ShuffleXor}
use Rattle.naga_ir.specs.declared.operators.GatherMode.TheVariants.{QuadBroadcast}
use Rattle.naga_ir.specs.declared.statement.RayPipelineFunction.{RayPipelineFunction}
use Rattle.naga_ir.specs.declared.statement.RayPipelineFunction.TheVariants.{TraceRay}

-- a field by its name, and what it holds
abbrev pub Field : Type 0
Field = List ℕ × Option ℕ

-- so contracts see what code tells of one
abbrev pub seen : Bor (List ℕ) × Option ℕ → Field
seen (name, held) = (name.now, held)

abbrev pub holds : (name : List ℕ) (h : ℕ) → Field
holds name h = (name, Some h)

-- the level of which a query asks, if it asks for one
abbrev pub query_level : Query → Option ℕ
query_level (Size level) = level
query_level _ = None

-- what the old value is compared with, if it is compared
abbrev pub compared : AtomicFunction → Option ℕ
compared (Exchange compare) = compare
compared _ = None

-- by what the other invocation is told, if it is told by an operand
abbrev pub told_by : GatherMode → Option ℕ
told_by (Broadcast index) = Some index
told_by (Shuffle index) = Some index
told_by (ShuffleDown delta) = Some delta
told_by (ShuffleUp delta) = Some delta
told_by (ShuffleXor mask) = Some mask
told_by (QuadBroadcast index) = Some index
told_by _ = None

abbrev pub cooperative_fields : CooperativeData → List Field
cooperative_fields data_ =
    holds (codes "pointer") data_.pointer ∷ holds (codes "stride") data_.stride ∷ []

-- those of an expression of an image
abbrev pub image_fields : Expression → List Field
image_fields
    (expression.ImageSample
    image sampler gather coordinate array_index offset level depth_ref clamp) =
    holds (codes "image") image ∷ holds (codes "sampler") sampler
    ∷ holds (codes "coordinate") coordinate ∷ (codes "array_index", array_index)
    ∷ (codes "offset", offset) ∷ (codes "depth_ref", depth_ref) ∷ []
image_fields (expression.ImageLoad image coordinate array_index sample level) =
    holds (codes "image") image ∷ holds (codes "coordinate") coordinate
    ∷ (codes "array_index", array_index) ∷ (codes "sample", sample) ∷ (codes "level", level) ∷ []
image_fields (expression.ImageQuery image query) =
    holds (codes "image") image ∷ (codes "level", query_level query) ∷ []
image_fields _ = []

abbrev pub expression_fields : Expression → List Field
expression_fields (expression.Access base index) =
    holds (codes "base") base ∷ holds (codes "index") index ∷ []
expression_fields (expression.AccessIndex base index) = holds (codes "base") base ∷ []
expression_fields (expression.Splat size value) = holds (codes "value") value ∷ []
expression_fields (expression.Swizzle size vector pattern) = holds (codes "vector") vector ∷ []
expression_fields (expression.Load pointer) = holds (codes "pointer") pointer ∷ []
expression_fields (expression.Unary op expr) = holds (codes "expr") expr ∷ []
expression_fields (expression.Binary op left right) =
    holds (codes "left") left ∷ holds (codes "right") right ∷ []
expression_fields (expression.Select condition accept reject) =
    holds (codes "condition") condition ∷ holds (codes "accept") accept
    ∷ holds (codes "reject") reject ∷ []
expression_fields (expression.Derivative axis ctrl expr) = holds (codes "expr") expr ∷ []
expression_fields (expression.Relational fun argument) = holds (codes "argument") argument ∷ []
expression_fields (expression.Math fun arg arg1 arg2 arg3) =
    holds (codes "arg") arg ∷ (codes "arg1", arg1) ∷ (codes "arg2", arg2) ∷ (codes "arg3", arg3) ∷ []
expression_fields (expression.As expr kind convert) = holds (codes "expr") expr ∷ []
expression_fields (expression.ArrayLength array) = holds (codes "array") array ∷ []
expression_fields (expression.RayQueryGetIntersection query committed) =
    holds (codes "query") query ∷ []
expression_fields (expression.RayQueryVertexPositions query committed) =
    holds (codes "query") query ∷ []
expression_fields (expression.CooperativeLoad columns rows role data_) = cooperative_fields data_
expression_fields (expression.CooperativeMultiplyAdd a b c) =
    holds (codes "a") a ∷ holds (codes "b") b ∷ holds (codes "c") c ∷ []
expression_fields e = image_fields e

abbrev pub ray_fields : RayPipelineFunction → List Field
ray_fields (TraceRay structure descriptor payload) =
    holds (codes "acceleration_structure") structure ∷ holds (codes "descriptor") descriptor
    ∷ holds (codes "payload") payload ∷ []

-- those of a statement that other invocations take part in: of an atomic one, or of a subgroup
abbrev pub invocation_fields : SimpleStatement → List Field
invocation_fields (atomic pointer fun value outcome) =
    holds (codes "pointer") pointer ∷ (codes "compare", compared fun)
    ∷ holds (codes "value") value ∷ (codes "result", outcome) ∷ []
invocation_fields (image_atomic image coordinate array_index fun value) =
    holds (codes "image") image ∷ holds (codes "coordinate") coordinate
    ∷ (codes "array_index", array_index) ∷ (codes "compare", compared fun)
    ∷ holds (codes "value") value ∷ []
invocation_fields (subgroup_ballot outcome predicate) =
    (codes "predicate", predicate) ∷ holds (codes "result") outcome ∷ []
invocation_fields (subgroup_gather mode argument outcome) =
    (codes "index", told_by mode) ∷ holds (codes "argument") argument
    ∷ holds (codes "result") outcome ∷ []
invocation_fields (subgroup_collective_operation op collective_op argument outcome) =
    holds (codes "argument") argument ∷ holds (codes "result") outcome ∷ []
invocation_fields _ = []

abbrev pub simple_fields : SimpleStatement → List Field
simple_fields (return value) = (codes "value", value) ∷ []
simple_fields (store pointer value) =
    holds (codes "pointer") pointer ∷ holds (codes "value") value ∷ []
simple_fields (image_store image coordinate array_index value) =
    holds (codes "image") image ∷ holds (codes "coordinate") coordinate
    ∷ (codes "array_index", array_index) ∷ holds (codes "value") value ∷ []
simple_fields (work_group_uniform_load pointer outcome) =
    holds (codes "pointer") pointer ∷ holds (codes "result") outcome ∷ []
simple_fields (call function arguments outcome) = (codes "result", outcome) ∷ []
simple_fields (ray_query query) = holds (codes "query") query ∷ []
simple_fields (cooperative_store target data_) =
    holds (codes "target") target ∷ cooperative_fields data_
simple_fields (ray_pipeline_function fun) = ray_fields fun
simple_fields s = invocation_fields s

-- those of a statement that other invocations take part in, blocks having none
abbrev pub shared_fields : StatementTree → List Field
shared_fields (simple s) = invocation_fields s
shared_fields _ = []

abbrev pub statement_fields : StatementTree → List Field
statement_fields (simple s) = simple_fields s
statement_fields (branch condition accept reject) = holds (codes "condition") condition ∷ []
statement_fields (switch selector cases) = holds (codes "selector") selector ∷ []
statement_fields (loop body continuing break_if) = (codes "break_if", break_if) ∷ []
statement_fields _ = []
