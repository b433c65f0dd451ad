-- What a JSON value says of statements: the forms of naga's `Statement` and what it holds, as serde writes them by the
-- names of their variants and members in Rust (docs/JSON.md, "Forms").
use Rattle.std.specs.Prelude.{◌∷◌, [], Option, Some}
use Rattle.json.specs.Json.{Json}
use Rattle.std.specs.Prelude.{None, if◌then◌else◌}
use Rattle.json.specs.Find.{is_null}
use Rattle.naga_json.specs.Flags.{barrier_said}
use Rattle.naga_json.specs.Said.{◌⇒◌, ◌>>=◌, Table, members, members_beside, field, option_field}
use Rattle.naga_json.specs.Said.{unit_said, variant_said, list_said}
use Rattle.naga_json.specs.Numbers.{whole_said, unsigned_said, signed_said, index_said}
use Rattle.naga_json.specs.Expressions.{cooperative_data_said}
use Rattle.naga_json.specs.LetBe.{of_ray_query}
use Rattle.naga_json.specs.Operators.{collective_operation_said, subgroup_operation_said}
use Rattle.naga_json.specs.Operators.{atomic_function_said, gather_mode_said}
use Rattle.naga_ir.specs.StatementTree as tree
use Rattle.naga_ir.specs.StatementTree.{StatementTree, BlockTree, CaseTrees}
use Rattle.naga_ir.specs.declared.statement.SwitchCase.{SwitchCase}
use Prim.Native.String.{String}
use Rattle.std.specs.Prelude.{ℕ, zero, suc, List, Bool, codes}
use Rattle.json.specs.Find.{get}
use Rattle.naga_json.specs.Said.{or_absent, truth_field}
use Rattle.naga_ir.specs.declared.statement.Range.{Range}
use Rattle.naga_ir.specs.declared.statement.RayPipelineFunction.{RayPipelineFunction}
use Rattle.naga_json.specs.declared.statements.RayPipelineFunctionName.{RayPipelineFunctionName}
use Rattle.naga_json.specs.declared.statements.SimpleName.{SimpleName}
use Rattle.naga_json.specs.declared.statements.StatementName.{StatementName}
use Rattle.naga_ir.specs.declared.statement.SwitchValue.{SwitchValue}
use Rattle.naga_json.specs.declared.statements.SwitchValueName.{SwitchValueName}

abbrev pub switch_value_names : Table SwitchValueName
switch_value_names =
    "I32" ⇒ SwitchValueName.I32 ∷ "U32" ⇒ SwitchValueName.U32 ∷
    "Default" ⇒ SwitchValueName.Default ∷ []

abbrev pub switch_value_payload : SwitchValueName → Json → Option SwitchValue
switch_value_payload SwitchValueName.I32 j = (signed_said 32) j >>= λ x. Some (SwitchValue.I32 x)
switch_value_payload SwitchValueName.U32 j =
    (unsigned_said 32) j >>= λ x. Some (SwitchValue.U32 x)
switch_value_payload SwitchValueName.Default j = unit_said SwitchValue.Default j

abbrev pub switch_value_said : Json → Option SwitchValue
switch_value_said = variant_said switch_value_names switch_value_payload

abbrev pub ray_pipeline_function_names : Table RayPipelineFunctionName
ray_pipeline_function_names =
    "TraceRay" ⇒ RayPipelineFunctionName.TraceRay ∷ []

abbrev pub trace_ray_said : Json → Option RayPipelineFunction
trace_ray_said j = do
  _ ← members ("acceleration_structure" ∷ "descriptor" ∷ "payload" ∷ []) j
  acceleration_structure ← field "acceleration_structure" index_said j
  descriptor ← field "descriptor" index_said j
  payload ← field "payload" index_said j
  Some (RayPipelineFunction.TraceRay acceleration_structure descriptor payload)

abbrev pub ray_pipeline_function_payload : RayPipelineFunctionName → Json → Option RayPipelineFunction
ray_pipeline_function_payload RayPipelineFunctionName.TraceRay j = trace_ray_said j

abbrev pub ray_pipeline_function_said : Json → Option RayPipelineFunction
ray_pipeline_function_said = variant_said ray_pipeline_function_names ray_pipeline_function_payload

abbrev pub statement_names : Table StatementName
statement_names =
    "Block" ⇒ StatementName.Block ∷ "If" ⇒ StatementName.If ∷ "Switch" ⇒ StatementName.Switch ∷
    "Loop" ⇒ StatementName.Loop ∷ "Emit" ⇒ StatementName.Simple SimpleName.Emit ∷
    "Break" ⇒ StatementName.Simple SimpleName.Break ∷
    "Continue" ⇒ StatementName.Simple SimpleName.Continue ∷
    "Return" ⇒ StatementName.Simple SimpleName.Return ∷
    "Kill" ⇒ StatementName.Simple SimpleName.Kill ∷
    "ControlBarrier" ⇒ StatementName.Simple SimpleName.ControlBarrier ∷
    "MemoryBarrier" ⇒ StatementName.Simple SimpleName.MemoryBarrier ∷
    "Store" ⇒ StatementName.Simple SimpleName.Store ∷
    "ImageStore" ⇒ StatementName.Simple SimpleName.ImageStore ∷
    "Atomic" ⇒ StatementName.Simple SimpleName.Atomic ∷
    "ImageAtomic" ⇒ StatementName.Simple SimpleName.ImageAtomic ∷
    "WorkGroupUniformLoad" ⇒ StatementName.Simple SimpleName.WorkGroupUniformLoad ∷
    "Call" ⇒ StatementName.Simple SimpleName.Call ∷
    "RayQuery" ⇒ StatementName.Simple SimpleName.RayQuery ∷
    "SubgroupBallot" ⇒ StatementName.Simple SimpleName.SubgroupBallot ∷
    "SubgroupGather" ⇒ StatementName.Simple SimpleName.SubgroupGather ∷
    "SubgroupCollectiveOperation" ⇒ StatementName.Simple SimpleName.SubgroupCollectiveOperation ∷
    "CooperativeStore" ⇒ StatementName.Simple SimpleName.CooperativeStore ∷
    "RayPipelineFunction" ⇒ StatementName.Simple SimpleName.RayPipelineFunction ∷ []

abbrev pub store_said : Json → Option StatementTree
store_said j = do
  _ ← members ("pointer" ∷ "value" ∷ []) j
  pointer ← field "pointer" index_said j
  value ← field "value" index_said j
  Some (tree.simple (tree.store pointer value))

abbrev pub image_store_said : Json → Option StatementTree
image_store_said j = do
  _ ← members ("image" ∷ "coordinate" ∷ "array_index" ∷ "value" ∷ []) j
  image ← field "image" index_said j
  coordinate ← field "coordinate" index_said j
  array_index ← option_field "array_index" index_said j
  value ← field "value" index_said j
  Some (tree.simple (tree.image_store image coordinate array_index value))

abbrev pub atomic_said : Json → Option StatementTree
atomic_said j = do
  _ ← members ("pointer" ∷ "fun" ∷ "value" ∷ "result" ∷ []) j
  pointer ← field "pointer" index_said j
  fun ← field "fun" atomic_function_said j
  value ← field "value" index_said j
  outcome ← option_field "result" index_said j
  Some (tree.simple (tree.atomic pointer fun value outcome))

abbrev pub image_atomic_said : Json → Option StatementTree
image_atomic_said j = do
  _ ← members ("image" ∷ "coordinate" ∷ "array_index" ∷ "fun" ∷ "value" ∷ []) j
  image ← field "image" index_said j
  coordinate ← field "coordinate" index_said j
  array_index ← option_field "array_index" index_said j
  fun ← field "fun" atomic_function_said j
  value ← field "value" index_said j
  Some (tree.simple (tree.image_atomic image coordinate array_index fun value))

abbrev pub work_group_uniform_load_said : Json → Option StatementTree
work_group_uniform_load_said j = do
  _ ← members ("pointer" ∷ "result" ∷ []) j
  pointer ← field "pointer" index_said j
  outcome ← field "result" index_said j
  Some (tree.simple (tree.work_group_uniform_load pointer outcome))

abbrev pub call_said : Json → Option StatementTree
call_said j = do
  _ ← members ("function" ∷ "arguments" ∷ "result" ∷ []) j
  function ← field "function" index_said j
  arguments ← field "arguments" (list_said index_said) j
  outcome ← option_field "result" index_said j
  Some (tree.simple (tree.call function arguments outcome))

abbrev pub ray_query_said : Json → Option StatementTree
ray_query_said j = do
  _ ← members_beside ("query" ∷ []) of_ray_query j
  query ← field "query" index_said j
  Some (tree.simple (tree.ray_query query))

abbrev pub subgroup_ballot_said : Json → Option StatementTree
subgroup_ballot_said j = do
  _ ← members ("result" ∷ "predicate" ∷ []) j
  outcome ← field "result" index_said j
  predicate ← option_field "predicate" index_said j
  Some (tree.simple (tree.subgroup_ballot outcome predicate))

abbrev pub subgroup_gather_said : Json → Option StatementTree
subgroup_gather_said j = do
  _ ← members ("mode" ∷ "argument" ∷ "result" ∷ []) j
  mode ← field "mode" gather_mode_said j
  argument ← field "argument" index_said j
  outcome ← field "result" index_said j
  Some (tree.simple (tree.subgroup_gather mode argument outcome))

abbrev pub subgroup_collective_operation_said : Json → Option StatementTree
subgroup_collective_operation_said j = do
  _ ← members ("op" ∷ "collective_op" ∷ "argument" ∷ "result" ∷ []) j
  op ← field "op" subgroup_operation_said j
  collective_op ← field "collective_op" collective_operation_said j
  argument ← field "argument" index_said j
  outcome ← field "result" index_said j
  Some (tree.simple (tree.subgroup_collective_operation op collective_op argument outcome))

abbrev pub cooperative_store_said : Json → Option StatementTree
cooperative_store_said j = do
  _ ← members ("target" ∷ "data" ∷ []) j
  target ← field "target" index_said j
  store_data ← field "data" cooperative_data_said j
  Some (tree.simple (tree.cooperative_store target store_data))

abbrev pub range_said : Json → Option Range
range_said j = do
  _ ← members ("start" ∷ "end" ∷ []) j
  first ← field "start" whole_said j
  end ← field "end" whole_said j
  Some (record { first = first; end = end })

-- a name alone returns nothing
abbrev pub return_said : Json → Option StatementTree
return_said j =
    if is_null j then Some (tree.simple (tree.return None))
    else (do
      _ ← members ("value" ∷ []) j
      value ← option_field "value" index_said j
      Some (tree.simple (tree.return value)))

abbrev pub simple_said : SimpleName → Json → Option StatementTree
simple_said SimpleName.Emit j =
    range_said j >>= λ range. Some (tree.simple (tree.emit range.first range.end))
simple_said SimpleName.Break j = unit_said (tree.simple tree.break) j
simple_said SimpleName.Continue j = unit_said (tree.simple tree.continue) j
simple_said SimpleName.Return j = return_said j
simple_said SimpleName.Kill j = unit_said (tree.simple tree.kill) j
simple_said SimpleName.ControlBarrier j =
    barrier_said j >>= λ flags. Some (tree.simple (tree.control_barrier flags))
simple_said SimpleName.MemoryBarrier j =
    barrier_said j >>= λ flags. Some (tree.simple (tree.memory_barrier flags))
simple_said SimpleName.Store j = store_said j
simple_said SimpleName.ImageStore j = image_store_said j
simple_said SimpleName.Atomic j = atomic_said j
simple_said SimpleName.ImageAtomic j = image_atomic_said j
simple_said SimpleName.WorkGroupUniformLoad j = work_group_uniform_load_said j
simple_said SimpleName.Call j = call_said j
simple_said SimpleName.RayQuery j = ray_query_said j
simple_said SimpleName.SubgroupBallot j = subgroup_ballot_said j
simple_said SimpleName.SubgroupGather j = subgroup_gather_said j
simple_said SimpleName.SubgroupCollectiveOperation j = subgroup_collective_operation_said j
simple_said SimpleName.CooperativeStore j = cooperative_store_said j
simple_said SimpleName.RayPipelineFunction j =
    ray_pipeline_function_said j >>= λ f. Some (tree.simple (tree.ray_pipeline_function f))

-- ---- statements with blocks: what they say by what a block does

-- a block that is absent has no statements
abbrev pub block_if_told_said : (Json → Option BlockTree) → String → Json → Option BlockTree
block_if_told_said block name j = or_absent block (Some tree.no_statements) (get (codes name) j)

-- what contracts see of a case
pub record SeenCase : Type 0 where
  pub value : SwitchValue
  pub body : BlockTree
  pub fall_through : Bool

abbrev pub seen_case : SwitchCase → SeenCase
seen_case c = record { value = c.value; body = c.body; fall_through = c.fall_through }

abbrev pub case_trees : List SeenCase → CaseTrees
case_trees [] = tree.no_cases
case_trees (c ∷ cs) = tree.case c.value c.body c.fall_through (case_trees cs)

abbrev pub block_tree : List StatementTree → BlockTree
block_tree [] = tree.no_statements
block_tree (s ∷ ss) = tree.statement s (block_tree ss)

abbrev pub if_said : (Json → Option BlockTree) → Json → Option StatementTree
if_said block j = do
  _ ← members ("condition" ∷ "accept" ∷ "reject" ∷ []) j
  condition ← field "condition" index_said j
  accept ← field "accept" block j
  reject ← block_if_told_said block "reject" j
  Some (tree.branch condition accept reject)

abbrev pub loop_said : (Json → Option BlockTree) → Json → Option StatementTree
loop_said block j = do
  _ ← members ("break_if" ∷ "body" ∷ "continuing" ∷ []) j
  break_if ← option_field "break_if" index_said j
  body ← field "body" block j
  continuing ← block_if_told_said block "continuing" j
  Some (tree.loop body continuing break_if)

abbrev pub case_said : (Json → Option BlockTree) → Json → Option SeenCase
case_said block j = do
  _ ← members ("value" ∷ "fall_through" ∷ "body" ∷ []) j
  value ← field "value" switch_value_said j
  fall_through ← truth_field "fall_through" j
  body ← field "body" block j
  Some (record { value = value; body = body; fall_through = fall_through })

abbrev pub switch_said : (Json → Option BlockTree) → Json → Option StatementTree
switch_said block j = do
  _ ← members ("selector" ∷ "cases" ∷ []) j
  selector ← field "selector" index_said j
  cases ← field "cases" (list_said (case_said block)) j
  Some (tree.switch selector (case_trees cases))

abbrev pub statement_payload : (Json → Option BlockTree) → StatementName → Json → Option StatementTree
statement_payload block StatementName.Block j = block j >>= λ b. Some (tree.block b)
statement_payload block StatementName.If j = if_said block j
statement_payload block StatementName.Switch j = switch_said block j
statement_payload block StatementName.Loop j = loop_said block j
statement_payload block (StatementName.Simple name) j = simple_said name j

abbrev pub statement_said : (Json → Option BlockTree) → Json → Option StatementTree
statement_said block = variant_said statement_names (statement_payload block)

-- blocks nest at most this many levels, more than those of any text
abbrev pub most_levels : ℕ
most_levels = 64

-- a block, of which blocks nest at most so many levels
unfoldable pub block_said : ℕ → Json → Option BlockTree
block_said zero j = None
block_said (suc levels) j = list_said (statement_said (block_said levels)) j >>= λ ss. Some (block_tree ss)
