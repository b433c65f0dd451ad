-- What a JSON value says of functions and of entry points: the members of naga's `Function` and `EntryPoint`, as serde
-- writes them by their names in Rust (docs/JSON.md, "Forms").
use Rattle.std.specs.Prelude.{ℕ, List, [], ◌∷◌, map, if◌then◌else◌, Option, Some, None}
use Rattle.std.specs.Prelude.{codes, option_map, string_bytes, ⊤}
use Rattle.json.specs.Json.{Json}
use Rattle.json.specs.Find.{as_str, get, is_null}
use Rattle.naga_json.specs.Said.{◌>>=◌, members, field, field_or, option_field}
use Rattle.naga_json.specs.Said.{list_said, option_said, or_absent, tuple_said, unit_said}
use Rattle.naga_json.specs.Numbers.{index_said, unsigned_said}
use Rattle.naga_json.specs.Declarations.{function_argument_said, function_result_said}
use Rattle.naga_json.specs.Declarations.{local_variable_said, mesh_stage_info_said}
use Rattle.naga_json.specs.Declarations.{shader_stage_said}
use Rattle.naga_json.specs.Expressions.{expression_said}
use Rattle.naga_json.specs.Labels.{labels_said, seen_labels}
use Rattle.naga_json.specs.Seen.{SeenArgument, SeenLocal, SeenExpression, seen_argument}
use Rattle.naga_json.specs.Seen.{seen_expression, seen_local}
use Rattle.naga_json.specs.Statements.{block_said, most_levels}
use Rattle.naga_ir.specs.StatementTree.{BlockTree, no_statements}
use Rattle.naga_ir.specs.declared.module.EntryPoint.{EntryPoint}
use Rattle.naga_ir.specs.declared.module.Function.{Function}
use Rattle.naga_ir.specs.declared.module.FunctionResult.{FunctionResult}
use Rattle.naga_ir.specs.declared.module.MeshStageInfo.{MeshStageInfo}
use Rattle.naga_ir.specs.declared.module.ShaderStage.{ShaderStage}

-- ---- functions

-- what contracts see of a function
pub record SeenFunction : Type 0 where
  pub name : Option (List ℕ)
  pub outcome : Option FunctionResult
  pub arguments : List SeenArgument
  pub local_variables : List SeenLocal
  pub expressions : List SeenExpression
  pub named_expressions : List (ℕ × List ℕ)
  pub body : BlockTree

abbrev pub seen_function : Function → SeenFunction
seen_function f = record {
  name = option_map string_bytes f.name;
  outcome = f.result;
  arguments = map seen_argument f.arguments.items;
  local_variables = map seen_local f.local_variables;
  expressions = map seen_expression f.expressions;
  named_expressions = seen_labels f.named_expressions.entries;
  body = f.body;
}

abbrev pub no_function : SeenFunction
no_function = record {
  name = None;
  outcome = None;
  arguments = [];
  local_variables = [];
  expressions = [];
  named_expressions = [];
  body = no_statements;
}

unfoldable pub function_members : Json → Option SeenFunction
function_members j = do
  name ← option_field "name" as_str j
  outcome ← option_field "result" function_result_said j
  arguments ← field_or "arguments" [] (list_said function_argument_said) j
  local_variables ← field_or "local_variables" [] (list_said local_variable_said) j
  expressions ← field_or "expressions" [] (list_said expression_said) j
  named_expressions ← field_or "named_expressions" [] labels_said j
  body ← field_or "body" no_statements (block_said most_levels) j
  Some (record {
    name = name;
    outcome = outcome;
    arguments = arguments;
    local_variables = local_variables;
    expressions = expressions;
    named_expressions = named_expressions;
    body = body;
  })

-- the leaf of its filters is read with those of the module
unfoldable pub function_said : Json → Option SeenFunction
function_said j = do
  _ ← members ("name" ∷ "result" ∷ "arguments" ∷ "local_variables" ∷ "expressions" ∷
      "named_expressions" ∷ "body" ∷ "diagnostic_filter_leaf" ∷ []) j
  function_members j

-- ---- entry points

-- what contracts see of an entry point
pub record SeenEntryPoint : Type 0 where
  pub name : List ℕ
  pub stage : ShaderStage
  pub workgroup_size : List ℕ
  pub workgroup_size_overrides : List (Option ℕ)
  pub function : SeenFunction
  pub mesh_info : Option MeshStageInfo
  pub task_payload : Option ℕ
  pub incoming_ray_payload : Option ℕ

abbrev pub seen_entry_point : EntryPoint → SeenEntryPoint
seen_entry_point e = record {
  name = string_bytes e.name;
  stage = e.stage;
  workgroup_size = e.workgroup_size;
  workgroup_size_overrides = e.workgroup_size_overrides;
  function = seen_function e.function;
  mesh_info = e.mesh_info;
  task_payload = e.task_payload;
  incoming_ray_payload = e.incoming_ray_payload;
}

abbrev pub no_sizes : List (Option ℕ)
no_sizes = None ∷ None ∷ None ∷ []

-- the expression that sets a size along each axis, where one does
abbrev pub size_list_said : Json → Option (List (Option ℕ))
size_list_said j = if is_null j then Some no_sizes else tuple_said 3 (option_said index_said) j

abbrev pub sizes_said : Json → Option (List (Option ℕ))
sizes_said j = or_absent size_list_said (Some no_sizes) (get (codes "workgroup_size_overrides") j)

-- naga says null of what modules here have no room for
abbrev pub no_depth_test : Json → Option ⊤
no_depth_test j = or_absent (unit_said tt) (Some tt) (get (codes "early_depth_test") j)

-- without the overrides of its workgroups' size, which hang on the module around it
unfoldable pub entry_point_said : Json → Option SeenEntryPoint
entry_point_said j = do
  _ ← members ("name" ∷ "stage" ∷ "workgroup_size" ∷ "function" ∷ "mesh_info" ∷ "task_payload" ∷
      "incoming_ray_payload" ∷ "early_depth_test" ∷ "workgroup_size_overrides" ∷ []) j
  _ ← no_depth_test j
  _ ← sizes_said j
  name ← field "name" as_str j
  stage ← field "stage" shader_stage_said j
  workgroup_size ← field "workgroup_size" (tuple_said 3 (unsigned_said 32)) j
  function ← field "function" function_said j
  mesh_info ← option_field "mesh_info" mesh_stage_info_said j
  task_payload ← option_field "task_payload" index_said j
  incoming_ray_payload ← option_field "incoming_ray_payload" index_said j
  Some (record {
    name = name;
    stage = stage;
    workgroup_size = workgroup_size;
    workgroup_size_overrides = no_sizes;
    function = function;
    mesh_info = mesh_info;
    task_payload = task_payload;
    incoming_ray_payload = incoming_ray_payload;
  })
