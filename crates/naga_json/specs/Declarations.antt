-- What a JSON value says of what modules declare: the members of naga's `Constant`, `GlobalVariable` and others, as
-- serde writes them by their names in Rust (docs/JSON.md, "Forms").
use Rattle.std.specs.Prelude.{◌∷◌, [], Option, Some}
use Rattle.json.specs.Json.{Json}
use Rattle.json.specs.Find.{as_str}
use Rattle.naga_json.specs.Said.{◌⇒◌, ◌>>=◌, Table, members, members_beside, field, option_field}
use Rattle.naga_json.specs.Said.{field_or, word_said}
use Rattle.naga_json.specs.Numbers.{unsigned_said, index_said}
use Rattle.naga_json.specs.Seen.{SeenConstant, SeenOverride, SeenGlobal, SeenLocal, SeenArgument}
use Rattle.naga_json.specs.Bindings.{binding_said, resource_binding_said}
use Rattle.naga_json.specs.Flags.{memory_decorations_said, no_decorations}
use Rattle.naga_json.specs.LetBe.{of_mesh_info}
use Rattle.naga_json.specs.Types.{address_space_said}
use Rattle.naga_ir.specs.declared.module.FunctionResult.{FunctionResult}
use Rattle.naga_ir.specs.declared.module.MeshStageInfo.{MeshStageInfo}
use Rattle.naga_ir.specs.declared.module.ShaderStage.{ShaderStage}

abbrev pub shader_stage_words : Table ShaderStage
shader_stage_words =
    "Vertex" ⇒ ShaderStage.Vertex ∷ "Task" ⇒ ShaderStage.Task ∷ "Mesh" ⇒ ShaderStage.Mesh ∷
    "Fragment" ⇒ ShaderStage.Fragment ∷ "Compute" ⇒ ShaderStage.Compute ∷
    "RayGeneration" ⇒ ShaderStage.RayGeneration ∷ "Miss" ⇒ ShaderStage.Miss ∷
    "AnyHit" ⇒ ShaderStage.AnyHit ∷ "ClosestHit" ⇒ ShaderStage.ClosestHit ∷ []

abbrev pub shader_stage_said : Json → Option ShaderStage
shader_stage_said = word_said shader_stage_words

abbrev pub constant_said : Json → Option SeenConstant
constant_said j = do
  _ ← members ("name" ∷ "ty" ∷ "init" ∷ []) j
  name ← option_field "name" as_str j
  ty ← field "ty" index_said j
  init ← field "init" index_said j
  Some (record { name = name; ty = ty; init = init })

abbrev pub override_said : Json → Option SeenOverride
override_said j = do
  _ ← members ("name" ∷ "id" ∷ "ty" ∷ "init" ∷ []) j
  name ← option_field "name" as_str j
  id ← option_field "id" (unsigned_said 16) j
  ty ← field "ty" index_said j
  init ← option_field "init" index_said j
  Some (record { name = name; id = id; ty = ty; init = init })

abbrev pub global_variable_said : Json → Option SeenGlobal
global_variable_said j = do
  _ ← members ("name" ∷ "space" ∷ "binding" ∷ "ty" ∷ "init" ∷ "memory_decorations" ∷ []) j
  name ← option_field "name" as_str j
  space ← field "space" address_space_said j
  binding ← option_field "binding" resource_binding_said j
  ty ← field "ty" index_said j
  init ← option_field "init" index_said j
  memory_decorations ← field_or "memory_decorations" no_decorations memory_decorations_said j
  Some (record {
    name = name;
    space = space;
    binding = binding;
    ty = ty;
    init = init;
    memory_decorations = memory_decorations;
  })

abbrev pub local_variable_said : Json → Option SeenLocal
local_variable_said j = do
  _ ← members ("name" ∷ "ty" ∷ "init" ∷ []) j
  name ← option_field "name" as_str j
  ty ← field "ty" index_said j
  init ← option_field "init" index_said j
  Some (record { name = name; ty = ty; init = init })

abbrev pub function_argument_said : Json → Option SeenArgument
function_argument_said j = do
  _ ← members ("name" ∷ "ty" ∷ "binding" ∷ []) j
  name ← option_field "name" as_str j
  ty ← field "ty" index_said j
  binding ← option_field "binding" binding_said j
  Some (record { name = name; ty = ty; binding = binding })

abbrev pub function_result_said : Json → Option FunctionResult
function_result_said j = do
  _ ← members ("ty" ∷ "binding" ∷ []) j
  ty ← field "ty" index_said j
  binding ← option_field "binding" binding_said j
  Some (record { ty = ty; binding = binding })

abbrev pub mesh_stage_info_said : Json → Option MeshStageInfo
mesh_stage_info_said j = do
  _ ← members_beside ("output_variable" ∷ []) of_mesh_info j
  output_variable ← field "output_variable" index_said j
  Some (record { output_variable = output_variable })
