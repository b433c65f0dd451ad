-- What a JSON value says is known of a module: the forms of naga's `ModuleInfo` and what it holds, as serde writes them,
-- and short ones (docs/JSON.md, "Forms"). Of an info only these members are read, and the others let be.
use Rattle.std.specs.Prelude.{ℕ, List, [], ◌∷◌, Bool, true, false, ◌||◌, if◌then◌else◌}
use Rattle.std.specs.Prelude.{Option, Some, None, codes}
use Rattle.std.specs.Option.{is_some}
use Rattle.json.specs.Json.{Json, null, boolean, number, string, array, object}
use Rattle.json.specs.Find.{get}
use Rattle.naga_json.specs.Said.{◌>>=◌, Table, ◌⇒◌, members_known, field, field_or, list_said}
use Rattle.naga_json.specs.Said.{variant_said}
use Rattle.naga_json.specs.Numbers.{whole_said, index_said}
use Rattle.naga_json.specs.Text.{json_of}
use Rattle.naga_json.specs.Types.{type_inner_said}
use Rattle.naga_json.specs.Seen.{SeenResolution, resolution_handle, resolution_value, SeenExpressionInfo}
use Rattle.naga_json.specs.Seen.{SeenModuleInfo}
use Rattle.naga_json.specs.declared.infos.TypeResolutionName.{TypeResolutionName}

abbrev pub type_resolution_names : Table TypeResolutionName
type_resolution_names =
    "Handle" ⇒ TypeResolutionName.Handle ∷ "Value" ⇒ TypeResolutionName.Value ∷ []

abbrev pub type_resolution_payload : TypeResolutionName → Json → Option SeenResolution
type_resolution_payload TypeResolutionName.Handle j = index_said j >>= λ x. Some (resolution_handle x)
type_resolution_payload TypeResolutionName.Value j = type_inner_said j >>= λ x. Some (resolution_value x)

-- a number by itself is the handle of a type
abbrev pub type_resolution_said : Json → Option SeenResolution
type_resolution_said null = None
type_resolution_said (boolean b) = None
type_resolution_said (number s) = index_said (number s) >>= λ x. Some (resolution_handle x)
type_resolution_said (string s) = None
type_resolution_said (array js) = None
type_resolution_said (object ms) = variant_said type_resolution_names type_resolution_payload (object ms)

-- a type by itself is that of an expression whose uses are not counted
abbrev pub expression_info_said : Json → Option SeenExpressionInfo
expression_info_said j =
    if is_some (get (codes "ref_count") j) || is_some (get (codes "ty") j) then
    (do
      ref_count ← field "ref_count" whole_said j
      ty ← field "ty" type_resolution_said j
      Some (record { ref_count = ref_count; ty = ty }))
    else (type_resolution_said j >>= λ ty. Some (record { ref_count = 0; ty = ty }))

abbrev pub is_list : Json → Bool
is_list null = false
is_list (boolean b) = false
is_list (number s) = false
is_list (string s) = false
is_list (array js) = true
is_list (object ms) = false

-- a list by itself is that of the expressions
abbrev pub function_info_said : Json → Option (List SeenExpressionInfo)
function_info_said j =
    if is_list j then list_said expression_info_said j
    else field_or "expressions" [] (list_said expression_info_said) j

abbrev pub no_info : SeenModuleInfo
no_info = record { functions = []; entry_points = []; const_expression_types = [] }

abbrev pub info_members : Json → Option SeenModuleInfo
info_members j = do
  functions ← field_or "functions" [] (list_said function_info_said) j
  entry_points ← field_or "entry_points" [] (list_said function_info_said) j
  types ← field_or "const_expression_types" [] (list_said type_resolution_said) j
  Some (record { functions = functions; entry_points = entry_points; const_expression_types = types })

abbrev pub module_info_said : Json → Option SeenModuleInfo
module_info_said j = do
  _ ← members_known ("functions" ∷ "entry_points" ∷ "const_expression_types" ∷ []) j
  info_members j

-- what a text says by its JSON
abbrev pub text_info_said : List ℕ → Option SeenModuleInfo
text_info_said text = json_of text >>= module_info_said
