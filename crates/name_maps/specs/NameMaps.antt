-- Which identifier of a text stands for which item of its module, as a value of JSON.
--
-- An object's members stand in the order of their keys, and each list in the order of the handles of its
-- items. Throughout, m is the module, names are those of its items, and p is an item after its handle or,
-- where it has none, its number.
use Rattle.std.specs.Prelude.{ℕ, List, Option, Some, None, codes, map, string_bytes}
use Rattle.std.specs.Prelude.{if◌then◌else◌}
use Rattle.std.specs.List.{enumerate_from, filter_map}
use Rattle.std.specs.Option.{is_some, option_map, option_map_or}
use Rattle.std.specs.declared.string.String.{String}
use Rattle.naga_ir.specs.declared.binding.ResourceBinding.{ResourceBinding}
use Rattle.naga_ir.specs.declared.module.Constant.{Constant}
use Rattle.naga_ir.specs.declared.module.EntryPoint.{EntryPoint}
use Rattle.naga_ir.specs.declared.module.Function.{Function}
use Rattle.naga_ir.specs.declared.module.GlobalVariable.{GlobalVariable}
use Rattle.naga_ir.specs.declared.module.Module.{Module}
use Rattle.naga_ir.specs.declared.module.Override.{Override}
use Rattle.naga_ir.specs.declared.module.ShaderStage.{ShaderStage}
use Rattle.naga_ir.specs.declared.module.ShaderStage.TheVariants as stage
use Rattle.naga_ir.specs.declared.module.SpecialTypes.{SpecialTypes}
use Rattle.naga_ir.specs.declared.types.AddressSpace.{AddressSpace}
use Rattle.naga_ir.specs.declared.types.StructMember.{StructMember}
use Rattle.naga_ir.specs.declared.types.Type_.{Type_}
use Rattle.naga_naming.specs.Keys.{NameMap}
use Rattle.naga_naming.specs.Reset.{members_of}
use Rattle.naga_naming.specs.declared.key.NameKey.{NameKey}
use Rattle.naga_naming.specs.declared.key.NameKey.TheVariants as key
use Rattle.module_semantics.specs.Names.{name_in}
use Rattle.module_semantics.specs.Undeclared.{is_declared}
use Rattle.serde_json.specs.Data.{Data, array, member, no_members, null, number, object, string}
use Rattle.serde_json.specs.Data.{Members, unsigned}
use Rattle.serde_json.specs.View.{items_of}
use Rattle.serde_json.specs.Written.{compact_text}
use Rattle.wgsl_words.specs.Words.{space_word}

-- ---- parts of a row
abbrev pub count : ℕ → Data
count n = number (unsigned n)

abbrev pub text_or_null : Option (List ℕ) → Data
text_or_null text = option_map_or string text null

abbrev pub count_or_null : Option ℕ → Data
count_or_null n = option_map_or count n null

abbrev pub label_or_null : {Y : Type 0} → Option (String Y) → Data
label_or_null label = text_or_null (option_map string_bytes label)

abbrev pub identifier : NameMap → NameKey → Data
identifier names key = string (name_in names key)

-- WGSL's word for the address space; that of handles has none
abbrev pub space_or_null : AddressSpace → Data
space_or_null space = text_or_null (space_word space)

abbrev pub group_or_null : Option ResourceBinding → Data
group_or_null binding = count_or_null (option_map (λ b. b.group) binding)

abbrev pub binding_or_null : Option ResourceBinding → Data
binding_or_null binding = count_or_null (option_map (λ b. b.binding) binding)

-- the word of WGSL's attribute for the stage
abbrev pub stage_word : ShaderStage → List ℕ
stage_word stage.Vertex = codes "vertex"
stage_word stage.Task = codes "task"
stage_word stage.Mesh = codes "mesh"
stage_word stage.Fragment = codes "fragment"
stage_word stage.Compute = codes "compute"
stage_word stage.RayGeneration = codes "ray_generation"
stage_word stage.Miss = codes "miss"
stage_word stage.AnyHit = codes "any_hit"
stage_word stage.ClosestHit = codes "closest_hit"

-- ---- what is told of one item
-- an item that has a handle, an identifier, and maybe a label, with more members after them
abbrev pub labelled : {Y : Type 0} → NameMap → NameKey → (handle : ℕ) → Option (String Y) →
    (more : Members) → Members
labelled names key handle label more =
    member (codes "handle") (count handle)
    (member (codes "identifier") (identifier names key)
    (member (codes "label") (label_or_null label) more))

abbrev pub constant_row : NameMap → ℕ × Constant → Data
constant_row names p = object (labelled names (key.Constant p.0) p.0 p.1.name no_members)

abbrev pub function_row : NameMap → ℕ × Function → Data
function_row names p = object (labelled names (key.Function p.0) p.0 p.1.name no_members)

abbrev pub entry_point_row : NameMap → ℕ × EntryPoint → Data
entry_point_row names p =
    object
    (member (codes "identifier") (identifier names (key.EntryPoint p.0))
    (member (codes "index") (count p.0)
    (member (codes "label") (string (string_bytes p.1.name))
    (member (codes "stage") (string (stage_word p.1.stage)) no_members))))

abbrev pub global_row : NameMap → ℕ × GlobalVariable → Data
global_row names p =
    object
    (member (codes "address_space") (space_or_null p.1.space)
    (member (codes "binding") (binding_or_null p.1.binding)
    (member (codes "group") (group_or_null p.1.binding)
    (labelled names (key.GlobalVariable p.0) p.0 p.1.name no_members))))

abbrev pub override_row : NameMap → ℕ × Override → Data
override_row names p =
    object
    (member (codes "handle") (count p.0)
    (member (codes "id") (count_or_null p.1.id)
    (member (codes "identifier") (identifier names (key.Override p.0))
    (member (codes "label") (label_or_null p.1.name) no_members))))

-- a member of the struct with this handle
abbrev pub member_row : NameMap → (handle : ℕ) → ℕ × StructMember → Data
member_row names handle p =
    object
    (member (codes "identifier") (identifier names (key.StructMember handle p.0))
    (member (codes "index") (count p.0)
    (member (codes "label") (label_or_null p.1.name) no_members)))

-- ---- lists
abbrev pub list_of : List Data → Data
list_of rows = array (items_of rows)

abbrev pub member_rows : NameMap → (handle : ℕ) → List StructMember → Data
member_rows names handle ms = list_of (map (member_row names handle) (enumerate_from 0 ms))

abbrev pub struct_row : {Y : Type 0} → NameMap → (handle : ℕ) → Option (String Y) →
    List StructMember → Data
struct_row names handle label ms =
    object
    (labelled names (key.Type_ handle) handle label
    (member (codes "members") (member_rows names handle ms) no_members))

-- those that a text declares: constants that have labels, and structs that WGSL's own functions
-- don't give
abbrev pub named_constant : NameMap → ℕ × Constant → Option Data
named_constant names p = if is_some p.1.name then Some (constant_row names p) else None

abbrev pub declared_struct : NameMap → SpecialTypes → ℕ × Type_ → Option Data
declared_struct names special p =
    if is_declared special p.0 p.1.inner
    then Some (struct_row names p.0 p.1.name (members_of p.1.inner)) else None

abbrev pub constant_rows : NameMap → List Constant → Data
constant_rows names cs = list_of (filter_map (named_constant names) (enumerate_from 0 cs))

abbrev pub entry_point_rows : NameMap → List EntryPoint → Data
entry_point_rows names es = list_of (map (entry_point_row names) (enumerate_from 0 es))

abbrev pub function_rows : NameMap → List Function → Data
function_rows names fs = list_of (map (function_row names) (enumerate_from 0 fs))

abbrev pub global_rows : NameMap → List GlobalVariable → Data
global_rows names gs = list_of (map (global_row names) (enumerate_from 0 gs))

abbrev pub override_rows : NameMap → List Override → Data
override_rows names os = list_of (map (override_row names) (enumerate_from 0 os))

abbrev pub struct_rows : NameMap → Module → Data
struct_rows names m =
    list_of (filter_map (declared_struct names m.special_types) (enumerate_from 0 m.types))

-- ---- all of them
unfoldable pub name_map : Module → NameMap → Data
name_map m names =
    object
    (member (codes "constants") (constant_rows names m.constants)
    (member (codes "entry_points") (entry_point_rows names m.entry_points.items)
    (member (codes "functions") (function_rows names m.functions)
    (member (codes "globals") (global_rows names m.global_variables)
    (member (codes "overrides") (override_rows names m.overrides)
    (member (codes "structs") (struct_rows names m) no_members))))))

-- the same as a text, without blanks or line ends
unfoldable pub map_text : Module → NameMap → List ℕ
map_text m names = compact_text (name_map m names)
