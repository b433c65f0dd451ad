-- What `reset` names, and in which order.
--
-- Throughout, t is the handle of a type, f that of a function, g that
-- of a global, e the index of an entry point, l and n those of a
-- local and of an argument or a member, and p an index with its item.
use Rattle.std.specs.Prelude.{◌≡◌, ℕ, ◌-◌, ◌^◌, List, [], ◌∷◌, ◌++◌, length, drop, map, Option}
use Rattle.std.specs.Prelude.{Some, None, Bool, true, false, ◌&&◌, ◌==◌, if◌then◌else◌, nat_lt}
use Rattle.std.specs.Prelude.{unwrap_or, slice_get, codes, string_bytes}
use Rattle.std.specs.declared.string.String.{String}
use Rattle.std.specs.List.{scan, flat_map, enumerate_from, list_all}
use Rattle.std.specs.FinMap as finite
use Rattle.std.specs.FinSet as set
use Rattle.std.specs.Map.{lookup, update_all}
use Rattle.std.specs.Option.{option_map_or, option_or}
use Rattle.naga_ir.specs.declared.module.Module.{Module}
use Rattle.naga_ir.specs.declared.module.Function.{Function}
use Rattle.naga_ir.specs.declared.module.FunctionArgument.{FunctionArgument}
use Rattle.naga_ir.specs.declared.module.Constant.{Constant}
use Rattle.naga_ir.specs.declared.module.EntryPoint.{EntryPoint}
use Rattle.naga_ir.specs.declared.module.Override.{Override}
use Rattle.naga_ir.specs.declared.module.GlobalVariable.{GlobalVariable}
use Rattle.naga_ir.specs.declared.module.LocalVariable.{LocalVariable}
use Rattle.naga_ir.specs.declared.module.ShaderStage.{ShaderStage}
use Rattle.naga_ir.specs.declared.module.ShaderStage.TheVariants.{Vertex, Fragment, Compute}
use Rattle.naga_ir.specs.declared.types.StructMember.{StructMember}
use Rattle.naga_ir.specs.declared.types.Type_.{Type_}
use Rattle.naga_ir.specs.declared.types.TypeInner.{TypeInner}
use Rattle.naga_ir.specs.declared.types.TypeInner.TheVariants.{Struct, Image}
use Rattle.naga_ir.specs.declared.image.ImageClass.TheVariants.{External}
use Rattle.naga_naming.specs.declared.key.ExternalTextureNameKey.{ExternalTextureNameKey}
use Rattle.naga_naming.specs.declared.key.ExternalTextureNameKey.TheVariants.{Plane, Params}
use Rattle.naga_naming.specs.declared.key.NameKey.{NameKey}
use Rattle.naga_naming.specs.declared.key.NameKey.TheVariants as key
use Rattle.naga_naming.specs.Keys.{NameMap, same_key}
use Rattle.naga_naming.specs.Naming.{Names, label_or, name_after, HasNamed}

-- an item of a module, and the label that it is named by
abbrev pub LabelledItem : Type 0
LabelledItem = NameKey × List ℕ

-- the word for what an entry point of this stage returns
abbrev pub output_word : ShaderStage → Option (List ℕ)
output_word Vertex = Some (codes "VertexOutput")
output_word Fragment = Some (codes "FragmentOutput")
output_word Compute = Some (codes "ComputeOutput")
output_word other = None

-- the entry point returns this type
abbrev pub returns : ℕ → EntryPoint → Bool
returns t entry_point = option_map_or (λ result. result.ty == t) entry_point.function.result false

-- the word of the last of these entry points that returns this type and has one
abbrev pub output_label : ℕ → List EntryPoint → Option (List ℕ)
output_label t [] = None
output_label t (entry_point ∷ entry_points) =
    option_or (output_label t entry_points)
    (if returns t entry_point then output_word entry_point.stage else None)

abbrev pub is_struct : TypeInner → Bool
is_struct (Struct members span) = true
is_struct other = false

-- the label of a type, or what it is labelled without
-- one: a struct by the entry points that return it
abbrev pub type_label : List EntryPoint → ℕ → Type_ → List ℕ
type_label entry_points t ty =
    label_or ty.name
    (if is_struct ty.inner then unwrap_or (output_label t entry_points) (codes "type")
    else codes "type")

-- the members of a type; only a struct has some
abbrev pub members_of : TypeInner → List StructMember
members_of (Struct members span) = members.items
members_of other = []

-- the label of a member, or what it is labelled without one
abbrev pub member_label : StructMember → List ℕ
member_label member = label_or member.name (codes "member")

-- the members of a struct, in their order
abbrev pub labelled_members : ℕ → List StructMember → List LabelledItem
labelled_members t members =
    map (λ p. (key.StructMember t p.0, member_label p.1)) (enumerate_from 0 members)

-- a type, and then its members
abbrev pub labelled_type : List EntryPoint → ℕ → Type_ → List LabelledItem
labelled_type entry_points t ty =
    (key.Type_ t, type_label entry_points t ty) ∷ labelled_members t (members_of ty.inner)

-- the types, in their order
abbrev pub labelled_types : List EntryPoint → List Type_ → List LabelledItem
labelled_types entry_points types =
    flat_map (λ p. labelled_type entry_points p.0 p.1) (enumerate_from 0 types)

abbrev pub is_external_inner : TypeInner → Bool
is_external_inner (Image dim arrayed External) = true
is_external_inner other = false

-- the type is an image from outside the graphics interface
abbrev pub is_external : List Type_ → ℕ → Bool
is_external types t = option_map_or (λ ty. is_external_inner ty.inner) (slice_get types t) false

-- the parts of an external image that has this label, under these keys
abbrev pub labelled_parts : (ExternalTextureNameKey → NameKey) → List ℕ → List LabelledItem
labelled_parts key label =
    (key (Plane 0), label ++ codes "__plane0") ∷ (key (Plane 1), label ++ codes "__plane1") ∷
    (key (Plane 2), label ++ codes "__plane2") ∷ (key Params, label ++ codes "__params") ∷ []

-- an item that has such parts if it is an external image
abbrev pub with_parts : Bool → (ExternalTextureNameKey → NameKey) → LabelledItem → List LabelledItem
with_parts external key item = item ∷ (if external then labelled_parts key item.1 else [])

-- an argument of a function, and its parts
abbrev pub labelled_argument : List Type_ → ℕ → ℕ → FunctionArgument → List LabelledItem
labelled_argument types function n argument =
    with_parts (is_external types argument.ty) (key.ExternalTextureFunctionArgument function n)
    (key.FunctionArgument function n, label_or argument.name (codes "param"))

-- the arguments of a function, in their order
abbrev pub labelled_arguments : List Type_ → ℕ → List FunctionArgument → List LabelledItem
labelled_arguments types function arguments =
    flat_map (λ p. labelled_argument types function p.0 p.1) (enumerate_from 0 arguments)

-- the variables of a function, in their order
abbrev pub labelled_locals : ℕ → List LocalVariable → List LabelledItem
labelled_locals function locals =
    map (λ p. (key.FunctionLocal function p.0, label_or p.1.name (codes "local")))
    (enumerate_from 0 locals)

-- a function, and then its arguments and its variables
abbrev pub labelled_function : List Type_ → ℕ → Function → List LabelledItem
labelled_function types handle function =
    (key.Function handle, label_or function.name (codes "function")) ∷
    (labelled_arguments types handle function.arguments.items ++
    labelled_locals handle function.local_variables)

abbrev pub labelled_functions : List Type_ → List Function → List LabelledItem
labelled_functions types functions =
    flat_map (λ p. labelled_function types p.0 p.1) (enumerate_from 0 functions)

-- an entry point, and then its arguments and its variables
abbrev pub labelled_entry_arguments : ℕ → List FunctionArgument → List LabelledItem
labelled_entry_arguments entry_point arguments =
    map (λ p. (key.EntryPointArgument entry_point p.0, label_or p.1.name (codes "param")))
    (enumerate_from 0 arguments)

abbrev pub labelled_entry_locals : ℕ → List LocalVariable → List LabelledItem
labelled_entry_locals entry_point locals =
    map (λ p. (key.EntryPointLocal entry_point p.0, label_or p.1.name (codes "local")))
    (enumerate_from 0 locals)

abbrev pub labelled_entry_point : ℕ → EntryPoint → List LabelledItem
labelled_entry_point index entry_point =
    (key.EntryPoint index, string_bytes entry_point.name) ∷
    (labelled_entry_arguments index entry_point.function.arguments.items ++
    labelled_entry_locals index entry_point.function.local_variables)

abbrev pub labelled_entry_points : List EntryPoint → List LabelledItem
labelled_entry_points entry_points =
    flat_map (λ p. labelled_entry_point p.0 p.1) (enumerate_from 0 entry_points)

-- a global variable, and its parts
abbrev pub labelled_global : List Type_ → ℕ → GlobalVariable → List LabelledItem
labelled_global types g global =
    with_parts (is_external types global.ty) (key.ExternalTextureGlobalVariable g)
    (key.GlobalVariable g, label_or global.name (codes "global"))

abbrev pub labelled_globals : List Type_ → List GlobalVariable → List LabelledItem
labelled_globals types globals =
    flat_map (λ p. labelled_global types p.0 p.1) (enumerate_from 0 globals)

-- what a module declares beside its values, in the order of the names
abbrev pub labelled_declarations : Module → List LabelledItem
labelled_declarations module_ =
    labelled_types module_.entry_points.items module_.types
    ++ (labelled_entry_points module_.entry_points.items ++
    (labelled_functions module_.types module_.functions ++
    labelled_globals module_.types module_.global_variables))

-- the key can be told: the index of an entry point is
-- a `u16`, and that of a member or an argument a `u32`
abbrev pub key_fits : NameKey → Bool
key_fits (key.StructMember t n) = nat_lt n (2 ^ 32)
key_fits (key.FunctionArgument f n) = nat_lt n (2 ^ 32)
key_fits (key.ExternalTextureFunctionArgument f n part) = nat_lt n (2 ^ 32)
key_fits (key.EntryPoint e) = nat_lt e (2 ^ 16)
key_fits (key.EntryPointArgument e n) = nat_lt e (2 ^ 16) && nat_lt n (2 ^ 32)
key_fits (key.EntryPointLocal e l) = nat_lt e (2 ^ 16)
key_fits (key.EntryPointOobLocal e t) = nat_lt e (2 ^ 16)
key_fits other = true

-- each of these items has a key that can be told
abbrev pub keys_fit : List LabelledItem → Bool
keys_fit items = list_all (λ item. key_fits item.0) items

-- ---- names
abbrev pub is_member : NameKey → Bool
is_member (key.StructMember t n) = true
is_member other = false

-- the labels of one namespace, that of all items but the members of structs
abbrev pub labels_of : List LabelledItem → List (List ℕ)
labels_of items = flat_map (λ item. if is_member item.0 then [] else item.1 ∷ []) items

-- the labels that an item's name is to differ from. Each struct is a namespace of its own: the n
-- members that stand before the member n are the n items before it
abbrev pub labels_beside : NameKey → List LabelledItem → List (List ℕ)
labels_beside (key.StructMember t n) earlier =
    map (λ item. item.1) (drop (length earlier - n) earlier)
labels_beside other earlier = labels_of earlier

-- what the members of structs are named by: the same
-- words and prefixes, but no builtin words, and no uses
abbrev pub member_names : Names → Names
member_names names = record names { builtin_identifiers = set.empty; uses = finite.empty }

-- what an item is named by
abbrev pub names_beside : Names → NameKey → Names
names_beside names (key.StructMember t n) = member_names names
names_beside names other = names

-- the name of an item after these
abbrev pub item_name : Names → List LabelledItem → LabelledItem → List ℕ
item_name names earlier item =
    name_after (names_beside names item.0) (labels_beside item.0 earlier) item.1

-- each item with the name that it has after those before it
abbrev pub named_items : Names → List LabelledItem → List (NameKey × List ℕ)
named_items names items =
    scan
    (λ earlier item. earlier ++ item ∷ [])
    (λ earlier item. (item.0, item_name names earlier item)) [] items

-- `now` is `before` with these pairs put in, one after another
pub record PutsInto (before : NameMap) (pairs : List (NameKey × List ℕ))
    (now : NameMap) : Type 0 where
  pub finds : (key : NameKey) → now key ≡ update_all same_key before pairs key

-- ---- constants and overrides, which are labelled by their types' names where they have no label
-- a value of the module: its own label, or the word and the name of its type
abbrev pub value_label : {Y : Type 0} → (ℕ → List ℕ) → List ℕ → Option (String Y) → ℕ → List ℕ
value_label names word label ty = label_or label (word ++ names ty)

abbrev pub labelled_constants : (ℕ → List ℕ) → List Constant → List LabelledItem
labelled_constants names constants =
    map (λ p. (key.Constant p.0, value_label names (codes "const_") p.1.name p.1.ty))
    (enumerate_from 0 constants)

abbrev pub labelled_overrides : (ℕ → List ℕ) → List Override → List LabelledItem
labelled_overrides names overrides =
    map (λ p. (key.Override p.0, value_label names (codes "override_") p.1.name p.1.ty))
    (enumerate_from 0 overrides)

-- the constants and then the overrides
abbrev pub labelled_values : (ℕ → List ℕ) → Module → List LabelledItem
labelled_values names module_ =
    labelled_constants names module_.constants ++ labelled_overrides names module_.overrides

-- the name of a type of the module; there is none for a type that isn't there
abbrev pub type_name : Names → Module → ℕ → List ℕ
type_name start module_ t =
    let names = named_items start (labelled_types module_.entry_points.items module_.types) in
    unwrap_or (lookup (same_key (key.Type_ t)) names) []

-- the items that are named, in the order of their names
abbrev pub labelled_items : Names → Module → List LabelledItem
labelled_items start module_ =
    labelled_declarations module_ ++ labelled_values (type_name start module_) module_

-- the names that a map has for types, of which there are so many
abbrev pub type_names_in : NameMap → ℕ → ℕ → List ℕ
type_names_in names count t = if nat_lt t count then unwrap_or (names (key.Type_ t)) [] else []

-- a `Namer` that began as `start`, with no uses, and gave
-- these items their names, which were put into a map
pub record HasNamedItems (start : Names) (before : NameMap) (items : List LabelledItem)
    (names : Names)
    (now : NameMap) : Type 0 where
  pub words : names ≡ record start { uses = names.uses }
  pub labels : HasNamed names (labels_of items)
  pub keys : keys_fit items ≡ true
  pub put : PutsInto before (named_items start items) now

-- a map into which the names of some beginning of these items were put
pub record PutsBeginning (start : Names) (before : NameMap) (items : List LabelledItem)
    (now : NameMap) : Type 0 where
  pub named : List LabelledItem
  pub left : List LabelledItem
  pub all : items ≡ named ++ left
  pub put : PutsInto before (named_items start named) now

-- after any items that were named before, the `Namer` and the map also have the names of these
pub record NamesItems (old : Names) (before : NameMap) (items : List LabelledItem) (new : Names)
    (now : NameMap) : Type 0 where
  pub more : (start : Names) (first : NameMap) (earlier : List LabelledItem) →
      HasNamedItems start first earlier old before →
      HasNamedItems start first (earlier ++ items) new now
