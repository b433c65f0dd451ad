-- What naming one item after another does, up to the first refusal.
use Rattle.std.specs.Prelude.{ℕ, List, [], ◌++◌, Option, None, Some, Bool, false, codes}
use Rattle.std.specs.HashMap as hash
use Rattle.std.specs.declared.string.String.{String}
use Rattle.naga_ir.specs.declared.module.FunctionArgument.{FunctionArgument}
use Rattle.naga_ir.specs.declared.module.LocalVariable.{LocalVariable}
use Rattle.naga_ir.specs.declared.module.Module.{Module}
use Rattle.naga_ir.specs.declared.types.Type_.{Type_}
use Rattle.naga_naming.specs.Keys.{NameMap, names_in}
use Rattle.naga_naming.specs.declared.key.ExternalTextureNameKey.{ExternalTextureNameKey}
use Rattle.naga_naming.specs.declared.key.NameKey.{NameKey}
use Rattle.naga_naming.specs.declared.key.NameKey.TheVariants as key
use Rattle.naga_naming.specs.declared.error.NamerError.{NamerError}
use Rattle.naga_naming.specs.Naming.{Names, label_or}
use Rattle.naga_naming.specs.Refusal.{IsRefusalOfItems}
use Rattle.naga_naming.specs.Reset.{LabelledItem, HasNamedItems, PutsBeginning, labelled_items}
use Rattle.naga_naming.specs.Reset.{is_external, with_parts}
use Rattle.naga_names.specs.declared.namer.items.Naming.{Naming}
use Rattle.naga_names.specs.declared.namer.items.Owner.{Owner}
use Rattle.naga_names.specs.declared.namer.items.Owner.TheVariants as owner

-- the `Namer`, the names in the map, and the first refusal
pub record Progress : Type 0 where
  pub names : Names
  pub map : NameMap
  pub refusal : Option NamerError

abbrev pub progress : {Y S : Type 0} → Naming → hash.HashMap NameKey (String Y) S → Progress
progress naming output =
    record { names = naming.namer; map = names_in output; refusal = naming.refusal }

-- these items have their names; or they are refused for a reason, and some first ones have theirs
abbrev pub Stands : (start : Names) (first : NameMap) (items : List LabelledItem)
    → Names → NameMap → Option NamerError → Type 0
Stands start first items names now None = HasNamedItems start first items names now
Stands start first items names now (Some error) =
    PutsBeginning start first items now × IsRefusalOfItems start items error

-- after any items that were named before, these are named too
pub record Gives (before : Progress) (items : List LabelledItem) (after : Progress) : Type 0 where
  pub more : (start : Names) (first : NameMap) (earlier : List LabelledItem)
      → Stands start first earlier before.names before.map before.refusal
      → Stands start first (earlier ++ items) after.names after.map after.refusal

-- the same of the items of a module, where none were named before
pub record GivesModule (before : Progress) (module_ : Module) (after : Progress) : Type 0 where
  pub more : (start : Names) (first : NameMap)
      → Stands start first [] before.names before.map before.refusal
      → Stands start first (labelled_items start module_) after.names after.map after.refusal

-- of all items these are left to be named
pub record Leaves (before now : Progress) (all left : List LabelledItem) : Type 0 where
  pub rest : (after : Progress) → Gives now left after → Gives before all after

-- ---- functions and entry points
abbrev pub argument_key : Owner → ℕ → NameKey
argument_key (owner.Function f) n = key.FunctionArgument f n
argument_key (owner.EntryPoint e) n = key.EntryPointArgument e n

abbrev pub local_key : Owner → ℕ → NameKey
local_key (owner.Function f) l = key.FunctionLocal f l
local_key (owner.EntryPoint e) l = key.EntryPointLocal e l

-- the key of a part of what has this key
abbrev pub part_key : NameKey → ExternalTextureNameKey → NameKey
part_key (key.GlobalVariable g) part = key.ExternalTextureGlobalVariable g part
part_key (key.FunctionArgument f n) part = key.ExternalTextureFunctionArgument f n part
part_key other part = other

-- an argument of an entry point has no parts
abbrev pub has_parts : Owner → List Type_ → ℕ → Bool
has_parts (owner.Function f) types t = is_external types t
has_parts (owner.EntryPoint e) types t = false

abbrev pub argument_items : Owner → List Type_ → ℕ → FunctionArgument → List LabelledItem
argument_items of types n argument =
    with_parts (has_parts of types argument.ty) (part_key (argument_key of n))
    (argument_key of n, label_or argument.name (codes "param"))

abbrev pub local_item : Owner → ℕ → LocalVariable → LabelledItem
local_item of l variable = (local_key of l, label_or variable.name (codes "local"))
