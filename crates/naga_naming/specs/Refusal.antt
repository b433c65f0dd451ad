-- Why a label gets no name, and why a module gets none.
use Rattle.std.specs.Prelude.{◌≡◌, ⊤, ◌⊎◌, List, length, slice_get, Some, ℕ, ◌<◌, ◌^◌, ◌∷◌, ◌++◌}
use Rattle.std.specs.Prelude.{IfErr, IsErr, OnErr, OnOk, Result, false}
use Rattle.naga_ir.specs.declared.module.EntryPoint.{EntryPoint}
use Rattle.naga_ir.specs.declared.module.Function.{Function}
use Rattle.naga_ir.specs.declared.module.Module.{Module}
use Rattle.naga_ir.specs.declared.types.Type_.{Type_}
use Rattle.naga_naming.specs.declared.error.NamerError.{NamerError}
use Rattle.naga_naming.specs.declared.error.NamerError.TheVariants.{Full, KeyFull, Memory}
use Rattle.naga_naming.specs.Naming.{Names, Uses, uses_of, label_stem, labels_with_stem, no_names}
use Rattle.naga_naming.specs.Keys.{NameMap}
use Rattle.naga_naming.specs.Reset.{LabelledItem, members_of, is_member, labels_of, keys_fit}
use Rattle.naga_naming.specs.Reset.{labelled_items, HasNamedItems, PutsBeginning}

-- `Full` comes only where the stem is full,
-- `KeyFull` never, and `Memory` may come at any time
abbrev pub IsRefusalOfStem : Uses → List ℕ → NamerError → Type 0
IsRefusalOfStem uses stem Full = uses_of uses stem ≡ 2 ^ 32
IsRefusalOfStem uses stem KeyFull = ⊥
IsRefusalOfStem uses stem (Memory e) = ⊤

-- the same of the label's stem
abbrev pub IsRefusalOf : Names → List ℕ → NamerError → Type 0
IsRefusalOf names label error = IsRefusalOfStem names.uses (label_stem names label) error

-- at one of these items, which is no member of a struct, the label's stem is full: the labels
-- before it used it so often that there is no next name
pub record SomeNameIsFull (start : Names) (items : List LabelledItem) : Type 0 where
  pub named : List LabelledItem
  pub item : LabelledItem
  pub left : List LabelledItem
  pub all : items ≡ named ++ item ∷ left
  pub outside : is_member item.0 ≡ false
  pub full : labels_with_stem start (labels_of named) (label_stem start item.1) ≡ 2 ^ 32

-- some item has a key that can't be told: an entry point after the first 65,536, or a member or an
-- argument whose index is no `u32`
abbrev pub SomeKeyIsFull : List LabelledItem → Type 0
SomeKeyIsFull items = keys_fit items ≡ false

-- a struct with more members than a `u32` can count
pub record HasLongStruct (module_ : Module) : Type 0 where
  pub index : ℕ
  pub ty : Type_
  pub there : slice_get module_.types index ≡ Some ty
  pub long : 2 ^ 32 < length (members_of ty.inner)

-- a function with more arguments than that
pub record HasLongFunction (module_ : Module) : Type 0 where
  pub index : ℕ
  pub function : Function
  pub there : slice_get module_.functions index ≡ Some function
  pub long : 2 ^ 32 < length function.arguments.items

-- an entry point with so many
pub record HasLongEntryPoint (module_ : Module) : Type 0 where
  pub index : ℕ
  pub entry_point : EntryPoint
  pub there : slice_get module_.entry_points.items index ≡ Some entry_point
  pub long : 2 ^ 32 < length entry_point.function.arguments.items

-- the module has more than 65,536 entry points, or an
-- index of a member or of an argument that is no `u32`
abbrev pub KeysRunOut : Module → Type 0
KeysRunOut module_ =
    (2 ^ 16 < length module_.entry_points.items)
    ⊎ (HasLongStruct module_ ⊎ (HasLongFunction module_ ⊎ HasLongEntryPoint module_))

-- `Full` comes only where one of the items meets a full stem, `KeyFull` only where one has a key
-- that can't be told, and `Memory` may come at any time
abbrev pub IsRefusalOfItems : Names → List LabelledItem → NamerError → Type 0
IsRefusalOfItems start items Full = SomeNameIsFull start items
IsRefusalOfItems start items KeyFull = SomeKeyIsFull items
IsRefusalOfItems start items (Memory e) = ⊤

-- the same of all items of a module
abbrev pub IsResetRefusal : Names → Module → NamerError → Type 0
IsResetRefusal start module_ error = IsRefusalOfItems start (labelled_items start module_) error

-- The namer was reset by the module, and began with these words and prefixes. All items have names,
-- or the namer is a new one and the map has the names of some beginning of them. A refusal has a
-- reason, and a module that gives a reason is refused; so is one of which a list is too long.
pub record IsReset (start : Names) (module_ : Module) (result : Result Unit NamerError)
    (now : Names) (before after : NameMap) : Type 0 where
  pub ok : OnOk result (HasNamedItems start before (labelled_items start module_) now after)
  pub err : OnErr result (now ≡ no_names)
  pub beginning : OnErr result (PutsBeginning start before (labelled_items start module_) after)
  pub reason : IfErr result (IsResetRefusal start module_)
  pub full : SomeNameIsFull start (labelled_items start module_) → IsErr result
  pub key_full : SomeKeyIsFull (labelled_items start module_) → IsErr result
  pub too_long : IfErr result (λ error. error ≡ KeyFull → KeysRunOut module_)
  pub keys_run_out : KeysRunOut module_ → IsErr result

-- after any items that were named before, these are refused
-- for a reason, and the map has the names of some beginning
pub record RefusesItems (old : Names) (before : NameMap) (items : List LabelledItem) (now : NameMap)
    (error : NamerError) : Type 0 where
  pub some : (start : Names) (first : NameMap) (earlier : List LabelledItem) →
      HasNamedItems start first earlier old before →
      PutsBeginning start first (earlier ++ items) now
  pub why : (start : Names) (first : NameMap) (earlier : List LabelledItem) →
      HasNamedItems start first earlier old before → IsRefusalOfItems start (earlier ++ items) error
