-- What putting one name does, and naming the members of one struct.
--
-- Throughout, t is the handle of the struct, q a key, and e an error.
use Rattle.std.specs.Prelude.{◌≡◌, ⊤, ℕ, List, [], ◌∷◌, ◌++◌, take, map, Some, true, false}
use Rattle.std.specs.Prelude.{if◌then◌else◌}
use Rattle.std.specs.List.{scan}
use Rattle.naga_ir.specs.declared.types.StructMember.{StructMember}
use Rattle.naga_naming.specs.declared.error.NamerError.{NamerError}
use Rattle.naga_naming.specs.declared.error.NamerError.TheVariants.{Full, KeyFull, Memory}
use Rattle.naga_naming.specs.declared.key.NameKey.{NameKey}
use Rattle.naga_naming.specs.Naming.{Names, name_of, with_use, name_after, HasNamed}
use Rattle.naga_naming.specs.Refusal.{IsRefusalOf}
use Rattle.naga_naming.specs.Keys.{NameMap, same_key}
use Rattle.naga_naming.specs.Reset.{LabelledItem, labelled_members, member_label, keys_fit, PutsInto}

-- the label has one use more, and the map its name at the key
pub record PutsName (old : Names) (before : NameMap) (key : NameKey) (label : List ℕ) (new : Names)
    (now : NameMap) : Type 0 where
  pub used : new ≡ with_use old label
  pub history :
      (earlier : List (List ℕ)) → HasNamed old earlier → HasNamed new (earlier ++ label ∷ [])
  pub put : (q : NameKey) → now q ≡ (if same_key key q then Some (name_of old label) else before q)

-- the label got no name for a reason, and the map stays as it was
pub record PutsNoName (old : Names) (before : NameMap) (label : List ℕ) (now : NameMap)
    (error : NamerError) : Type 0 where
  pub kept : (q : NameKey) → now q ≡ before q
  pub why : IsRefusalOf old label error

-- the members of a struct with their names, each after the labels of those before it
abbrev pub named_members : Names → ℕ → List StructMember → List (NameKey × List ℕ)
named_members start t members =
    scan
    (λ earlier item. earlier ++ item.1 ∷ [])
    (λ earlier item. (item.0, name_after start earlier item.1)) [] (labelled_members t members)

-- what began as `start`, with no uses, gave these members their names, which were put into a map
pub record HasNamedMembers (start : Names) (before : NameMap) (t : ℕ) (members : List StructMember)
    (names : Names) (now : NameMap) : Type 0 where
  pub labels : HasNamed names (map member_label members)
  pub keys : keys_fit (labelled_members t members) ≡ true
  pub put : PutsInto before (named_members start t members) now

-- `KeyFull` comes only where a member has an index that can't be told, and `Full` never: no stem is
-- used so often by members whose indexes can be told
abbrev pub IsRefusalOfMembers : List LabelledItem → NamerError → Type 0
IsRefusalOfMembers items Full = ⊥
IsRefusalOfMembers items KeyFull = keys_fit items ≡ false
IsRefusalOfMembers items (Memory e) = ⊤

-- the members are refused for a reason, and the map has the names of some first ones
pub record RefusesMembers (start : Names) (before : NameMap) (t : ℕ) (members : List StructMember)
    (now : NameMap) (error : NamerError) : Type 0 where
  pub count : ℕ
  pub put : PutsInto before (named_members start t (take count members)) now
  pub why : IsRefusalOfMembers (labelled_members t members) error
