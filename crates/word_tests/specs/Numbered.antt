-- The names that types and overrides get by their indices.
use Rattle.std.specs.Prelude.{◌≡◌, ℕ, List, ◌++◌, Some, None, codes, decimal, length, slice_get}
use Rattle.std.specs.Prelude.{string_bytes}
use Rattle.std.specs.declared.string.String.{String}
use Rattle.naga_ir.specs.declared.types.Type_.{Type_}
use Rattle.naga_naming.specs.declared.key.NameKey.TheVariants as key
use Rattle.naga_naming.specs.Keys.{NameMap}
use Rattle.naga_spelling.specs.Contexts.{names_context}
use Rattle.naga_spelling.specs.Spelling.{Context}

-- the name of the struct at a handle
abbrev pub type_number : ℕ → List ℕ
type_number handle = codes "T" ++ decimal handle

-- the name of an override
abbrev pub override_number : ℕ → List ℕ
override_number handle = codes "O" ++ decimal handle

-- the names of types and overrides
abbrev pub numbers : NameMap
numbers (key.Type_ handle) = Some (type_number handle)
numbers (key.Override handle) = Some (override_number handle)
numbers _ = None

-- types by their numbers; what has no form is refused
abbrev pub numbered_context : List Type_ → Context
numbered_context types = names_context types numbers

-- Each name is the number of its place.
abbrev pub HaveNumbers : {Y : Type 0} → List (String Y) → Type 0
HaveNumbers {Y} names =
    (index : ℕ) (name : String Y) → slice_get names index ≡ Some name →
    string_bytes name ≡ type_number index

-- Each type has its number as its name.
pub record AreNumbered {Y : Type 0} (types : List Type_) (names : List (String Y)) : Type 0 where
  pub each_has_one : length names ≡ length types
  pub each_is_its_own : HaveNumbers names
