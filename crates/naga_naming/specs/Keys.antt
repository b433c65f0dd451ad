-- Maps from keys to names.
use Rattle.std.specs.Prelude.{ℕ, List, Option, Bool, string_bytes}
use Rattle.std.specs.declared.string.String.{String}
use Rattle.std.specs.Hash.{HashWrites}
use Rattle.std.specs.HashMap as hash
use Rattle.std.specs.Option.{option_map}
use Rattle.naga_naming.specs.declared.key.NameKey.{NameKey}
use Rattle.naga_naming.specs.contracts.key.NameKeyHash.TheImpl.{hash_input-value}
use Rattle.naga_naming.specs.contracts.key.NameKeyPartialEq.TheImpl.{eq-value}

-- what a map of names has at each key
abbrev pub NameMap : Type 0
NameMap = NameKey → Option (List ℕ)

-- how keys are compared, by their variants and what these hold
abbrev pub same_key : NameKey → NameKey → Bool
same_key = eq-value.it

-- what a hasher is given of a key
abbrev pub key_writes : NameKey → HashWrites
key_writes = hash_input-value.it

-- the texts that a map has
abbrev pub names_in : {Y S : Type 0} → hash.HashMap NameKey (String Y) S → NameMap
names_in names key = option_map string_bytes (hash.get same_key names key)
