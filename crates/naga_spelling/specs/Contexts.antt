-- What each context knows.
--
-- Throughout, o is an override and t a type.
use Rattle.std.specs.Prelude.{ℕ, nat_lt, Bool, true, false, List, [], ◌∷◌, Option, Some, None}
use Rattle.std.specs.Prelude.{codes, length, slice_get, string_bytes}
use Rattle.std.specs.Option.{option_map, option_map_or}
use Rattle.naga_ir.specs.declared.types.Type_.{Type_}
use Rattle.naga_ir.specs.declared.module.Override.{Override}
use Rattle.naga_naming.specs.declared.key.NameKey.TheVariants as key
use Rattle.naga_naming.specs.Keys.{NameMap}
use Rattle.naga_spelling.specs.Segments.{Segment, Word, Missing, shown_between}
use Rattle.naga_spelling.specs.Spelling.{Context}

-- the label of a type, or what stands for one without
abbrev pub type_label : Option Type_ → List ℕ
type_label None = []
type_label (Some t) = option_map_or string_bytes t.name (codes "{anonymous type}")

-- types alone: labels are names, and what has none is shown in braces
abbrev pub arena_context : List Type_ → Context
arena_context types = record {
  types = types;
  name = λ handle. type_label (slice_get types handle);
  knows = λ handle. true;
  override_segments = λ handle. shown_between (codes "{override ") (codes "}");
  unnamed_segments = shown_between (codes "{unnamed struct ") (codes "}");
  refuses = false;
}

abbrev pub label_segments : Option (List ℕ) → List Segment
label_segments None = shown_between (codes "{anonymous override ") (codes "}")
label_segments (Some label) = Word label ∷ []

-- an override by its label, or in braces
abbrev pub override_label_segments : Option Override → List Segment
override_label_segments None = []
override_label_segments (Some o) = label_segments (option_map string_bytes o.name)

-- types and overrides: labels are names, and what has none is shown in braces
abbrev pub global_context : List Type_ → List Override → Context
global_context types overrides = record {
  types = types;
  name = λ handle. type_label (slice_get types handle);
  knows = λ handle. nat_lt handle (length overrides);
  override_segments = λ handle. override_label_segments (slice_get overrides handle);
  unnamed_segments = Word (codes "{unnamed struct}") ∷ [];
  refuses = false;
}

-- types, and the names of structs and overrides by their handles
pub record Names : Type 0 where
  pub types : List Type_
  pub struct_name : ℕ → List ℕ
  pub override_name : ℕ → List ℕ

-- the context that has these names and refuses what has no form
abbrev pub writer_context : Names → (ℕ → Bool) → Context
writer_context n knows = record {
  types = n.types;
  name = n.struct_name;
  knows = knows;
  override_segments = λ handle. Word (n.override_name handle) ∷ [];
  unnamed_segments = Missing ∷ [];
  refuses = true;
}

-- a name that a map has, and nothing for one that it lacks
abbrev pub name_or_nothing : Option (List ℕ) → List ℕ
name_or_nothing None = []
name_or_nothing (Some name) = name

-- the names of types and overrides that a map has
abbrev pub names_of : List Type_ → NameMap → Names
names_of types names = record {
  types = types;
  struct_name = λ handle. name_or_nothing (names (key.Type_ handle));
  override_name = λ handle. name_or_nothing (names (key.Override handle));
}

-- types and overrides by the names of a map; what has no form is refused
abbrev pub names_context : List Type_ → NameMap → Context
names_context types names = writer_context (names_of types names) (λ handle. true)
