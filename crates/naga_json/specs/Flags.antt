-- What a JSON value says of sets of flags: the names of their bits, which are those of naga's `StorageAccess`,
-- `MemoryDecorations` and `Barrier` (docs/JSON.md, "Forms").
use Rattle.std.specs.Prelude.{ℕ, List, [], ◌∷◌, if◌then◌else◌, ◌==◌, Option, Some, None}
use Rattle.std.specs.Prelude.{Result, Ok, Err}
use Rattle.std.specs.Int.RustNames.{bit_and}
use Rattle.json.specs.Json.{Json}
use Rattle.json.specs.Find.{as_str}
use Rattle.bitflags.specs.Sets.{known_bits}
use Rattle.bitflags.specs.Text.{name_piece, read_text}
use Rattle.naga_json.specs.Said.{◌>>=◌, Table, ◌⇒◌}
use Rattle.naga_json.specs.Numbers.{unsigned_said}
use Rattle.naga_ir.specs.declared.flags.Barrier.{Barrier}
use Rattle.naga_ir.specs.declared.flags.MemoryDecorations.{MemoryDecorations}
use Rattle.naga_ir.specs.declared.flags.StorageAccess.{StorageAccess}

abbrev pub ok_of : {X E : Type 0} → Result X E → Option X
ok_of (Ok x) = Some x
ok_of (Err e) = None

-- bits of which each is one of a flag of the table
abbrev pub known_flags : Table ℕ → ℕ → Option ℕ
known_flags table bits = if bit_and bits (known_bits table) == bits then Some bits else None

abbrev pub flags_by : Table ℕ → Json → Option (List ℕ) → Option ℕ
flags_by table j (Some text) = ok_of (read_text (name_piece table) text)
flags_by table j None = unsigned_said 32 j >>= known_flags table

-- the bits of a set: the names of its flags in a text, with bars between them, or a number
abbrev pub flags_said : Table ℕ → Json → Option ℕ
flags_said table j = flags_by table j (as_str j)

-- ---- the sets

abbrev pub storage_access_table : Table ℕ
storage_access_table = "LOAD" ⇒ 1 ∷ "STORE" ⇒ 2 ∷ "ATOMIC" ⇒ 4 ∷ []

abbrev pub storage_access_said : Json → Option StorageAccess
storage_access_said j = flags_said storage_access_table j >>= λ bits. Some (record { 0 = bits })

abbrev pub memory_decorations_table : Table ℕ
memory_decorations_table = "COHERENT" ⇒ 1 ∷ "VOLATILE" ⇒ 2 ∷ []

abbrev pub memory_decorations_said : Json → Option MemoryDecorations
memory_decorations_said j =
    flags_said memory_decorations_table j >>= λ bits. Some (record { 0 = bits })

abbrev pub no_decorations : MemoryDecorations
no_decorations = record { 0 = 0 }

abbrev pub barrier_table : Table ℕ
barrier_table = "STORAGE" ⇒ 1 ∷ "WORK_GROUP" ⇒ 2 ∷ "SUB_GROUP" ⇒ 4 ∷ "TEXTURE" ⇒ 8 ∷ []

abbrev pub barrier_said : Json → Option Barrier
barrier_said j = flags_said barrier_table j >>= λ bits. Some (record { 0 = bits })
