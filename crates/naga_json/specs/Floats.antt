-- Which floats a JSON value says, by their bits: of 8 and of 4 bytes the one nearest to its number, which must be finite,
-- and of 2 bytes the one whose bits are its number. An object tells the bits of any (docs/JSON.md, "Forms").
use Rattle.std.specs.Prelude.{ℕ, [], ◌∷◌, if◌then◌else◌, Option, Some, None, to_bits}
use Rattle.std.specs.Float.{Format, binary32, binary64, float_is_finite}
use Rattle.std.specs.Float.Parse.{parse_float}
use Rattle.json.specs.Json.{Json}
use Rattle.json.specs.Find.{as_number}
use Rattle.naga_json.specs.Said.{◌>>=◌, is_object, members, field}
use Rattle.naga_json.specs.Numbers.{whole_said, unsigned_said}

abbrev pub told_bits_said : {Y : Type 0} → (Json → Option Y) → Json → Option Y
told_bits_said said j = do
  _ ← members ("bits" ∷ []) j
  field "bits" said j

-- the bits of the float nearest to the number, and of two that are as near of the one whose last bit is 0
abbrev pub nearest_bits : Format → Json → Option ℕ
nearest_bits f j = do
  numeral ← as_number j
  float ← parse_float f numeral
  if float_is_finite float then Some (to_bits f float) else None

abbrev pub double_bits_said : Json → Option ℕ
double_bits_said j = if is_object j then told_bits_said whole_said j else nearest_bits binary64 j

abbrev pub single_bits_said : Json → Option ℕ
single_bits_said j =
    if is_object j then told_bits_said (unsigned_said 32) j else nearest_bits binary32 j

abbrev pub half_bits_said : Json → Option ℕ
half_bits_said j = if is_object j then told_bits_said (unsigned_said 16) j else unsigned_said 16 j
