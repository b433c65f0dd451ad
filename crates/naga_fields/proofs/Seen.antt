-- Fields as contracts see them.
use Rattle.std.proofs.Common.{◌≡◌, ℕ, List, sym}
use Rattle.std.proofs.lemmas.Option.{slice_get-map}
use Rattle.std.specs.Borrow.{Bor}
use Rattle.std.specs.Option.{option_map}
use Rattle.std.specs.Prelude.{Option, map, slice_get}
use Rattle.naga_fields.specs.Fields.{seen}

-- a field among those that there are
pub nth_seen : (fields : List (Bor (List ℕ) × Option ℕ)) (n : ℕ) →
    option_map seen (slice_get fields n) ≡ slice_get (map seen fields) n
nth_seen fields n = sym (slice_get-map seen fields n)
