-- Handles in a map are told apart by their indexes.
use Rattle.std.specs.Prelude.{◌≡◌, ◌&&◌, ℕ, List, nat_eq, true}
use Rattle.std.proofs.Math.Bool.{and-true}
use Rattle.indexmap.specs.IndexMap.{insert_entry}

-- a handle's own equality asks of its mark too, which is always equal
pub by_index : {V : Type 0} (es : List (ℕ × V)) (k : ℕ) (v : V)
    → insert_entry (λ a b. nat_eq a b && true) es k v ≡ insert_entry nat_eq es k v
by_index es k v = λ i. insert_entry (λ a b. and-true (nat_eq a b) i) es k v
