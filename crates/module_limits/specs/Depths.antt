-- How deep items are made of one another: an item is one deeper than the deepest of its parts, and
-- one without parts has depth 1.
--
-- Throughout, the items of a list name their parts by number, from 0; those that stand in front of
-- an item count, and a number of none of these counts for nothing. In a module that is accepted all
-- parts stand in front. A list of depths has that of each item, and h is the number of an item.
use Rattle.std.specs.Prelude.{◌≡◌, ℕ, ◌<◌, suc, max, All, List, [], ◌∷◌, ◌++◌, Some, fold, get_or}
use Rattle.std.specs.Prelude.{map, slice_get}

-- the greatest of these; of none, 0
abbrev pub greatest : List ℕ → ℕ
greatest [] = 0
greatest (n ∷ ns) = max n (greatest ns)

-- how deep the deepest of these parts is
abbrev pub deepest : (depths parts : List ℕ) → ℕ
deepest depths parts = greatest (map (λ h. get_or depths h 0) parts)

-- the depths of the items in front of this one, and then its own
abbrev pub with_depth : {X : Type 0} → (X → List ℕ) → List ℕ → X → List ℕ
with_depth parts depths x = depths ++ suc (deepest depths (parts x)) ∷ []

-- the depth of each item
abbrev pub depths_of : {X : Type 0} → (X → List ℕ) → List X → List ℕ
depths_of parts xs = fold (with_depth parts) [] xs

-- that of the deepest
abbrev pub depth_of : {X : Type 0} → (X → List ℕ) → List X → ℕ
depth_of parts xs = greatest (depths_of parts xs)

-- an item whose parts all stand in front of it is one deeper than the deepest of them
abbrev pub AreOneDeeper : {X : Type 0} → (X → List ℕ) → List X → Type 0
AreOneDeeper {X} parts xs =
    (h : ℕ) (x : X) → slice_get xs h ≡ Some x → All (λ part. part < h) (parts x) →
    get_or (depths_of parts xs) h 0 ≡ suc (deepest (depths_of parts xs) (parts x))
