-- Lists from an index on.
use Rattle.std.proofs.Common.{arith, ◌≡◌, ℕ, ◌+◌, suc, List, ◌∷◌, Some, subst}
use Rattle.std.specs.Prelude.{slice_get}

-- the items of a list from its index on, and what is left after the first of them
pub further : {X : Type 0} (all : List X) (start : ℕ) (x : X) (xs : List X) →
    ((i : ℕ) (y : X) → slice_get (x ∷ xs) i ≡ Some y → slice_get all (start + i) ≡ Some y) →
    (i : ℕ) (y : X) → slice_get xs i ≡ Some y → slice_get all ((start + 1) + i) ≡ Some y
further all start x xs there i y e = let moved : start + suc i ≡ (start + 1) + i = omega arith in
    subst (λ h. slice_get all h ≡ Some y) moved (there (suc i) y e)

-- a list from its first index on is the whole
pub from_start : {X : Type 0} (all : List X) (i : ℕ) (y : X) → slice_get all i ≡ Some y → slice_get all (0 + i) ≡ Some y
from_start all i y e = let same : i ≡ 0 + i = omega arith in subst (λ h. slice_get all h ≡ Some y) same e
