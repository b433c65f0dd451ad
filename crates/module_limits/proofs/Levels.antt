-- When numbers, and the greatest of several, are no more than so many levels.
use Rattle.std.proofs.Common.{◌≡◌, ℕ, ◌≤◌, ◌+◌, suc, max, List, [], ◌∷◌, ◌++◌, fold, map}
use Rattle.std.proofs.Common.{refl, ap, arith, get_or}
use Rattle.std.specs.List.{enumerate_from}
use Rattle.module_limits.specs.Depths.{greatest, with_depth}

pub greatest_append : (xs ys : List ℕ) → greatest (xs ++ ys) ≡ max (greatest xs) (greatest ys)
greatest_append [] ys = omega arith
greatest_append (x ∷ xs) ys = omega (arith, greatest_append xs ys)

-- the depths only grow as items come
pub deeper : {X : Type 0} (parts : X → List ℕ) (depths : List ℕ) (xs : List X) → greatest depths
    ≤ greatest (fold (with_depth parts) depths xs)
deeper parts depths [] = omega arith
deeper parts depths (x ∷ xs) =
    omega (
      arith,
      deeper parts (with_depth parts depths x) xs,
      greatest_append depths (suc (greatest (map (λ h. get_or depths h 0) (parts x))) ∷ []),
    )

-- items with their numbers, without these
pub items_of_pairs : {X : Type 0} (n : ℕ) (xs : List X) → map (λ p. p.1) (enumerate_from n xs) ≡ xs
items_of_pairs n [] = refl
items_of_pairs n (x ∷ xs) = ap (λ ys. x ∷ ys) (items_of_pairs (n + 1) xs)
