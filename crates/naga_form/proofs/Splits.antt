-- A list before and after one of its items.
--
-- Throughout, x is the item of xs at g, and c is a count of first items.
use Rattle.std.proofs.Common.{◌≡◌, ℕ, zero, suc, ◌≤◌, List, [], ◌∷◌, ◌++◌, Some, ap, arith, drop, sym}
use Rattle.std.proofs.Common.{append_assoc, refl, take, ◌∙◌}
use Rattle.std.specs.Prelude.{reverse, slice_get}
use Rattle.std.proofs.lemmas.List.{reverse-append, take-append-drop}
use Rattle.std.proofs.lemmas.Option.{same_Some}

pub parted_at : {X : Type 0} (xs : List X) (g : ℕ) (x : X) → slice_get xs g ≡ Some x →
    take g xs ++ (x ∷ drop (suc g) xs) ≡ xs
parted_at [] g x at = absurd cc
parted_at (y ∷ xs) zero x at = ap (λ z. z ∷ xs) (sym (same_Some y x at))
parted_at (y ∷ xs) (suc g) x at = ap (λ zs. y ∷ zs) (parted_at xs g x at)

pub first_of_more : {X : Type 0} (c g : ℕ) (xs : List X) → c ≤ g → take c (take g xs) ≡ take c xs
first_of_more zero g xs le = refl
first_of_more (suc c) zero xs le = absurd (omega (arith, le))
first_of_more (suc c) (suc g) [] le = refl
first_of_more (suc c) (suc g) (y ∷ xs) le = ap (λ zs. y ∷ zs) (first_of_more c g xs (omega (arith, le)))

-- the last one first
pub reverse_around : {X : Type 0} (xs : List X) (y : X) (zs : List X) →
    reverse (xs ++ (y ∷ zs)) ≡ reverse zs ++ (y ∷ reverse xs)
reverse_around xs y zs =
    reverse-append xs (y ∷ zs)
    ∙ (ap (λ ys. ys ++ reverse xs) (reverse-append (y ∷ []) zs)
    ∙ append_assoc (reverse zs) (y ∷ []) (reverse xs))

pub turned_at : {X : Type 0} (xs : List X) (g : ℕ) (x : X) → slice_get xs g ≡ Some x →
    reverse xs ≡ reverse (drop (suc g) xs) ++ (x ∷ reverse (take g xs))
turned_at xs g x at =
    ap reverse (sym (parted_at xs g x at)) ∙ reverse_around (take g xs) x (drop (suc g) xs)

pub turned_first : {X : Type 0} (xs : List X) (c g : ℕ) → c ≤ g →
    reverse (take g xs) ≡ reverse (drop c (take g xs)) ++ reverse (take c xs)
turned_first xs c g le =
    ap reverse (sym (take-append-drop c (take g xs)))
    ∙ (reverse-append (take c (take g xs)) (drop c (take g xs))
    ∙ ap (λ zs. reverse (drop c (take g xs)) ++ reverse zs) (first_of_more c g xs le))
