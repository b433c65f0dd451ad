-- An item is one deeper than the deepest of its parts.
use Rattle.std.proofs.Common.{◌≡◌, ℕ, ◌<◌, ◌+◌, zero, suc, max, All, List, [], ◌∷◌, ◌++◌, fold, map, Some}
use Rattle.std.proofs.Common.{length, refl, sym, subst, ◌∙◌, ap, arith, get_or, slice_get}
use Rattle.std.proofs.Common.{length-append, add-zero, zero-add, unwrap_or}
use Rattle.std.proofs.Math.Seq.{get_or-append_seam}
use Rattle.std.proofs.lemmas.List.{get_or_append_left}
use Rattle.module_limits.specs.Depths.{AreOneDeeper, deepest, greatest, with_depth}

-- what is told of an item stays as more come
kept : {X : Type 0} (parts : X → List ℕ) (depths : List ℕ) (xs : List X) (k : ℕ) → k < length depths →
    get_or (fold (with_depth parts) depths xs) k 0 ≡ get_or depths k 0
kept parts depths [] k h = refl
kept parts depths (x ∷ xs) k h =
    let own = suc (deepest depths (parts x)) ∷ [] in
    kept parts (depths ++ own) xs k (omega (arith, length-append depths own, h))
    ∙ get_or_append_left depths own 0 k h

same_greatest : (f g : ℕ → ℕ) (hs : List ℕ) → All (λ h. f h ≡ g h) hs → greatest (map f hs) ≡ greatest (map g hs)
same_greatest f g [] same = refl
same_greatest f g (h ∷ hs) same =
    λ i. max (same 0 h (omega arith) i) (same_greatest f g hs (λ k d below. same (suc k) d (omega (arith, below))) i)

-- of the first that comes
first_deeper : {X : Type 0} (parts : X → List ℕ) (depths : List ℕ) (x : X) (xs : List X) →
    All (λ part. part < length depths) (parts x)
    → get_or (fold (with_depth parts) depths (x ∷ xs)) (length depths) 0
    ≡ suc (deepest (fold (with_depth parts) depths (x ∷ xs)) (parts x))
first_deeper parts depths x xs below =
    let own = suc (deepest depths (parts x)) ∷ [] in
    kept parts (depths ++ own) xs (length depths) (omega (arith, length-append depths own))
    ∙ get_or-append_seam depths (suc (deepest depths (parts x))) [] 0
    ∙ ap suc (same_greatest (λ h. get_or depths h 0) (λ h. get_or (fold (with_depth parts) depths (x ∷ xs)) h 0)
    (parts x) (λ k d within. sym (kept parts depths (x ∷ xs) (get_or (parts x) k d) (below k d within))))

one_deeper : {X : Type 0} (parts : X → List ℕ) (depths : List ℕ) (xs : List X) (h : ℕ) (x : X) → slice_get xs h
    ≡ Some x → All (λ part. part < length depths + h) (parts x)
    → get_or (fold (with_depth parts) depths xs) (length depths + h) 0
    ≡ suc (deepest (fold (with_depth parts) depths xs) (parts x))
one_deeper parts depths [] h x is below = absurd cc
one_deeper {X} parts depths (y ∷ ys) zero x is below =
    let P : X → Type 0 = λ z. All (λ part. part < length depths + 0) (parts z) →
    get_or (fold (with_depth parts) depths (y ∷ ys)) (length depths + 0) 0
    ≡ suc (deepest (fold (with_depth parts) depths (y ∷ ys)) (parts z)) in
    subst P (ap (λ o. unwrap_or o y) is)
    (λ b. rw add-zero (first_deeper parts depths y ys (λ k d within. omega (arith, b k d within)))) below
one_deeper parts depths (y ∷ ys) (suc h) x is below =
    let own = suc (deepest depths (parts y)) ∷ [] in
    let longer : length (depths ++ own) + h ≡ length depths + suc h = omega (arith, length-append depths own) in
    let P : ℕ → Type 0 = λ n. get_or (fold (with_depth parts) (depths ++ own) ys) n 0
    ≡ suc (deepest (fold (with_depth parts) (depths ++ own) ys) (parts x)) in
    subst P longer (one_deeper parts (depths ++ own) ys h x is (λ k d within. omega (arith, longer, below k d within)))

pub are_one_deeper : {X : Type 0} (parts : X → List ℕ) (xs : List X) → AreOneDeeper parts xs
are_one_deeper parts xs h x is below =
    let P : ℕ → Type 0 = λ n. get_or (fold (with_depth parts) [] xs) n 0
    ≡ suc (deepest (fold (with_depth parts) [] xs) (parts x)) in
    subst P (zero-add h) (one_deeper parts [] xs h x is (λ k d within. omega (arith, zero-add h, below k d within)))
