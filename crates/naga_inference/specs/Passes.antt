-- A pass over a list, which gives each item an answer by the answers to those before it.
--
-- Throughout, rule gives an item (p; ps are several) its answer or a fault, before are the answers
-- to the items before it, in order, k is an answer that is told beside (ks are several), and Like
-- says when two answers count as one.
use Rattle.std.specs.Prelude.{◌≡◌, List, [], ◌∷◌, ◌++◌, Result, Ok, Err}

-- what comes of an answer, if it is one
abbrev pub result_and_then : {R S F : Type 0} → (R → Result S F) → Result R F → Result S F
result_and_then next (Ok r) = next r
result_and_then next (Err f) = Err f

-- the answers to all, or the first fault
abbrev pub answers_after :
    {P R F : Type 0} → (rule : List R → P → Result R F) → (before : List R) → List P →
    Result (List R) F
answers_after rule before [] = Ok before
answers_after rule before (p ∷ ps) =
    result_and_then (λ r. answers_after rule (before ++ (r ∷ [])) ps) (rule before p)

-- two lists of answers are alike, item by item
abbrev pub AllLike : {R : Type 0} → (Like : R → R → Type 0) → List R → List R → Type 0
AllLike Like [] [] = Unit {0}
AllLike Like (r ∷ rs) (k ∷ ks) = Like r k × AllLike Like rs ks
AllLike Like _ _ = ⊥

-- each answer that is told is like the one that the rule gives by those told before it
abbrev pub Follows :
    {P R F : Type 0} → (rule : List R → P → Result R F) → (Like : R → R → Type 0) →
    (before : List R) → List P → List R → Type 0
Follows rule Like before [] [] = Unit {0}
Follows {R = R} rule Like before (p ∷ ps) (k ∷ ks) =
    ((r : R) × (rule before p ≡ Ok r) × Like r k) × Follows rule Like (before ++ (k ∷ [])) ps ks
Follows rule Like before _ _ = ⊥
