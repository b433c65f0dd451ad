-- A loop that makes a table of depths, and stops where one is more than so many levels.
--
-- Throughout, items have their depths in the table, x is the next item with its number, and pairs are
-- those that are left, each with its number.
use Rattle.std.proofs.Common.{◌≡◌, ℕ, ◌<◌, ◌≤◌, ◌+◌, suc, List, [], ◌∷◌, ◌++◌, fold, map, false, nat_le}
use Rattle.std.proofs.Common.{ap, sym, ◌∙◌, arith, subst}
use Rattle.std.specs.List.{enumerate_from}
use Rattle.std.proofs.lemmas.Bool.{lt-leb}
use Rattle.module_limits.specs.Depths.{deepest, depths_of, greatest, with_depth}
use Rattle.module_limits.proofs.Levels.{deeper, greatest_append, items_of_pairs}

pub begins : {X : Type 0} (parts : X → List ℕ) (xs : List X) (items : List ℕ) (pairs : List (ℕ × X)) →
    items ≡ [] → pairs ≡ enumerate_from 0 xs
    → fold (with_depth parts) items (map (λ p. p.1) pairs) ≡ depths_of parts xs
begins parts xs items pairs none all =
    (λ i. fold (with_depth parts) (none i) (map (λ p. p.1) (all i))) ∙ ap (λ ys. fold (with_depth parts) [] ys)
    (items_of_pairs 0 xs)

pub begins_within : (items : List ℕ) (levels : ℕ) → items ≡ [] → greatest items ≤ levels
begins_within items levels none =
    let P : List ℕ → Type 0 = λ ds. greatest ds ≤ levels in subst P (sym none) (omega arith)

pub goes_on : {X : Type 0} (parts : X → List ℕ) (items new : List ℕ) (deep h : ℕ) (x : X)
    (pairs left : List (ℕ × X)) (all : List ℕ) → new ≡ items ++ (deep + 1) ∷ [] →
    deep ≡ deepest items (parts x) → pairs ≡ (h, x) ∷ left
    → fold (with_depth parts) items (map (λ p. p.1) pairs) ≡ all →
    fold (with_depth parts) new (map (λ p. p.1) left) ≡ all
goes_on parts items new deep h x pairs left all is own steps before =
    let one : deep + 1 ≡ suc (deepest items (parts x)) = omega (arith, own) in
    ap (λ ds. fold (with_depth parts) ds (map (λ p. p.1) left)) (is ∙ ap (λ d. items ++ d ∷ []) one)
    ∙ ap (λ ps. fold (with_depth parts) items (map (λ p. p.1) ps)) (sym steps)
    ∙ before

pub goes_on_within : (items new : List ℕ) (deep levels : ℕ) → new ≡ items ++ (deep + 1) ∷ [] → deep < levels →
    greatest items ≤ levels → greatest new ≤ levels
goes_on_within items new deep levels is below before =
    let P : List ℕ → Type 0 = λ ds. greatest ds ≤ levels in
    subst P (sym is) (omega (arith, greatest_append items ((deep + 1) ∷ []), below, before))

pub stops : {X : Type 0} (parts : X → List ℕ) (items : List ℕ) (deep levels h : ℕ) (x : X)
    (pairs left : List (ℕ × X)) (all : List ℕ) → deep ≡ deepest items (parts x) → pairs ≡ (h, x) ∷ left
    → fold (with_depth parts) items (map (λ p. p.1) pairs) ≡ all → levels ≤ deep → false ≡ nat_le (greatest all) levels
stops parts items deep levels h x pairs left all own steps before more =
    let longer = items ++ suc (deepest items (parts x)) ∷ [] in
    let whole : fold (with_depth parts) longer (map (λ p. p.1) left) ≡ all =
    ap (λ ps. fold (with_depth parts) items (map (λ p. p.1) ps)) (sym steps) ∙ before in
    sym (lt-leb (greatest all) levels
    (omega (
      arith,
      own,
      more,
      ap greatest whole,
      deeper parts longer (map (λ p. p.1) left),
      greatest_append items (suc (deepest items (parts x)) ∷ []),
    )))
