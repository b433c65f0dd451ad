-- Which member of a struct is the first that can't stay where it is.
--
-- Throughout, before is the member in front of those that are looked at, if there is one, k is a
-- member, more are those after it, it is a fault, and found the one that was found so far.
use Rattle.std.proofs.Common.{◌≡◌, ◌<◌, ◌∙◌, ℕ, zero, suc, Bool, true, false, List, [], ◌∷◌}
use Rattle.std.proofs.Common.{Option, Some, None, ap, arith, inl, inr, refl, slice_get, subst}
use Rattle.std.specs.Prelude.{◌⊎◌, if◌then◌else◌}
use Rattle.std.specs.Option.{option_or}
use Rattle.wgsl_layout.specs.Faults.{first_fault, goes_on, own_fault}
use Rattle.wgsl_layout.specs.declared.layouts.Placed.{Placed}
use Rattle.wgsl_layout.specs.declared.members.Misplaced.{Misplaced}
use Rattle.naga_tables.specs.Declarations.{FindsMisplaced, placed_before}

-- the member in front of this index
abbrev prior : (before : Option Placed) → List Placed → (index : ℕ) → Option Placed
prior before ks zero = before
prior before ks (suc i) = slice_get ks i

prior_next : (before : Option Placed) (k : Placed) (more : List Placed) (i : ℕ) →
    prior before (k ∷ more) (suc i) ≡ prior (Some k) more i
prior_next before k more zero = refl
prior_next before k more (suc i) = refl

prior_is : (ks : List Placed) (i : ℕ) → prior None ks i ≡ placed_before ks i
prior_is ks zero = refl
prior_is ks (suc i) = refl

-- the first fault of these members stands at this index
record FirstFrom (before : Option Placed) (ks : List Placed) (it : Misplaced) : Type 0 where
  index : ℕ
  member : Placed
  at : slice_get ks index ≡ Some member
  has : own_fault (prior before ks index) member ≡ Some it
  earlier : (j : ℕ) (x : Placed) → j < index → slice_get ks j ≡ Some x →
      own_fault (prior before ks j) x ≡ None

module _ (before : Option Placed) (k : Placed) (more : List Placed) (it : Misplaced) where
  here : own_fault before k ≡ Some it → FirstFrom before (k ∷ more) it
  here is = record {
    index = 0;
    member = k;
    at = refl;
    has = is;
    earlier = λ j x lt at. absurd (omega (arith, lt));
  }

  later : own_fault before k ≡ None → FirstFrom (Some k) more it → FirstFrom before (k ∷ more) it
  later none f = record {
    index = suc f.index;
    member = f.member;
    at = f.at;
    has = ap (λ b. own_fault b f.member) (prior_next before k more f.index) ∙ f.has;
    earlier = by;
  }
    where
      by : (j : ℕ) (x : Placed) → j < suc f.index → slice_get (k ∷ more) j ≡ Some x →
          own_fault (prior before (k ∷ more) j) x ≡ None
      by zero x lt at =
          let same : k ≡ x = cc in
          subst (λ k. own_fault before k ≡ None) same none
      by (suc j) x lt at =
          ap (λ b. own_fault b x) (prior_next before k more j) ∙ f.earlier j x (omega (arith, lt)) at

-- what is found was found before, or else it is the first: by those after a member
by_next : (before : Option Placed) (found : Option Misplaced) (k : Placed) (more : List Placed) (it : Misplaced)
    (x : Bool) →
    (first_fault (Some k) (option_or found (own_fault before k)) more ≡ Some it →
    (option_or found (own_fault before k) ≡ Some it)
    ⊎ ((option_or found (own_fault before k) ≡ None) × FirstFrom (Some k) more it)) →
    (if x then first_fault (Some k) (option_or found (own_fault before k)) more else None) ≡ Some it →
    (found ≡ Some it) ⊎ ((found ≡ None) × FirstFrom before (k ∷ more) it)
by_next before found k more it false each is = absurd cc
by_next before found k more it true each is = at found (own_fault before k) refl (each is)
  where
    at : (found own : Option Misplaced) → own_fault before k ≡ own →
        (option_or found own ≡ Some it) ⊎ ((option_or found own ≡ None) × FirstFrom (Some k) more it) →
        (found ≡ Some it) ⊎ ((found ≡ None) × FirstFrom before (k ∷ more) it)
    at (Some f) own is (inl same) = inl same
    at (Some f) own is (inr (none, first)) = absurd cc
    at None own is (inl same) = inr (refl, here before k more it (is ∙ same))
    at None own is (inr (none, first)) = inr (refl, later before k more it (is ∙ none) first)

found_first : (before : Option Placed) (found : Option Misplaced) (ks : List Placed) (it : Misplaced) →
    first_fault before found ks ≡ Some it → (found ≡ Some it) ⊎ ((found ≡ None) × FirstFrom before ks it)
found_first None found [] it is = absurd cc
found_first (Some b) found [] it is = inl is
found_first None found (k ∷ more) it is =
    by_next None found k more it true (λ is. found_first (Some k) (option_or found (own_fault None k)) more it is) is
found_first (Some b) found (k ∷ more) it is =
    by_next (Some b) found k more it (goes_on (Some b) k)
    (λ is. found_first (Some k) (option_or found (own_fault (Some b) k)) more it is) is

pub first_misplaced : (ks : List Placed) (it : Misplaced) → first_fault None None ks ≡ Some it →
    FindsMisplaced ks (Some it)
first_misplaced ks it is = by None refl (found_first None None ks it is)
  where
    by : (found : Option Misplaced) → found ≡ None → (found ≡ Some it) ⊎ ((found ≡ None) × FirstFrom None ks it) →
        FindsMisplaced ks (Some it)
    by found none (inl same) = absurd cc
    by found none (inr (same, f)) = (
      f.index,
      f.member,
      f.at,
      (λ j x lt at. subst (λ b. own_fault b x ≡ None) (prior_is ks j) (f.earlier j x lt at)),
      subst (λ b. own_fault b f.member ≡ Some it) (prior_is ks f.index) f.has,
    )
