-- No struct has more members than there are keys for them.
-- Serves `struct_rows`.
--
-- Throughout, m is a module whose structs are not too long, its are the types that are left with their
-- handles, and h is the handle of a type t.
use Rattle.std.proofs.Common.{◌≡◌, ◌+◌, ◌≤◌, ◌^◌, ℕ, suc, List, [], ◌∷◌, Some}
use Rattle.std.proofs.Common.{length, refl, slice_get, subst, sym}
use Rattle.std.specs.Prelude.{⊤, Bool, true, false, nat_lt}
use Rattle.std.specs.List.{enumerate_from}
use Rattle.std.proofs.lemmas.Bool.{ltb-false, ltb-true}
use Rattle.naga_ir.specs.declared.module.Module.{Module}
use Rattle.naga_ir.specs.declared.types.Type_.{Type_}
use Rattle.naga_naming.specs.Refusal.{HasLongStruct}
use Rattle.naga_naming.specs.Reset.{members_of}

abbrev HasFew : ℕ × Type_ → Type 0
HasFew p = length (members_of p.1.inner) ≤ 2 ^ 32

abbrev EachHasFew : List (ℕ × Type_) → Type 0
EachHasFew [] = ⊤
EachHasFew (p ∷ ps) = HasFew p × EachHasFew ps

pub record HaveFew (its : List (ℕ × Type_)) : Type 0 where
  pub each : EachHasFew its

module _ (m : Module) (few : HasLongStruct m → ⊥) where
  one_has_few : (h : ℕ) (t : Type_) → slice_get m.types h ≡ Some t →
      length (members_of t.inner) ≤ 2 ^ 32
  one_has_few h t at = by (nat_lt (2 ^ 32) (length (members_of t.inner))) refl
    where
      by : (b : Bool) → nat_lt (2 ^ 32) (length (members_of t.inner)) ≡ b →
          length (members_of t.inner) ≤ 2 ^ 32
      by true is =
          absurd (few (record {
            index = h;
            ty = t;
            there = at;
            long = ltb-true (2 ^ 32) (length (members_of t.inner)) is;
          }))
      by false is = ltb-false (2 ^ 32) (length (members_of t.inner)) is

  from : (n : ℕ) (ts : List Type_) →
      ((i : ℕ) (t : Type_) → slice_get ts i ≡ Some t → length (members_of t.inner) ≤ 2 ^ 32) →
      EachHasFew (enumerate_from n ts)
  from n [] each = tt
  from n (t ∷ ts) each = (each 0 t refl, from (n + 1) ts (λ i u at. each (suc i) u at))

  pub all_have_few : HaveFew (enumerate_from 0 m.types)
  all_have_few = record { each = from 0 m.types one_has_few }

pub few_as : (its ps : List (ℕ × Type_)) → its ≡ ps → HaveFew ps → HaveFew its
few_as its ps is few = subst HaveFew (sym is) few

pub few_here : (its left : List (ℕ × Type_)) (p : ℕ × Type_) → its ≡ p ∷ left → HaveFew its →
    length (members_of p.1.inner) ≤ 2 ^ 32
few_here its left p steps few = (subst EachHasFew steps few.each).0

pub few_left : (its left : List (ℕ × Type_)) (p : ℕ × Type_) → its ≡ p ∷ left → HaveFew its →
    HaveFew left
few_left its left p steps few = record { each = (subst EachHasFew steps few.each).1 }
