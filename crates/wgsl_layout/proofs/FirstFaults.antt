-- What the first fault tells: it stands, and the struct is concerned; where there is none, all
-- members can be left where they are.
--
-- Throughout, k is a member, b the one before it, more are those that are left, it is a fault, and
-- found the one that was found so far.
use Rattle.std.proofs.Common.{◌≡◌, Bool, true, false, List, [], ◌∷◌}
use Rattle.std.proofs.Common.{Option, Some, None, ap, arith, inl, inr, refl, sym, ◌∙◌}
use Rattle.std.specs.Prelude.{◌==◌, ◌⊎◌, IsTrue, if◌then◌else◌, not}
use Rattle.std.specs.List.{list_all, list_any}
use Rattle.std.specs.Option.{is_some, option_or}
use Rattle.std.proofs.lemmas.Bool.{and_from, and_parts, or_left, or_right}
use Rattle.wgsl_layout.specs.Faults.{StandsAmong, first_fault, goes_on, own_fault}
use Rattle.wgsl_layout.specs.Members.{are_apart, are_kept, begins_inside, has_own_sizes, is_aligned}
use Rattle.wgsl_layout.specs.Members.{is_concerned, overlaps, stands_after}
use Rattle.wgsl_layout.specs.declared.layouts.Placed.{Placed}
use Rattle.wgsl_layout.specs.declared.members.Misplaced.{Misplaced}
use Rattle.wgsl_layout.specs.declared.members.Misplaced.TheVariants.{OffAlignment, Overlapping}
use Rattle.wgsl_layout.proofs.Faults.{sized_after}

-- a fault of the members from k on, after b
abbrev pub StandsFrom : Misplaced → (b : Placed) → List Placed → Type 0
StandsFrom OffAlignment b ks = IsTrue (list_any (λ k. not (is_aligned k)) ks)
StandsFrom Overlapping b ks = IsTrue (overlaps (b ∷ ks))

-- a member's own fault stands
own_stands : (b k : Placed) (more : List Placed) (it : Misplaced) → own_fault (Some b) k ≡ Some it →
    StandsFrom it b (k ∷ more)
own_stands b k more it is = by (is_aligned k) refl (begins_inside b k) refl it is
  where
    by : (x : Bool) → is_aligned k ≡ x → (y : Bool) → begins_inside b k ≡ y → (it : Misplaced) →
        (if x then (if y then Some Overlapping else None) else Some OffAlignment) ≡ Some it →
        StandsFrom it b (k ∷ more)
    by false a y i OffAlignment is = or_left (not (is_aligned k)) _ (ap not a)
    by false a y i Overlapping is = absurd (grind (arith, is))
    by true a true i Overlapping is = or_left (begins_inside b k) _ i
    by true a true i OffAlignment is = absurd (grind (arith, is))
    by true a false i it is = absurd (grind (arith, is))

-- and so does a fault of those after it
later_stands : (b k : Placed) (more : List Placed) (it : Misplaced) → StandsFrom it k more →
    StandsFrom it b (k ∷ more)
later_stands b k more OffAlignment stands = or_right (not (is_aligned k)) _ stands
later_stands b k more Overlapping stands = or_right (begins_inside b k) _ stands

-- what is found was found before, or stands
found_stands : (b : Placed) (found : Option Misplaced) (ks : List Placed) (it : Misplaced) →
    first_fault (Some b) found ks ≡ Some it → (found ≡ Some it) ⊎ StandsFrom it b ks
found_stands b found [] it is = inl is
found_stands b found (k ∷ more) it is =
    by (goes_on (Some b) k) (λ is. found_stands k (option_or found (own_fault (Some b) k)) more it is) is
  where
    by : (x : Bool) →
        (first_fault (Some k) (option_or found (own_fault (Some b) k)) more ≡ Some it →
        (option_or found (own_fault (Some b) k) ≡ Some it) ⊎ StandsFrom it k more) →
        (if x then first_fault (Some k) (option_or found (own_fault (Some b) k)) more else None) ≡ Some it →
        (found ≡ Some it) ⊎ StandsFrom it b (k ∷ more)
    by false each is = absurd (grind (arith, is))
    by true each is = at found (own_fault (Some b) k) refl (each is)
      where
        at : (found own : Option Misplaced) → own_fault (Some b) k ≡ own →
            (option_or found own ≡ Some it) ⊎ StandsFrom it k more →
            (found ≡ Some it) ⊎ StandsFrom it b (k ∷ more)
        at found own is (inr stands) = inr (later_stands b k more it stands)
        at (Some f) own is (inl same) = inl same
        at None own is (inl same) = inr (own_stands b k more it (is ∙ same))

-- where one is found, the struct is to keep its offsets
found_concerns : (b : Placed) (found : Option Misplaced) (ks : List Placed) (it : Misplaced) →
    first_fault (Some b) found ks ≡ Some it →
    (list_all (λ k. not (k.offset == 0)) ks ≡ true) × (has_own_sizes (b ∷ ks) ≡ true)
found_concerns b found [] it is = (refl, refl)
found_concerns b found (k ∷ more) it is =
    by (goes_on (Some b) k) refl (λ is. found_concerns k (option_or found (own_fault (Some b) k)) more it is) is
  where
    by : (x : Bool) → goes_on (Some b) k ≡ x →
        (first_fault (Some k) (option_or found (own_fault (Some b) k)) more ≡ Some it →
        (list_all (λ k. not (k.offset == 0)) more ≡ true) × (has_own_sizes (k ∷ more) ≡ true)) →
        (if x then first_fault (Some k) (option_or found (own_fault (Some b) k)) more else None) ≡ Some it →
        (list_all (λ k. not (k.offset == 0)) (k ∷ more) ≡ true) × (has_own_sizes (b ∷ k ∷ more) ≡ true)
    by false goes each is = absurd (grind (arith, is))
    by true goes each is =
        let here = and_parts (not (k.offset == 0)) _ goes in
        let left = each is in
        (and_from (not (k.offset == 0)) _ here.0 left.0, and_from (is_some b.layout.size) _ here.1 left.1)

-- the first fault stands, in a struct that is concerned
pub fault_stands : (ks : List Placed) (it : Misplaced) → first_fault None None ks ≡ Some it →
    (is_concerned ks ≡ true) × StandsAmong it ks
fault_stands [] it is = absurd (grind (arith, is))
fault_stands (k ∷ more) it is = (
  and_from (are_apart (k ∷ more)) _ concerns.0 concerns.1,
  by (own_fault None k) refl (found_stands k (own_fault None k) more it is),
)
  where
    concerns : (list_all (λ k. not (k.offset == 0)) more ≡ true) × (has_own_sizes (k ∷ more) ≡ true)
    concerns = found_concerns k (own_fault None k) more it is

    first : (x y : Bool) → is_aligned k ≡ x → (k.offset == 0) ≡ y → (it : Misplaced) →
        (if x then (if y then None else Some OffAlignment) else Some OffAlignment) ≡ Some it → StandsAmong it (k ∷ more)
    first true true a z it is = absurd (grind (arith, is))
    first true false a z OffAlignment is = or_left (not (k.offset == 0)) _ (ap not z)
    first true false a z Overlapping is = absurd (grind (arith, is))
    first false y a z OffAlignment is = or_right (not (k.offset == 0)) _ (or_left (not (is_aligned k)) _ (ap not a))
    first false y a z Overlapping is = absurd (grind (arith, is))

    later : (it : Misplaced) → StandsFrom it k more → StandsAmong it (k ∷ more)
    later OffAlignment stands = or_right (not (k.offset == 0)) _ (or_right (not (is_aligned k)) _ stands)
    later Overlapping stands = stands

    by : (o : Option Misplaced) → own_fault None k ≡ o → (o ≡ Some it) ⊎ StandsFrom it k more →
        StandsAmong it (k ∷ more)
    by o is (inl same) = first (is_aligned k) (k.offset == 0) refl refl it (is ∙ same)
    by o is (inr stands) = later it stands

-- where none is found from a member on, those can be left where they are
none_left : (b : Placed) (found : Option Misplaced) (ks : List Placed) →
    list_all (λ k. not (k.offset == 0)) ks ≡ true → has_own_sizes (b ∷ ks) ≡ true →
    first_fault (Some b) found ks ≡ None → (found ≡ None) × (are_kept (Some b) ks ≡ true)
none_left b found [] apart sized none = (none, refl)
none_left b found (k ∷ more) apart sized none =
    let a = and_parts (not (k.offset == 0)) _ apart in
    let s = and_parts (is_some b.layout.size) _ sized in
    let left = none_left k (option_or found (own_fault (Some b) k)) more a.1 s.1
    (sym (ap (λ x. if x then first_fault (Some k) (option_or found (own_fault (Some b) k)) more else None)
    (and_from (not (k.offset == 0)) _ a.0 s.0)) ∙ none) in
    by found (own_fault (Some b) k) refl a.0 s.0 left.1 left.0
  where
    aligned : (x y : Bool) → is_aligned k ≡ x → begins_inside b k ≡ y → not (k.offset == 0) ≡ true →
        is_some b.layout.size ≡ true → are_kept (Some k) more ≡ true →
        (if x then (if y then Some Overlapping else None) else Some OffAlignment) ≡ None →
        are_kept (Some b) (k ∷ more) ≡ true
    aligned false y i n apart sized kept is = absurd (grind (arith, is))
    aligned true true i n apart sized kept is = absurd (grind (arith, is))
    aligned true false i n apart sized kept is =
        and_from (is_aligned k) _ i
        (and_from (stands_after (Some b) k) _ (and_from (not (k.offset == 0)) _ apart (sized_after b k sized n)) kept)

    by : (found own : Option Misplaced) → own_fault (Some b) k ≡ own → not (k.offset == 0) ≡ true →
        is_some b.layout.size ≡ true → are_kept (Some k) more ≡ true → option_or found own ≡ None →
        (found ≡ None) × (are_kept (Some b) (k ∷ more) ≡ true)
    by (Some f) own is apart sized kept none = absurd (grind (arith, none))
    by None own is apart sized kept none =
        (refl, aligned (is_aligned k) (begins_inside b k) refl refl apart sized kept (is ∙ none))

-- where none is found in a struct that is concerned, all can be left where they are
pub none_kept : (ks : List Placed) → is_concerned ks ≡ true → first_fault None None ks ≡ None →
    are_kept None ks ≡ true
none_kept [] concerned none = refl
none_kept (k ∷ more) concerned none = first (is_aligned k) (k.offset == 0) refl refl left.0
  where
    c : (are_apart (k ∷ more) ≡ true) × (has_own_sizes (k ∷ more) ≡ true)
    c = and_parts (are_apart (k ∷ more)) _ concerned

    left : (own_fault None k ≡ None) × (are_kept (Some k) more ≡ true)
    left = none_left k (own_fault None k) more c.0 c.1 none

    first : (x y : Bool) → is_aligned k ≡ x → (k.offset == 0) ≡ y →
        (if x then (if y then None else Some OffAlignment) else Some OffAlignment) ≡ None →
        are_kept None (k ∷ more) ≡ true
    first true true a z is = and_from (is_aligned k) _ a (and_from (stands_after None k) _ z left.1)
    first true false a z is = absurd (grind (arith, is))
    first false y a z is = absurd (grind (arith, is))
