-- Members whose offsets are to be kept can be left where they are, or one of the faults stands.
--
-- Throughout, k is a member, next the one after it, more are those that are left, and ks all of a
-- struct.
use Rattle.std.proofs.Common.{◌≡◌, ◌+◌, ℕ, true, false, List, [], ◌∷◌, Option, Some, None, refl}
use Rattle.std.specs.Prelude.{◌&&◌, ◌==◌, nat_le, nat_lt, not}
use Rattle.std.specs.List.{list_all, list_any}
use Rattle.std.specs.Option.{is_some, option_map_or}
use Rattle.std.proofs.lemmas.Bool.{and_from, and_parts, false≢true, le-leb, ltb-false, not-false, or_parts}
use Rattle.wgsl_layout.specs.Members.{are_apart, are_kept, begins_inside, has_own_sizes, is_aligned}
use Rattle.wgsl_layout.specs.Members.{is_concerned, is_off_alignment, overlaps, stands_after}
use Rattle.wgsl_layout.specs.Members.{starts_late}
use Rattle.wgsl_layout.specs.declared.layouts.Placed.{Placed}

-- a member that doesn't begin before the end of the one before it begins no earlier than there
pub sized_after : (k next : Placed) → is_some k.layout.size ≡ true → begins_inside k next ≡ false →
    option_map_or (λ s. nat_le (k.offset + s) next.offset) k.layout.size false ≡ true
sized_after k next sized inside = by k.layout.size sized inside
  where
    by : (o : Option ℕ) → is_some o ≡ true →
        option_map_or (λ s. nat_lt next.offset (k.offset + s)) o false ≡ false →
        option_map_or (λ s. nat_le (k.offset + s) next.offset) o false ≡ true
    by None there out = absurd (false≢true there)
    by (Some s) there out = le-leb (k.offset + s) next.offset (ltb-false next.offset (k.offset + s) out)

-- where no fault stands from a member on, those can be left where they are
left_kept : (k : Placed) (more : List Placed) → list_all (λ k. not (k.offset == 0)) more ≡ true →
    has_own_sizes (k ∷ more) ≡ true → list_any (λ k. not (is_aligned k)) more ≡ false →
    overlaps (k ∷ more) ≡ false → are_kept (Some k) more ≡ true
left_kept k [] apart sized aligned out = refl
left_kept k (next ∷ more) apart sized aligned out =
    let a = and_parts (not (next.offset == 0)) _ apart in
    let s = and_parts (is_some k.layout.size) _ sized in
    let l = or_parts (not (is_aligned next)) _ aligned in
    let o = or_parts (begins_inside k next) _ out in
    and_from (is_aligned next) (stands_after (Some k) next && are_kept (Some next) more)
    (not-false (is_aligned next) l.0)
    (and_from (stands_after (Some k) next) (are_kept (Some next) more)
    (and_from (not (next.offset == 0)) _ a.0 (sized_after k next s.0 o.0))
    (left_kept next more a.1 s.1 l.1 o.1))

-- where no fault stands, all can be left where they are
pub all_kept : (ks : List Placed) → is_concerned ks ≡ true → is_off_alignment ks ≡ false →
    overlaps ks ≡ false → are_kept None ks ≡ true
all_kept [] concerned off out = refl
all_kept (k ∷ more) concerned off out =
    let c = and_parts (are_apart (k ∷ more)) _ concerned in
    let f = or_parts (starts_late (k ∷ more)) _ off in
    let l = or_parts (not (is_aligned k)) _ f.1 in
    and_from (is_aligned k) (stands_after None k && are_kept (Some k) more)
    (not-false (is_aligned k) l.0)
    (and_from (stands_after None k) (are_kept (Some k) more)
    (not-false (k.offset == 0) f.0)
    (left_kept k more c.0 c.1 l.1 out))
