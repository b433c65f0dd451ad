-- Members that can be left where a module has them are left there by WGSL's rules, with the sizes
-- that are written.
--
-- Throughout, a is an alignment, s a size, k a member, next the one after it, p where that begins,
-- more are those that are left, end is the first byte after those before, whole the alignment of a
-- struct and span how many bytes the module gives to it.
use Rattle.std.proofs.Common.{◌≡◌, ◌≤◌, ◌+◌, ◌%◌, ℕ, true, false, List, [], ◌∷◌, map}
use Rattle.std.proofs.Common.{Option, Some, None, ap, arith, refl, sym, ◌∙◌, max}
use Rattle.std.specs.Prelude.{◌&&◌, ◌==◌, ⊤, nat_le, not, unwrap_or, if◌then◌else◌}
use Rattle.std.specs.Int.{next_multiple_of}
use Rattle.std.specs.Option.{is_some, option_map, option_map_or, option_or}
use Rattle.std.proofs.lemmas.Bool.{and_parts, eqb-true, false≢true, leb-true}
use Rattle.wgsl_layout.specs.Capped.{IsAlignment, Two, Four, Eight, Sixteen, ThirtyTwo}
use Rattle.wgsl_layout.specs.Members.{are_kept, end_of_last, ended, gap_size, greatest_placed}
use Rattle.wgsl_layout.specs.Members.{has_room, is_aligned, last_of, sized, sized_members}
use Rattle.wgsl_layout.specs.Members.{stands_after, written_members}
use Rattle.wgsl_layout.specs.Rules.{Member, begins, closed, end_after, end_of, greatest_alignment}
use Rattle.wgsl_layout.specs.Rules.{greatest_from, has_sizes, offsets_from, offsets_of}
use Rattle.wgsl_layout.specs.Rules.{struct_layout, taken}
use Rattle.wgsl_layout.specs.declared.layouts.Placed.{Placed}
use Rattle.wgsl_layout.proofs.Rounding.{begins_at, first_greatest, greater, rounds_to}

-- each has one of the alignments that there are
abbrev pub AllAligned : List Placed → Type 0
AllAligned [] = ⊤
AllAligned (k ∷ more) = IsAlignment k.layout.alignment × AllAligned more

-- what is taken of a member that has a size
taken_is : (k : Placed) (s p a : ℕ) → k.layout.size ≡ Some s →
    taken (sized k p a) ≡ Some (unwrap_or (gap_size k.offset (Some s) p a) s)
taken_is k s p a has =
    ap (λ own. option_or (gap_size k.offset own p a) own) has ∙ by (gap_size k.offset (Some s) p a)
  where
    by : (given : Option ℕ) → option_or given (Some s) ≡ Some (unwrap_or given s)
    by None = refl
    by (Some n) = refl

-- what is known of a member and the one after it, where both can be left where they are
pub record Follows (k next : Placed) : Type 0 where
  pub size : ℕ
  pub has : k.layout.size ≡ Some size
  pub within : k.offset + size ≤ next.offset
  pub multiple : next.offset % next.layout.alignment ≡ 0

after : (k next : Placed) → stands_after (Some k) next ≡ true → is_aligned next ≡ true →
    Follows k next
after k next stands aligned = by k.layout.size refl
  where
    parts : (not (next.offset == 0) ≡ true)
        × (option_map_or (λ s. nat_le (k.offset + s) next.offset) k.layout.size false ≡ true)
    parts = and_parts (not (next.offset == 0)) _ stands

    by : (o : Option ℕ) → k.layout.size ≡ o → Follows k next
    by None is = absurd
        (false≢true (sym (ap (λ o. option_map_or (λ s. nat_le (k.offset + s) next.offset) o false) is) ∙ parts.1))
    by (Some s) is = record {
      size = s;
      has = is;
      within = leb-true (k.offset + s) next.offset
          (sym (ap (λ o. option_map_or (λ s. nat_le (k.offset + s) next.offset) o false) is) ∙ parts.1);
      multiple = eqb-true (next.offset % next.layout.alignment) 0 aligned;
    }

-- the end of a member, if it begins where the module has it
end_is : (end : ℕ) (k : Placed) (s p a : ℕ) → k.layout.size ≡ Some s →
    next_multiple_of end k.layout.alignment ≡ k.offset →
    end_after (Some end) (sized k p a) ≡ Some (k.offset + unwrap_or (gap_size k.offset (Some s) p a) s)
end_is end k s p a has at =
    ap (option_map (λ n. begins end (sized k p a) + n)) (taken_is k s p a has)
    ∙ ap (λ b. Some (b + unwrap_or (gap_size k.offset (Some s) p a) s)) at

-- so the next one begins where the module has it
next_begins : (k next : Placed) (is : Follows k next) → IsAlignment next.layout.alignment →
    next_multiple_of (k.offset + unwrap_or (gap_size k.offset (Some is.size) next.offset next.layout.alignment)
    is.size) next.layout.alignment ≡ next.offset
next_begins k next is aligned =
    begins_at next.layout.alignment k.offset is.size next.offset aligned is.within is.multiple

-- what is known of the members from the second on
step : (k next : Placed) (more : List Placed) → are_kept (Some k) (next ∷ more) ≡ true →
    Follows k next × (are_kept (Some next) more ≡ true)
step k next more kept =
    let one = and_parts (is_aligned next) _ kept in
    let two = and_parts (stands_after (Some k) next) _ one.1 in
    (after k next two.0 one.0, two.1)

-- the offsets of the members that are left, if the first of them begins where the module has it
pub offsets_left : (whole span end : ℕ) (k : Placed) (more : List Placed) → AllAligned (k ∷ more) →
    are_kept (Some k) more ≡ true → next_multiple_of end k.layout.alignment ≡ k.offset →
    offsets_from (Some end) (sized_members whole span (k ∷ more)) ≡ map (λ k. k.offset) (k ∷ more)
offsets_left whole span end k [] aligned kept at = ap (λ o. o ∷ []) at
offsets_left whole span end k (next ∷ more) aligned kept at =
    let here = step k next more kept in
    let is = here.0 in
    let left = sized_members whole span (next ∷ more) in
    ap (λ e. next_multiple_of end k.layout.alignment ∷ offsets_from e left)
    (end_is end k is.size next.offset next.layout.alignment is.has at)
    ∙ (ap (λ o. o ∷ offsets_from
    (Some (k.offset + unwrap_or (gap_size k.offset (Some is.size) next.offset next.layout.alignment)
    is.size)) left) at
    ∙ ap (λ os. k.offset ∷ os)
    (offsets_left whole span (k.offset
    + unwrap_or (gap_size k.offset (Some is.size) next.offset next.layout.alignment) is.size)
    next more aligned.1 here.1 (next_begins k next is aligned.1.0)))

-- the end of the last of them, which is given a size where the struct has room after it
pub end_left : (whole span end : ℕ) (k : Placed) (more : List Placed) → AllAligned (k ∷ more) →
    are_kept (Some k) more ≡ true → next_multiple_of end k.layout.alignment ≡ k.offset →
    let last = last_of k more in
    end_of (Some end) (sized_members whole span (k ∷ more)) ≡
    end_of_last span whole last
end_left whole span end k [] aligned kept at = by k.layout.size refl
  where
    by : (o : Option ℕ) → k.layout.size ≡ o →
        end_after (Some end) (sized k span whole) ≡
        option_map (λ s. k.offset + unwrap_or (gap_size k.offset (Some s) span whole) s) k.layout.size
    by None is =
        ap (λ own. option_map (λ n. begins end (sized k span whole) + n)
        (option_or (gap_size k.offset own span whole) own)) is
        ∙ sym (ap (option_map (λ s. k.offset + unwrap_or (gap_size k.offset (Some s) span whole) s)) is)
    by (Some s) is =
        end_is end k s span whole is at
        ∙ sym (ap (option_map (λ s. k.offset + unwrap_or (gap_size k.offset (Some s) span whole) s)) is)
end_left whole span end k (next ∷ more) aligned kept at =
    let here = step k next more kept in
    let is = here.0 in
    let left = sized_members whole span (next ∷ more) in
    ap (λ e. end_of e left) (end_is end k is.size next.offset next.layout.alignment is.has at)
    ∙ end_left whole span (k.offset
    + unwrap_or (gap_size k.offset (Some is.size) next.offset next.layout.alignment) is.size)
    next more aligned.1 here.1 (next_begins k next is aligned.1.0)

-- each of them but the last has a size
sizes_left : (whole span : ℕ) (k : Placed) (more : List Placed) → are_kept (Some k) more ≡ true →
    has_sizes (sized_members whole span (k ∷ more)) ≡ true
sizes_left whole span k [] kept = refl
sizes_left whole span k (next ∷ []) kept =
    let is = (step k next [] kept).0 in
    ap (λ o. is_some o && true) (taken_is k is.size next.offset next.layout.alignment is.has)
sizes_left whole span k (next ∷ third ∷ more) kept =
    let here = step k next (third ∷ more) kept in
    let is = here.0 in
    ap (λ o. is_some o && has_sizes (sized_members whole span (next ∷ third ∷ more)))
    (taken_is k is.size next.offset next.layout.alignment is.has)
    ∙ sizes_left whole span next (third ∷ more) here.1

-- sizes change no alignment
pub same_greatest : (whole span a : ℕ) (ks : List Placed) →
    greatest_from a (sized_members whole span ks) ≡ greatest_placed a ks
same_greatest whole span a [] = refl
same_greatest whole span a (k ∷ []) = refl
same_greatest whole span a (k ∷ next ∷ more) = same_greatest whole span (max a k.layout.alignment) (next ∷ more)

-- the greatest of alignments is one
pub greatest_is : (a : ℕ) (ks : List Placed) → IsAlignment a → AllAligned ks → IsAlignment (greatest_placed a ks)
greatest_is a [] is all = is
greatest_is a (k ∷ more) is all = greatest_is (max a k.layout.alignment) more
    (greater a k.layout.alignment is all.0) all.1

-- ---- structs
-- the first is at 0, and so begins where the module has it
first_kept : (k : Placed) (more : List Placed) → are_kept None (k ∷ more) ≡ true →
    (k.offset ≡ 0) × (are_kept (Some k) more ≡ true)
first_kept k more kept =
    let one = and_parts (is_aligned k) _ kept in
    let two = and_parts (stands_after None k) _ one.1 in
    (eqb-true k.offset 0 two.0, two.1)

first_begins : (k : Placed) → IsAlignment k.layout.alignment → k.offset ≡ 0 →
    next_multiple_of 0 k.layout.alignment ≡ k.offset
first_begins k is zero_ = rounds_to k.layout.alignment is 0 k.offset (sym zero_) (multiple k.layout.alignment is ∙ refl)
  where
    multiple : (a : ℕ) → IsAlignment a → k.offset % a ≡ 0
    multiple a Two = omega (arith, zero_)
    multiple a Four = omega (arith, zero_)
    multiple a Eight = omega (arith, zero_)
    multiple a Sixteen = omega (arith, zero_)
    multiple a ThirtyTwo = omega (arith, zero_)

-- the layout of a struct, of which each member but the last has a size
struct_of : (ms : List Member) (m : Member) (more : List Member) → ms ≡ m ∷ more →
    has_sizes ms ≡ true →
    struct_layout ms ≡ Some (closed (greatest_alignment ms) (end_of (Some 0) ms))
struct_of ms m more is sizes =
    ap struct_layout is
    ∙ (ap (λ b. if b then Some (closed (greatest_alignment (m ∷ more)) (end_of (Some 0) (m ∷ more))) else None)
    (sym (ap has_sizes is) ∙ sizes)
    ∙ sym (ap (λ ms. Some (closed (greatest_alignment ms) (end_of (Some 0) ms))) is))

-- of members there are as many with sizes
some_sized : (whole span : ℕ) (k : Placed) (more : List Placed) →
    (m : Member) × (rest : List Member) × (sized_members whole span (k ∷ more) ≡ m ∷ rest)
some_sized whole span k [] = (sized k span whole, [], refl)
some_sized whole span k (next ∷ more) =
    (sized k next.offset next.layout.alignment, sized_members whole span (next ∷ more), refl)

module _ (span : ℕ) (k : Placed) (more : List Placed) (aligned : AllAligned (k ∷ more))
    (kept : are_kept None (k ∷ more) ≡ true) where
  abbrev whole : ℕ
  whole = greatest_placed 0 (k ∷ more)

  whole_is : IsAlignment whole
  whole_is = greatest_is (max 0 k.layout.alignment) more (first_greatest k.layout.alignment aligned.0) aligned.1

  -- WGSL's rules leave each member where the module has it
  pub offsets_kept : offsets_of (written_members span (k ∷ more)) ≡ map (λ k. k.offset) (k ∷ more)
  offsets_kept =
      let first = first_kept k more kept in
      offsets_left whole span 0 k more aligned first.1 (first_begins k aligned.0 first.0)

  -- and the struct is as its last member says
  pub struct_kept : struct_layout (written_members span (k ∷ more)) ≡ Some (ended span whole (last_of k more))
  struct_kept =
      let first = first_kept k more kept in
      let some = some_sized whole span k more in
      struct_of (written_members span (k ∷ more)) some.0 some.1 some.2 (sizes_left whole span k more first.1)
      ∙ (ap (λ a. Some (closed a (end_of (Some 0) (written_members span (k ∷ more)))))
      (same_greatest whole span 0 (k ∷ more))
      ∙ ap (λ e. Some (closed whole e))
      (end_left whole span 0 k more aligned first.1 (first_begins k aligned.0 first.0)))

  -- which is its span, where that has room for all and is a multiple of its alignment
  pub span_kept : has_room span whole (last_of k more) ≡ true → (ended span whole (last_of k more)).size ≡ Some span
  span_kept room = by last.layout.size refl
    where
      last : Placed
      last = last_of k more

      parts : ((span % whole == 0) ≡ true)
          × (option_map_or (λ s. nat_le (last.offset + s) span) last.layout.size false ≡ true)
      parts = and_parts (span % whole == 0) _ room

      by : (o : Option ℕ) → last.layout.size ≡ o →
          option_map (λ end. next_multiple_of end whole) (end_of_last span whole last) ≡ Some span
      by None is = absurd
          (false≢true (sym (ap (λ o. option_map_or (λ s. nat_le (last.offset + s) span) o false) is) ∙ parts.1))
      by (Some s) is =
          ap (λ o. option_map (λ end. next_multiple_of end whole)
          (option_map (λ s. last.offset + unwrap_or (gap_size last.offset (Some s) span whole) s) o)) is
          ∙ ap (λ n. Some n) (begins_at whole last.offset s span whole_is
          (leb-true (last.offset + s) span
          (sym (ap (λ o. option_map_or (λ s. nat_le (last.offset + s) span) o false) is) ∙ parts.1))
          (eqb-true (span % whole) 0 parts.0))
