-- The members of a struct of a module: where the module has them, the sizes that are written so
-- that WGSL's rules ("Structure Member Layout") leave them there, and why they can't be left there.
--
-- Throughout, k is a member, ks are those of a struct, before is the one before k, if there is one,
-- next the one after it, more those that are left, o is the offset of a member, s the size of its
-- type, a an alignment, p the offset of what is after a member, and span how many bytes the module
-- gives to a struct. After the last member comes the struct's end, at its span, with the struct's
-- alignment.
use Rattle.std.specs.Prelude.{ℕ, ◌+◌, ◌-◌, ◌%◌, ◌==◌, ◌&&◌, ◌||◌, Bool, true, false, not, List}
use Rattle.std.specs.Prelude.{[], ◌∷◌, max, nat_lt, nat_le, Option, Some, None}
use Rattle.std.specs.Prelude.{if◌then◌else◌, unwrap_or}
use Rattle.std.specs.Int.{next_multiple_of}
use Rattle.std.specs.List.{list_all, list_any}
use Rattle.std.specs.Option.{is_some, option_map, option_map_or}
use Rattle.wgsl_layout.specs.Rules.{Member, closed}
use Rattle.wgsl_layout.specs.declared.layouts.Layout.{Layout}
use Rattle.wgsl_layout.specs.declared.layouts.Placed.{Placed}

-- ---- what is written
-- The size that is written of a member: as far as to what is after it. None is written where WGSL
-- has that at p by itself, and none where it can't be at p, which lies before the member's end or
-- at no multiple of a.
abbrev pub gap_size : (o : ℕ) → Option ℕ → (p a : ℕ) → Option ℕ
gap_size o None p a = None
gap_size o (Some s) p a =
    if nat_lt (next_multiple_of (o + s) a) p && (p % a == 0) then Some (p - o) else None

-- a member as it is written
abbrev pub sized : Placed → (p a : ℕ) → Member
sized k p a = record { layout = k.layout; given = gap_size k.offset k.layout.size p a }

-- all of them, in a struct of this alignment
abbrev pub sized_members : (a span : ℕ) → List Placed → List Member
sized_members a span [] = []
sized_members a span (k ∷ []) = sized k span a ∷ []
sized_members a span (k ∷ next ∷ more) =
    sized k next.offset next.layout.alignment ∷ sized_members a span (next ∷ more)

-- the greatest alignment among a and theirs
abbrev pub greatest_placed : (a : ℕ) → List Placed → ℕ
greatest_placed a [] = a
greatest_placed a (k ∷ more) = greatest_placed (max a k.layout.alignment) more

-- the members of a struct as they are written
abbrev pub written_members : (span : ℕ) → List Placed → List Member
written_members span ks = sized_members (greatest_placed 0 ks) span ks

-- ---- which structs are concerned
-- none but the first is at 0
abbrev pub are_apart : List Placed → Bool
are_apart [] = true
are_apart (k ∷ more) = list_all (λ k. not (k.offset == 0)) more

-- each but the last has a size
abbrev pub has_own_sizes : List Placed → Bool
has_own_sizes [] = true
has_own_sizes (k ∷ []) = true
has_own_sizes (k ∷ next ∷ more) = is_some k.layout.size && has_own_sizes (next ∷ more)

-- A struct with these members, all with a layout and none with a binding, is to keep their offsets:
-- it has members, none but the first is at 0, and each but the last has a size.
abbrev pub is_concerned : List Placed → Bool
is_concerned [] = false
is_concerned ks = are_apart ks && has_own_sizes ks

-- ---- why a struct is refused
abbrev pub is_aligned : Placed → Bool
is_aligned k = k.offset % k.layout.alignment == 0

-- the first member isn't at 0, or one isn't at a multiple of its alignment
abbrev pub starts_late : List Placed → Bool
starts_late [] = false
starts_late (k ∷ more) = not (k.offset == 0)

abbrev pub is_off_alignment : List Placed → Bool
is_off_alignment ks = starts_late ks || list_any (λ k. not (is_aligned k)) ks

-- one begins before the end of the one before it
abbrev pub begins_inside : (k next : Placed) → Bool
begins_inside k next = option_map_or (λ s. nat_lt next.offset (k.offset + s)) k.layout.size false

abbrev pub overlaps : List Placed → Bool
overlaps [] = false
overlaps (k ∷ []) = false
overlaps (k ∷ next ∷ more) = begins_inside k next || overlaps (next ∷ more)

-- ---- when they are all left where they are
-- the first member is at 0; each other one is not, and begins no earlier than the one before it
-- ends, which has a size
abbrev pub stands_after : (before : Option Placed) → Placed → Bool
stands_after None k = k.offset == 0
stands_after (Some b) k =
    not (k.offset == 0) &&
    option_map_or (λ s. nat_le (b.offset + s) k.offset) b.layout.size false

-- and each is at a multiple of its alignment
abbrev pub are_kept : (before : Option Placed) → List Placed → Bool
are_kept before [] = true
are_kept before (k ∷ more) = is_aligned k && (stands_after before k && are_kept (Some k) more)

-- the last of a member and those after it
abbrev pub last_of : Placed → List Placed → Placed
last_of k [] = k
last_of k (next ∷ more) = last_of next more

-- ---- the end
-- the first byte after the last member, with the size that is written of it, if it has an end
abbrev pub end_of_last : (span a : ℕ) → (last : Placed) → Option ℕ
end_of_last span a last =
    option_map (λ s. last.offset + unwrap_or (gap_size last.offset (Some s) span a) s)
    last.layout.size

-- the size of a struct whose last member is at o and has the size s
abbrev pub end_after_last : (o s span a : ℕ) → ℕ
end_after_last o s span a =
    next_multiple_of (o + unwrap_or (gap_size o (Some s) span a) s) a

-- the layout of a struct of this alignment with this last member, where all are left where they are
abbrev pub ended : (span a : ℕ) → (last : Placed) → Layout
ended span a last = closed a (end_of_last span a last)

-- The struct then has the module's span: this is a multiple of its alignment, and the last member
-- has a size and ends no later.
abbrev pub has_room : (span a : ℕ) → (last : Placed) → Bool
has_room span a last =
    (span % a == 0) &&
    option_map_or (λ s. nat_le (last.offset + s) span) last.layout.size false

-- the same of a struct by all its members
abbrev pub has_room_for_all : (span : ℕ) → List Placed → Bool
has_room_for_all span [] = false
has_room_for_all span (k ∷ more) =
    has_room span (greatest_placed 0 (k ∷ more)) (last_of k more)
