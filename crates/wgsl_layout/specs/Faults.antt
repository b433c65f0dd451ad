-- The first fault of a struct's members, as it is looked for from the first to the last.
--
-- Throughout, k is a member, before the one before it, if there is one, more are those that are
-- left, ks all that are looked at, and found is the first fault that was found so far, if one was.
use Rattle.std.specs.Prelude.{◌&&◌, ◌==◌, Bool, true, not, List, [], ◌∷◌, IsTrue}
use Rattle.std.specs.Prelude.{Option, Some, None, if◌then◌else◌}
use Rattle.std.specs.Option.{is_some, option_or}
use Rattle.wgsl_layout.specs.Members.{begins_inside, is_aligned, is_off_alignment, overlaps}
use Rattle.wgsl_layout.specs.declared.layouts.Placed.{Placed}
use Rattle.wgsl_layout.specs.declared.members.Misplaced.{Misplaced}
use Rattle.wgsl_layout.specs.declared.members.Misplaced.TheVariants.{OffAlignment, Overlapping}

-- With this member the struct may still be one that is to keep its offsets: the member is the
-- first, or it isn't at 0 and the one before it has a size.
abbrev pub goes_on : (before : Option Placed) → Placed → Bool
goes_on None k = true
goes_on (Some b) k = not (k.offset == 0) && is_some b.layout.size

-- the fault of a member at a multiple of its alignment, if it has one
abbrev pub fault_after : (before : Option Placed) → Placed → Option Misplaced
fault_after None k = if k.offset == 0 then None else Some OffAlignment
fault_after (Some b) k = if begins_inside b k then Some Overlapping else None

-- the fault of a member, if it has one
abbrev pub own_fault : (before : Option Placed) → Placed → Option Misplaced
own_fault before k = if is_aligned k then fault_after before k else Some OffAlignment

-- the first fault of these members, where the struct is to keep their offsets; none is told of any
-- other struct
abbrev pub first_fault :
    (before : Option Placed) → (found : Option Misplaced) → List Placed → Option Misplaced
first_fault None found [] = None
first_fault (Some b) found [] = found
first_fault before found (k ∷ more) =
    if goes_on before k
    then first_fault (Some k) (option_or found (own_fault before k)) more else None

-- this fault stands among these members
abbrev pub StandsAmong : Misplaced → List Placed → Type 0
StandsAmong OffAlignment ks = IsTrue (is_off_alignment ks)
StandsAmong Overlapping ks = IsTrue (overlaps ks)
