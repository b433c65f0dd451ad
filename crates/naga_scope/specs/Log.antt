-- The log of a point: how its table came about, and by which it is undone.
--
-- Throughout, c is a change and cs are further ones, t is a table, and p a point.
use Rattle.std.specs.Prelude.{◌≡◌, ℕ, ◌+◌, ◌^◌, ◌<◌, ◌≤◌, Bool, true, not, IsTrue, ◌&&◌, List, []}
use Rattle.std.specs.Prelude.{◌∷◌, ◌++◌, take, drop, length, get_or, slice_get, slice_set, Option}
use Rattle.std.specs.Prelude.{Some, None}
use Rattle.naga_scope.specs.Availabilities.{TextPoint, forgotten_cell, is_new_cell, is_present_cell}
use Rattle.naga_scope.specs.declared.points.Change.{Change}
use Rattle.naga_scope.specs.declared.points.Availability.{Availability}
use Rattle.naga_scope.specs.declared.points.Availability.TheVariants.{Absent, Barred, Everywhere}
use Rattle.naga_scope.specs.declared.points.Availability.TheVariants.{Inline, Bound}

-- ---- tables
-- one change undone, and what it introduced forgotten
abbrev pub undo : Change → List Availability → List Availability
undo c t = slice_set t c.index c.before

abbrev pub forget : Change → List Availability → List Availability
forget c t = slice_set t c.index (forgotten_cell c.before (get_or t c.index Absent))

-- all these changes, from the last on
abbrev pub undone : List Change → List Availability → List Availability
undone [] t = t
undone (c ∷ cs) t = undo c (undone cs t)

abbrev pub forgotten : List Change → List Availability → List Availability
forgotten [] t = t
forgotten (c ∷ cs) t = forget c (forgotten cs t)

-- ---- points
-- a cell that stands so now, if there is one, and is logged
unfoldable pub changed : (index : ℕ) → (now : Availability) → TextPoint → TextPoint
changed index now p =
    record p {
      table = slice_set p.table index now;
      log = p.log ++ record { index = index; before = get_or p.table index Absent } ∷ [];
    }

-- back at the point where the log was so long
unfoldable pub back_to : (mark : ℕ) → TextPoint → TextPoint
back_to mark p = record p { table = undone (drop mark p.log) p.table; log = take mark p.log }

-- what was introduced after it is forgotten, and the log stays
unfoldable pub forget_from : (mark : ℕ) → TextPoint → TextPoint
forget_from mark p = record p { table = forgotten (drop mark p.log) p.table }

-- the same of one change, if there is one with this number
abbrev pub forget_if : Option Change → List Availability → List Availability
forget_if None t = t
forget_if (Some c) t = forget c t

unfoldable pub forget_at : (number : ℕ) → TextPoint → TextPoint
forget_at number p = record p { table = forget_if (slice_get p.log number) p.table }

-- ---- how points follow one another
-- what an `Emit` or a result may make of a cell
abbrev pub grows : (was now : Availability) → Bool
grows Absent now = true
grows Barred now = not (is_new_cell now)
grows Everywhere now = is_present_cell now
grows Inline now = is_present_cell now && not (is_new_cell now)
grows (Bound name) now = is_present_cell now && not (is_new_cell now)

-- each change is of a cell of the table, and of one that has grown by it
unfoldable pub Grown : List Change → List Availability → Type 0
Grown [] t = Unit {0}
Grown (c ∷ cs) t =
    (c.index < length t)
    × (IsTrue (grows c.before (get_or (undone cs t) c.index Absent)) × Grown cs t)

-- the log is that before and more; undone by what is more, the table is that before
unfoldable pub Logged : (before after : TextPoint) → (more : List Change) → Type 0
Logged before after more =
    (after.log ≡ before.log ++ more) × (undone more after.table ≡ before.table)

-- After some changes, which undone give what was before.
pub record Reverts (before after : TextPoint) : Type 0 where
  pub size : length after.table ≡ length before.table
  pub room : after.room ≡ before.room
  pub longer : length before.log ≤ length after.log
  pub more : List Change
  pub logged : Logged before after more

-- After some statements in turn: each cell has grown by each change too.
pub record Extends (before after : TextPoint) : Type 0 where
  pub size : length after.table ≡ length before.table
  pub room : after.room ≡ before.room
  pub longer : length before.log ≤ length after.log
  pub more : List Change
  pub logged : Logged before after more
  pub grown : Grown more after.table

-- All but the number of names is as before.
pub record Same (before after : TextPoint) : Type 0 where
  pub table : after.table ≡ before.table
  pub log : after.log ≡ before.log
  pub room : after.room ≡ before.room

-- There is room for so many changes more.
pub record HasRoom (p : TextPoint) (changes : ℕ) : Type 0 where
  pub log : length p.log + changes ≤ p.room
  pub names : p.named + changes < 2 ^ 64

-- So many changes at most have been passed.
pub record Counted (before after : TextPoint) (changes : ℕ) : Type 0 where
  pub log : length after.log ≤ length before.log + changes
  pub names : after.named ≤ before.named + changes
