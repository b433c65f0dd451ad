-- Which lines are shown: from all lines to those of one screen.
--
-- Lines are gone through from the last to the first, so that those which enclose the marked one are
-- known by their levels. Throughout, i is a line's number, l the line, spots is what is named, and k
-- what was kept of the lines after it.
use Rattle.std.specs.Prelude.{ℕ, suc, ◌-◌, Bool, true, false, ◌&&◌, ◌||◌, nat_lt, nat_le, ◌==◌, min}
use Rattle.std.specs.Prelude.{List, [], ◌∷◌, ◌++◌, if◌then◌else◌, slice_get, unwrap_or}
use Rattle.std.specs.List.{list_any, position}
use Rattle.std.specs.Option.{option_map_or}
use Rattle.naga_ir.specs.declared.module.Module.{Module}
use Rattle.naga_listing.specs.contracts.positions.SpotPartialEq.TheImpl.{eq-value}
use Rattle.naga_listing.specs.declared.positions.Line.{Line}
use Rattle.naga_listing.specs.declared.positions.ListingPosition.{ListingPosition}
use Rattle.naga_listing.specs.declared.positions.LineKind.{LineKind}
use Rattle.naga_listing.specs.declared.positions.LineKind.TheVariants as kind
use Rattle.naga_listing.specs.declared.positions.Spot.{Spot}
use Rattle.naga_listing.specs.Lines.{all_lines, line}
use Rattle.naga_listing.specs.Named.{named_spots}

-- how spots are compared, by their variants and what these hold
abbrev pub same_spot : Spot → Spot → Bool
same_spot = eq-value.it

-- Is a line of this kind about this?
abbrev pub is_about : Spot → LineKind → Bool
is_about s (kind.Item t) = same_spot t s
is_about s _ = false

abbrev pub is_named : (spots : List Spot) → LineKind → Bool
is_named spots r = list_any (λ s. is_about s r) spots

abbrev pub is_title : LineKind → Bool
is_title (kind.Title t) = true
is_title _ = false

abbrev pub is_gap : LineKind → Bool
is_gap kind.Gap = true
is_gap _ = false

-- so many lines before the marked one and after it are shown
abbrev pub radius : ℕ
radius = 5

abbrev pub is_near : (marked i : ℕ) → Bool
is_near marked i = nat_le (i - marked) radius && nat_le (marked - i) radius

-- what is kept of the last lines
pub record Shown : Type 0 where
  -- the lines that are shown, with gaps
  pub lines : List Line
  -- the level of the first line that encloses the marked one, and 0 before that is met: what is at
  -- a lower level encloses it
  pub level : ℕ
  -- Is a line shown of the list that they begin in?
  pub opened : Bool

abbrev pub begins_with_gap : List Line → Bool
begins_with_gap lines = option_map_or (λ l. is_gap l.kind) (slice_get lines 0) false

-- lines are left out before these
abbrev pub after_gap : List Line → List Line
after_gap lines = if begins_with_gap lines then lines else line 0 kind.Gap ∷ lines

-- Is a line shown that is not marked? A title is, of which a line is shown, and any other line that
-- is the first, near the marked one, around it, or named.
abbrev pub is_shown : (marked : ℕ) (spots : List Spot) (i : ℕ) → Line → Shown → Bool
is_shown marked spots i l k =
    if is_title l.kind then k.opened
    else (((is_near marked i || nat_lt l.level k.level) || (i == 0)) || is_named spots l.kind)

-- a line that is shown, or left out, before those that were kept
abbrev pub with_line : (shown : Bool) → Line → Shown → Shown
with_line shown l k = record {
  lines = if shown then l ∷ k.lines else after_gap k.lines;
  level = min k.level l.level;
  opened = if is_title l.kind then false else (shown || k.opened);
}

-- the marked line, with the line that says what is wrong
abbrev pub with_marked : Line → Shown → Shown
with_marked l k = record {
  lines = l ∷ line l.level kind.Mark ∷ k.lines;
  level = l.level;
  opened = true;
}

abbrev pub with_any : (marked : ℕ) (spots : List Spot) (i : ℕ) → Line → Shown → Shown
with_any marked spots i l k =
    if i == marked then with_marked l k else with_line (is_shown marked spots i l k) l k

-- what is kept of the lines from i on
abbrev pub shown_from : (marked : ℕ) (spots : List Spot) (i : ℕ) → List Line → Shown
shown_from marked spots i [] = record { lines = []; level = 0; opened = false }
shown_from marked spots i (l ∷ ls) =
    with_any marked spots i l (shown_from marked spots (suc i) ls)

-- the number of the line that is about this, or that of the first line
abbrev pub marked_line : Spot → List Line → ℕ
marked_line s lines = unwrap_or (position (λ l. is_about s l.kind) lines) 0

-- the lines that are shown of all lines
abbrev pub shown_lines : Spot → (spots : List Spot) → List Line → List Line
shown_lines s spots lines = (shown_from (marked_line s lines) spots 0 lines).lines

-- The lines of a position: those near its own, which is marked, those that enclose it, and those
-- that it names. In the position of others stands a gap.
abbrev pub position_lines : Module → ListingPosition → List Line
position_lines m p = shown_lines p.spot (named_spots m p) (all_lines m p.listed)

-- the same, with the lines of more that is to be seen
abbrev pub lines_with : Module → ListingPosition → (more : List Spot) → List Line
lines_with m p more =
    shown_lines p.spot (named_spots m p ++ more) (all_lines m p.listed)
