-- With which statuses the program ends.
use Rattle.std.specs.Prelude.{ℕ, ◌==◌, ◌||◌, if◌then◌else◌}
use Rattle.yorwethul_progress.specs.declared.Outcome.{Outcome}
use Rattle.yorwethul_progress.specs.declared.Outcome.TheVariants as outcome

-- 0 of a module that is written, 1 of one that is refused, 2 of what is no module, and 3 of a module
-- that is not accepted
abbrev pub status_for : Outcome → ℕ
status_for outcome.Written = 0
status_for outcome.Refused = 1
status_for outcome.NotAccepted = 3
status_for outcome.Unread = 2

-- the first of 2, 3, 1 and 0 that one of two is, where both are of these
abbrev pub first_status_of : (one other : ℕ) → ℕ
first_status_of one other =
    if one == 2 || other == 2 then 2
    else if one == 3 || other == 3 then 3
    else if one == 1 || other == 1 then 1 else 0
