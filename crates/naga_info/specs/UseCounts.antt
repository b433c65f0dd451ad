-- How far uses are counted.
use Rattle.std.specs.Prelude.{ℕ, ◌-◌, ◌^◌}

-- the greatest `usize`, at which a count of uses is raised no further
abbrev pub greatest_count : ℕ
greatest_count = 2 ^ 64 - 1
