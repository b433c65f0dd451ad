-- Ranges of handles.
use Rattle.std.specs.Prelude.{ℕ, ◌+◌, ◌-◌, ◌^◌, min}
use Rattle.naga_ir.specs.declared.statement.Range.{Range}

-- the handles from the first to the last; a range ends before the greatest number of 64 bits
abbrev pub range_of : (first last : ℕ) → Range
range_of first last = record { first = first; end = min (last + 1) (2 ^ 64 - 1) }
