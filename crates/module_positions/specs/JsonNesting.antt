-- How deep lists and objects nest in the bytes of JSON, by their brackets.
use Rattle.std.specs.Prelude.{ℕ, ◌+◌, ◌-◌, Bool, false, ◌||◌, ◌==◌, List, [], ◌∷◌}
use Rattle.std.specs.Prelude.{if◌then◌else◌, nat_lt}
use Rattle.module_positions.specs.declared.json_nesting.Within.{Within}
use Rattle.module_positions.specs.declared.json_nesting.Within.TheVariants as within

-- Where the next byte stands: a quotation mark begins a string and ends it, unless a backslash is
-- in front of it there.
abbrev pub within_after : Within → (byte : ℕ) → Within
within_after within.Outside byte = if byte == 34 then within.Text else within.Outside
within_after within.Text byte =
    if byte == 34 then within.Outside else (if byte == 92 then within.Escape else within.Text)
within_after within.Escape byte = within.Text

-- how many are open after the byte: brackets and braces count outside of strings alone
abbrev pub opened_after : Within → (byte opened : ℕ) → ℕ
opened_after within.Outside byte opened =
    if (byte == 91) || (byte == 123) then opened + 1
    else (if (byte == 93) || (byte == 125) then opened - 1 else opened)
opened_after _ byte opened = opened

-- more than `most` are open after one of the bytes, of which the first stands here
abbrev pub nest_past : (most : ℕ) → Within → (opened : ℕ) → List ℕ → Bool
nest_past most here opened [] = false
nest_past most here opened (byte ∷ bytes) =
    nat_lt most (opened_after here byte opened)
    || nest_past most (within_after here byte) (opened_after here byte opened) bytes

-- lists and objects nest deeper in these bytes than JSON is read
abbrev pub nest_too_deep : List ℕ → Bool
nest_too_deep json = nest_past 127 within.Outside 0 json
