-- Texts as they stand in a line: what controls, as a line break, is escaped.
--
-- Throughout, c is a character.
use Rattle.std.specs.Prelude.{ℕ, List, ◌∷◌, ◌++◌, ◌==◌, chars, codes, false, encode_utf8, flat_map}
use Rattle.std.specs.Prelude.{if◌then◌else◌}
use Rattle.std.specs.Char.{is_control}
use Rattle.std.specs.Fmt.{digits}

-- a character after a backslash, whose code is 92: `\n`, and where it has no letter `\u{7f}`
abbrev pub escaped : (c : ℕ) → List ℕ
escaped c =
    if c == 9 then 92 ∷ codes "t"
    else (if c == 10 then 92 ∷ codes "n"
    else (if c == 13 then 92 ∷ codes "r" else 92 ∷ codes "u{" ++ (digits 16 false c ++ codes "}")))

-- the bytes by which a character stands in a line
abbrev pub shown_char : (c : ℕ) → List ℕ
shown_char c = if is_control c then escaped c else encode_utf8 c

-- a text in a line
abbrev pub on_one_line : List ℕ → List ℕ
on_one_line text = flat_map shown_char (chars text)
