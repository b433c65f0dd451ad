-- The stem of a label: the part of an identifier that comes from the label alone.
--
-- Throughout, c is a character (cs are several), d the next one, and n a number.
use Rattle.std.specs.Prelude.{◌≡◌, ℕ, ◌-◌, Bool, false, not, ◌||◌, ◌&&◌, ◌==◌, if◌then◌else◌, List}
use Rattle.std.specs.Prelude.{[], ◌∷◌, ◌++◌, ◌<◌, length, slice_index, drop, replicate, codes}
use Rattle.std.specs.Fmt.{digits}
use Rattle.std.specs.List.{flat_map, list_any, starts_with}
use Rattle.std.specs.Bool.{nat_eq}
use Rattle.std.specs.Str.{IsAscii}
use Rattle.ucd_category.specs.GeneralCategory.{general_category}
use Rattle.ucd_category.specs.GeneralCategoryGroup.{in_group}
use Rattle.ucd_category.specs.declared.GeneralCategoryGroup.TheVariants.{Number}
use Rattle.naga_keywords.specs.Plain.{is_identifier_char}

-- the general category is Nd, Nl or No
unfoldable pub is_numeric : ℕ → Bool
is_numeric c = in_group Number (general_category c)

-- the characters from the first one on that is not numeric
abbrev pub after_numerics : List ℕ → List ℕ
after_numerics [] = []
after_numerics (c ∷ cs) = if is_numeric c then after_numerics cs else c ∷ cs

-- `:`, `<`, `>` and `,`
abbrev pub is_mark : ℕ → Bool
is_mark c = c == 58 || c == 60 || c == 62 || c == 44

-- no mark, and nothing that an identifier may have
abbrev pub is_foreign : ℕ → Bool
is_foreign c = not (is_mark c) && not (is_identifier_char c)

-- the number in hexadecimal, with small letters and at least four digits
unfoldable pub hexadecimal : ℕ → List ℕ
hexadecimal n = replicate (4 - length (digits 16 false n)) 48 ++ digits 16 false n

-- a foreign character by its number
abbrev pub by_number : ℕ → List ℕ
by_number c = codes "u" ++ hexadecimal c ++ codes "_"

-- a mark is spelled `_`, a foreign character `_uXXXX_` by its number, and any other one as it is
abbrev pub character_ascii : ℕ → List ℕ
character_ascii c =
    if is_mark c then codes "_"
    else (if is_identifier_char c then c ∷ [] else codes "_" ++ by_number c)

-- the text begins with a `_`
abbrev pub begins_separated : List ℕ → Bool
begins_separated [] = false
begins_separated (c ∷ cs) = c == 95

-- each run of `_` is one `_`
abbrev pub without_repeated_underscores : List ℕ → List ℕ
without_repeated_underscores [] = []
without_repeated_underscores (c ∷ cs) =
    if c == 95 && begins_separated cs then without_repeated_underscores cs
    else c ∷ without_repeated_underscores cs

abbrev pub begins_foreign : List ℕ → Bool
begins_foreign [] = false
begins_foreign (c ∷ cs) = is_foreign c

-- the characters spelled one after another and squeezed,
-- without the `_` of a foreign first character
unfoldable pub ascii_of : List ℕ → List ℕ
ascii_of characters =
    let text = without_repeated_underscores (flat_map character_ascii characters) in
    if begins_foreign characters then drop 1 text else text

-- the text ends in a `_`
abbrev pub ends_separated : List ℕ → Bool
ends_separated [] = false
ends_separated (c ∷ []) = c == 95
ends_separated (c ∷ d ∷ cs) = ends_separated (d ∷ cs)

-- the text with a `_` at its end
abbrev pub with_separator : List ℕ → List ℕ
with_separator text = if ends_separated text then text else text ++ codes "_"

-- the character and then the rest, but nothing for a `_` with no rest
abbrev pub kept_before : ℕ → List ℕ → List ℕ
kept_before c [] = if c == 95 then [] else c ∷ []
kept_before c (d ∷ rest) = c ∷ d ∷ rest

-- the text without the `_` at its end
abbrev pub without_last_separators : List ℕ → List ℕ
without_last_separators [] = []
without_last_separators (c ∷ cs) = kept_before c (without_last_separators cs)

-- an empty text is named `unnamed`
abbrev pub or_unnamed : List ℕ → List ℕ
or_unnamed [] = codes "unnamed"
or_unnamed (c ∷ cs) = c ∷ cs

-- a text that begins with one of the prefixes has `gen_` before it
abbrev pub set_apart : List (List ℕ) → List ℕ → List ℕ
set_apart prefixes text =
    if list_any (starts_with nat_eq text) prefixes then codes "gen_" ++ text else text

-- an ASCII text that is spelled as it stands
pub record StaysSame (text : List ℕ) : Type 0 where
  pub ascii : IsAscii text
  pub same : ascii_of text ≡ text

-- an ASCII text that a label keeps: spelled as it stands,
-- with no number first and no `_` at its end
pub record IsPlain (text : List ℕ) : Type 0 where
  pub some : 0 < length text
  pub first : is_numeric (slice_index text 0) ≡ false
  pub stays : StaysSame text
  pub last : ends_separated text ≡ false

-- the stem of a label, of which these are the characters, where identifiers keep off these prefixes
unfoldable pub stem_of : List (List ℕ) → List ℕ → List ℕ
stem_of prefixes characters =
    set_apart prefixes (or_unnamed (without_last_separators (ascii_of (after_numerics characters))))
