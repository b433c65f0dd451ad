-- Which JSON a text is: that of RFC 8259, where lists and objects nest at most 127 deep and each number is within
-- the range of doubles, as serde_json has it. An object keeps its members in order, and a name that comes twice.
use Rattle.std.specs.Prelude.{ℕ, List, Bool, true, false, ◌&&◌, if◌then◌else◌, Option, Some, None, option_and_then, ⊤}
use Rattle.std.specs.Option.{option_map_or}
use Rattle.std.specs.Float.{binary64, float_is_finite}
use Rattle.std.specs.Float.Parse.{parse_float}
use Rattle.json.specs.Lex.{tokens}
use Rattle.json.specs.Json.{Json, null, boolean, number, string, array, object, Items, no_items}
use Rattle.json.specs.Json.{item, Members, no_members, member, value, if_last}
use Rattle.naga_json.specs.declared.error.ReadError.{ReadError}
use Rattle.naga_json.specs.declared.error.ReadError.TheVariants.{OutOfMemory, NoJson, Misfit}

abbrev pub most_nested : ℕ
most_nested = 127

-- the nearest double of the numeral is finite
abbrev pub numeral_fits : List ℕ → Bool
numeral_fits s = option_map_or float_is_finite (parse_float binary64 s) false

-- each number in a value, at any depth, fits
abbrev mutual
  pub numbers_fit : Json → Bool
  numbers_fit null = true
  numbers_fit (boolean b) = true
  numbers_fit (number s) = numeral_fits s
  numbers_fit (string s) = true
  numbers_fit (array js) = items_fit js
  numbers_fit (object ms) = members_fit ms

  pub items_fit : Items → Bool
  items_fit no_items = true
  items_fit (item j js) = numbers_fit j && items_fit js

  pub members_fit : Members → Bool
  members_fit no_members = true
  members_fit (member k j ms) = numbers_fit j && members_fit ms

-- the value that a text is by its grammar, whatever its numbers
abbrev pub grammar_value : List ℕ → Option Json
grammar_value text = option_and_then (λ p. if_last p.0 p.1) (value most_nested (tokens text))

abbrev pub json_of : List ℕ → Option Json
json_of text = option_and_then (λ j. if numbers_fit j then Some j else None) (grammar_value text)

-- the error of a text that is no JSON
abbrev pub IsNoJson : ReadError → Type 0
IsNoJson OutOfMemory = ⊥
IsNoJson (NoJson l c) = ⊤
IsNoJson (Misfit p w) = ⊥
