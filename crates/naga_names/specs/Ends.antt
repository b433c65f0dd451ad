-- How texts end.
use Rattle.std.specs.Prelude.{◌≡◌, ℕ, List, ◌++◌, true}
use Rattle.std.specs.Char.{is_ascii_digit}
use Rattle.std.specs.List.{list_all}

-- the text is this front with ASCII digits alone, or nothing, after it
pub record IsFrontOfDigits (text front : List ℕ) : Type 0 where
  pub digits : List ℕ
  pub are : list_all is_ascii_digit digits ≡ true
  pub whole : text ≡ front ++ digits
