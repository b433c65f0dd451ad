-- Operators that are told alike, over operands of types alike, have types alike, across a whole
-- module. Operators and types are told by words, lists of numbers.
--
-- Throughout, a and b are two operations, o is one (os are several), and v and w are words (vs and
-- ws are several).
use Rattle.std.specs.Prelude.{ℕ, Bool, true, false, ◌&&◌, List, [], ◌∷◌, if◌then◌else◌}
use Rattle.std.specs.List.{list_all}
use Rattle.std.specs.Str.{bytes_eq}

-- an operator where it is used: what tells it, the types of its operands and that of its result
pub record Operation : Type 0 where
  pub operator : List ℕ
  pub operands : List (List ℕ)
  pub answer : List ℕ

-- words that are the same, in order
abbrev pub are_same_words : List (List ℕ) → List (List ℕ) → Bool
are_same_words [] [] = true
are_same_words (v ∷ vs) (w ∷ ws) = bytes_eq v w && are_same_words vs ws
are_same_words _ _ = false

-- where both are one operator over operands of types alike, their types are alike
abbrev pub agrees : Operation → Operation → Bool
agrees a b =
    if bytes_eq a.operator b.operator && are_same_words a.operands b.operands
    then bytes_eq a.answer b.answer else true

-- any two agree
abbrev pub all_agree : List Operation → Bool
all_agree [] = true
all_agree (o ∷ os) = list_all (agrees o) os && all_agree os
