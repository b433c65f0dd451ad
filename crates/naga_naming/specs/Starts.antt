-- What a `Namer` goes by when it begins.
use Rattle.std.specs.Prelude.{ℕ, Bool, List, map}
use denote.Ref.{Bor}
use Rattle.naga_keywords.specs.Words.{Words}
use Rattle.naga_naming.specs.Naming.{Names, new_names}

-- the words and prefixes given, whether digits are kept, and no uses
abbrev pub start_of : (keywords builtins caseless : Words) → (prefixes : List (Bor (List ℕ))) →
    (keeps_digits : Bool) → Names
start_of keywords builtins caseless prefixes keeps_digits =
    new_names keywords builtins caseless (map (λ p. p.now) prefixes) keeps_digits
