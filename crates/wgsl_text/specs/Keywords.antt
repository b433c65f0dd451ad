-- The two tables of keywords, as lists of words.
use Rattle.std.specs.Prelude.{ℕ, List, map}
use Rattle.naga_keywords.specs.declared.keywords.TheConstants.{RESERVED, BUILTIN_IDENTIFIERS}

-- the keywords and the reserved words of the language
unfoldable pub reserved_words : List (List ℕ)
reserved_words = map (λ word. word.now) RESERVED.now

-- the predeclared words, and those of the extensions
unfoldable pub builtin_words : List (List ℕ)
builtin_words = map (λ word. word.now) BUILTIN_IDENTIFIERS.now
