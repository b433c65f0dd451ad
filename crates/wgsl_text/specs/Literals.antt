-- Literals and plain numbers: their trees, their pieces, and which of them the grammar has.
--
-- Throughout, w is a word, n a number, l a literal, and b a truth value.
use Rattle.std.specs.Prelude.{ℕ, Bool, List, [], ◌∷◌, true, false, codes, ◌<◌, ◌≤◌, ◌^◌, ⊤}
use Rattle.std.specs.Prelude.{IsTrue}
use Rattle.std.specs.Str.{all_ascii_digits}
use Rattle.wgsl_text.specs.Token.{Decimal, Precision}
use Rattle.wgsl_text.specs.Token.{AreDigits, IsPrecision}
use Rattle.wgsl_text.specs.Token.{OpenParen, CloseParen, Minus, KeywordTrue, KeywordFalse, Suffix}
use Rattle.wgsl_text.specs.Token.{NoSuffix, SuffixI, SuffixU, SuffixLi, SuffixLu, Number, Piece}
use Rattle.wgsl_text.specs.Token.{TokenPiece, Blank, mark, word, plain}

-- Each is one node, the wrapped and the least ones too.
pub data Literal : Type 0 where
  Truth : Bool → Literal
  -- a sign, a value and a suffix
  Suffixed : Bool → ℕ → Suffix → Literal
  -- a sign, the digits before a point and after it, and a type
  Floating : Bool → List ℕ → List ℕ → Precision → Literal
  -- `i16(-5)` and `u16(5)`
  SignedShort : Bool → ℕ → Literal
  UnsignedShort : ℕ → Literal
  -- the least `i32` and the least `i64`
  LeastInteger LeastLong : Literal

-- The pieces of literals.

-- a word with a plain number in parentheses
abbrev pub wrapped_pieces : List ℕ → Bool → ℕ → List Piece
wrapped_pieces w negative n =
    word w ∷ mark OpenParen ∷ TokenPiece (Number negative n NoSuffix) ∷ mark CloseParen ∷ []

abbrev pub literal_pieces : Literal → List Piece
literal_pieces (Truth true) = mark KeywordTrue ∷ []
literal_pieces (Truth false) = mark KeywordFalse ∷ []
literal_pieces (Suffixed negative n suffix) = TokenPiece (Number negative n suffix) ∷ []
literal_pieces (Floating negative whole fraction precision) =
    TokenPiece (Decimal negative whole fraction precision) ∷ []
literal_pieces (SignedShort negative n) = wrapped_pieces (codes "i16") negative n
literal_pieces (UnsignedShort n) = wrapped_pieces (codes "u16") false n
literal_pieces LeastInteger = wrapped_pieces (codes "i32") true 2147483648
literal_pieces LeastLong =
    word (codes "i64") ∷ mark OpenParen ∷ TokenPiece (Number true 9223372036854775807 NoSuffix) ∷
    Blank ∷ mark Minus ∷ Blank ∷ plain 1 ∷ mark CloseParen ∷ []

-- Which literals the grammar has.

-- a size, an index, or a number of an attribute
abbrev pub IsPlainNumber : ℕ → Type 0
IsPlainNumber n = n < 2 ^ 32

-- a number with a sign in the range that ends before the limit
abbrev pub IsSigned : Bool → ℕ → ℕ → Type 0
IsSigned true n limit = n ≤ limit
IsSigned false n limit = n < limit

-- The least `i32` and the least `i64` have forms of their own.
abbrev pub IsSuffixed : Suffix → Bool → ℕ → Type 0
IsSuffixed SuffixI negative n = n < 2 ^ 31
IsSuffixed SuffixU false n = n < 2 ^ 32
IsSuffixed SuffixLi negative n = n < 2 ^ 63
IsSuffixed SuffixLu false n = n < 2 ^ 64
IsSuffixed _ negative n = ⊥

-- some digits before the point, digits or none after it, and those of a power of ten
pub record IsFloating (whole fraction : List ℕ) (precision : Precision) : Type 0 where
  pub whole_digits : AreDigits whole
  pub fraction_digits : IsTrue (all_ascii_digits fraction)
  pub power_digits : IsPrecision precision

abbrev pub IsLiteral : Literal → Type 0
IsLiteral (Truth b) = ⊤
IsLiteral (Suffixed negative n suffix) = IsSuffixed suffix negative n
IsLiteral (Floating negative whole fraction precision) = IsFloating whole fraction precision
IsLiteral (SignedShort negative n) = IsSigned negative n (2 ^ 15)
IsLiteral (UnsignedShort n) = n < 2 ^ 16
IsLiteral LeastInteger = ⊤
IsLiteral LeastLong = ⊤
