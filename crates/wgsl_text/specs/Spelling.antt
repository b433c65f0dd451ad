-- Which bytes spell which token, and how the tokens of a text follow from its front.
--
-- Throughout, b is a byte, w a word, m a mark, and t and u are tokens.
use Rattle.std.specs.Prelude.{◌≡◌, ℕ, ◌<◌, ◌≤◌, ◌||◌, ◌==◌, Bool, true, false, List, ◌∷◌, ◌++◌}
use Rattle.std.specs.Prelude.{length, codes, IsTrue, IsFalse}
use Rattle.std.specs.Str.{all_ascii_digits}
use Rattle.std.specs.Str.Parse.{digits_value}
use Rattle.wgsl_text.specs.Token.{Mark, OpenParen, CloseParen, OpenBracket, CloseBracket, OpenBrace}
use Rattle.wgsl_text.specs.Token.{CloseBrace, Comma, Semicolon, Colon, Dot, At, Equals, LessThan}
use Rattle.wgsl_text.specs.Token.{GreaterThan, Plus, Minus, Star, Slash, Percent, Ampersand, Bar}
use Rattle.wgsl_text.specs.Token.{Caret, Not, Tilde, EqualsEquals, NotEquals, LessEquals, AndAnd}
use Rattle.wgsl_text.specs.Token.{BarBar, LessLess, Suffix, Token, Fixed, Number, ZeroPointZero}
use Rattle.wgsl_text.specs.Token.{Decimal, Precision}
use Rattle.wgsl_text.specs.Token.{Foreign}
use Rattle.wgsl_text.specs.Words.{is_word_text}
use Rattle.wgsl_text.specs.Text.{mark_text, suffix_text, word_token, tokens, decimal_tail}
use Rattle.wgsl_text.specs.Token.{AreDigits, IsPrecision}

-- a sign, and no keyword
abbrev pub is_sign : Mark → Bool
is_sign OpenParen = true
is_sign CloseParen = true
is_sign OpenBracket = true
is_sign CloseBracket = true
is_sign OpenBrace = true
is_sign CloseBrace = true
is_sign Comma = true
is_sign Semicolon = true
is_sign Colon = true
is_sign Dot = true
is_sign At = true
is_sign Equals = true
is_sign LessThan = true
is_sign GreaterThan = true
is_sign Plus = true
is_sign Minus = true
is_sign Star = true
is_sign Slash = true
is_sign Percent = true
is_sign Ampersand = true
is_sign Bar = true
is_sign Caret = true
is_sign Not = true
is_sign Tilde = true
is_sign EqualsEquals = true
is_sign NotEquals = true
is_sign LessEquals = true
is_sign AndAnd = true
is_sign BarBar = true
is_sign LessLess = true
is_sign _ = false

-- the bytes of a number: a `-` or none, digits, and a suffix or none
abbrev pub number_text : Bool → List ℕ → Suffix → List ℕ
number_text true digits suffix = codes "-" ++ (digits ++ suffix_text suffix)
number_text false digits suffix = digits ++ suffix_text suffix

-- those of a number of a floating-point type
abbrev pub decimal_text : Bool → (whole fraction : List ℕ) → Precision → List ℕ
decimal_text true whole fraction precision =
    codes "-" ++ (whole ++ decimal_tail fraction precision)
decimal_text false whole fraction precision = whole ++ decimal_tail fraction precision

-- These bytes spell this token. There is no sign `->`,
-- `>>` or `>=`, so `>` is always a token by itself.
pub data Spells : List ℕ → Token → Type 0 where
  -- letters, digits and `_`, no digit first: a keyword that the grammar uses, or a word of its own
  SpellsWord : (w : List ℕ) → IsTrue (is_word_text w) → Spells w (word_token w)
  SpellsNumber : (negative : Bool) (digits : List ℕ) (suffix : Suffix) → 0 < length digits →
      IsTrue (all_ascii_digits digits) →
      Spells (number_text negative digits suffix) (Number negative (digits_value 10 digits) suffix)
  SpellsDecimal : (negative : Bool) (whole fraction : List ℕ) (precision : Precision) →
      AreDigits whole → IsTrue (all_ascii_digits fraction) → IsPrecision precision →
      Spells (decimal_text negative whole fraction precision)
      (Decimal negative whole fraction precision)
  SpellsZeroPointZero : Spells (codes "0.0") ZeroPointZero
  SpellsSign : (m : Mark) → IsTrue (is_sign m) → Spells (mark_text m) (Fixed m)

-- the byte is a blank or a line end
abbrev pub is_blank : ℕ → Bool
is_blank b = b == 32 || b == 10

-- The front of these bytes spells the token, and no longer front spells one.
pub record IsLongest (bytes front rest : List ℕ) (t : Token) : Type 0 where
  pub begins : bytes ≡ front ++ rest
  pub spells : Spells front t
  pub longest : (other following : List ℕ) (u : Token) → bytes ≡ other ++ following →
      Spells other u →
      length other ≤ length front

-- How a text begins, and what its tokens are: a blank carries no meaning, the longest front that
-- spells a token is the first token, and a byte that begins no token is foreign.
pub data Begins (b : ℕ) (bytes : List ℕ) : Type 0 where
  AtBlank : IsTrue (is_blank b) → tokens (b ∷ bytes) ≡ tokens bytes → Begins b bytes
  AtToken : (front rest : List ℕ) (t : Token) → IsLongest (b ∷ bytes) front rest t →
      tokens (b ∷ bytes) ≡ t ∷ tokens rest → Begins b bytes
  AtForeign : IsFalse (is_blank b) →
      ((front rest : List ℕ) (t : Token) → b ∷ bytes ≡ front ++ rest → Spells front t → ⊥) →
      tokens (b ∷ bytes) ≡ Foreign b ∷ tokens bytes → Begins b bytes
