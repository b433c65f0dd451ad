-- The text of pieces, and the tokens of a text.
--
-- Throughout, b and c are bytes, ds are the digits after one, w is a word, m a mark, n a number,
-- and t a token.
use Rattle.std.specs.Prelude.{ℕ, zero, suc, ◌*◌, Bool, true, false, not, ◌&&◌, ◌||◌, if◌then◌else◌}
use Rattle.std.specs.Prelude.{List, [], ◌∷◌, ◌++◌, codes, ◌==◌, length, take, drop, replicate}
use Rattle.std.specs.Str.{bytes_eq}
use Rattle.std.specs.Char.{is_ascii_digit}
use Rattle.std.specs.Str.Parse.{digits_value}
use Rattle.std.specs.Fmt.{decimal}
use Rattle.float_numerals.specs.Texts.{fraction_text}
use Rattle.wgsl_text.specs.Token.{Mark, OpenParen, CloseParen, OpenBracket, CloseBracket, OpenBrace}
use Rattle.wgsl_text.specs.Token.{CloseBrace, Comma, Semicolon, Colon, Dot, At, Equals, LessThan}
use Rattle.wgsl_text.specs.Token.{GreaterThan, Plus, Minus, Star, Slash, Percent, Ampersand, Bar}
use Rattle.wgsl_text.specs.Token.{Caret, Not, Tilde, EqualsEquals, NotEquals, LessEquals, AndAnd}
use Rattle.wgsl_text.specs.Token.{BarBar, LessLess, KeywordTrue, KeywordFalse, KeywordLet}
use Rattle.wgsl_text.specs.Token.{KeywordVar, KeywordIf, KeywordElse, KeywordLoop}
use Rattle.wgsl_text.specs.Token.{KeywordContinuing, KeywordBreak, KeywordContinue, KeywordSwitch}
use Rattle.wgsl_text.specs.Token.{KeywordCase, KeywordDefault, KeywordReturn, KeywordDiscard}
use Rattle.wgsl_text.specs.Token.{KeywordFn, KeywordStruct, KeywordConst, KeywordEnable}
use Rattle.wgsl_text.specs.Token.{KeywordOverride, Suffix, NoSuffix, SuffixI, SuffixU, SuffixLi}
use Rattle.wgsl_text.specs.Token.{SuffixLu, Token, Fixed, Word, Number, ZeroPointZero, Foreign}
use Rattle.wgsl_text.specs.Token.{Decimal, Power, NoPower, PowerOf, Precision, Half, Single, Double}
use Rattle.wgsl_text.specs.Token.{Piece, TokenPiece, Blank, LineEnd, Indent}
use Rattle.wgsl_text.specs.Words.{is_letter, is_word_byte, is_reserved}

abbrev pub mark_text : Mark → List ℕ
mark_text OpenParen = codes "("
mark_text CloseParen = codes ")"
mark_text OpenBracket = codes "["
mark_text CloseBracket = codes "]"
mark_text OpenBrace = codes "{"
mark_text CloseBrace = codes "}"
mark_text Comma = codes ","
mark_text Semicolon = codes ";"
mark_text Colon = codes ":"
mark_text Dot = codes "."
mark_text At = codes "@"
mark_text Equals = codes "="
mark_text LessThan = codes "<"
mark_text GreaterThan = codes ">"
mark_text Plus = codes "+"
mark_text Minus = codes "-"
mark_text Star = codes "*"
mark_text Slash = codes "/"
mark_text Percent = codes "%"
mark_text Ampersand = codes "&"
mark_text Bar = codes "|"
mark_text Caret = codes "^"
mark_text Not = codes "!"
mark_text Tilde = codes "~"
mark_text EqualsEquals = codes "=="
mark_text NotEquals = codes "!="
mark_text LessEquals = codes "<="
mark_text AndAnd = codes "&&"
mark_text BarBar = codes "||"
mark_text LessLess = codes "<<"
mark_text KeywordTrue = codes "true"
mark_text KeywordFalse = codes "false"
mark_text KeywordLet = codes "let"
mark_text KeywordVar = codes "var"
mark_text KeywordIf = codes "if"
mark_text KeywordElse = codes "else"
mark_text KeywordLoop = codes "loop"
mark_text KeywordContinuing = codes "continuing"
mark_text KeywordBreak = codes "break"
mark_text KeywordContinue = codes "continue"
mark_text KeywordSwitch = codes "switch"
mark_text KeywordCase = codes "case"
mark_text KeywordDefault = codes "default"
mark_text KeywordReturn = codes "return"
mark_text KeywordDiscard = codes "discard"
mark_text KeywordFn = codes "fn"
mark_text KeywordStruct = codes "struct"
mark_text KeywordConst = codes "const"
mark_text KeywordEnable = codes "enable"
mark_text KeywordOverride = codes "override"

abbrev pub suffix_text : Suffix → List ℕ
suffix_text NoSuffix = []
suffix_text SuffixI = codes "i"
suffix_text SuffixU = codes "u"
suffix_text SuffixLi = codes "li"
suffix_text SuffixLu = codes "lu"

abbrev pub power_text : Power → List ℕ
power_text NoPower = []
power_text (PowerOf false ds) = codes "e" ++ ds
power_text (PowerOf true ds) = codes "e-" ++ ds

abbrev pub precision_text : Precision → List ℕ
precision_text Half = codes "h"
precision_text Single = codes "f"
precision_text (Double power) = power_text power ++ codes "lf"

-- what stands after the whole part of a number of a floating-point type
abbrev pub decimal_tail : List ℕ → Precision → List ℕ
decimal_tail fraction precision = fraction_text fraction ++ precision_text precision

abbrev pub token_text : Token → List ℕ
token_text (Fixed m) = mark_text m
token_text (Word w) = w
token_text (Number false n suffix) = decimal n ++ suffix_text suffix
token_text (Number true n suffix) = codes "-" ++ (decimal n ++ suffix_text suffix)
token_text (Decimal false whole fraction precision) = whole ++ decimal_tail fraction precision
token_text (Decimal true whole fraction precision) =
    codes "-" ++ (whole ++ decimal_tail fraction precision)
token_text ZeroPointZero = codes "0.0"
token_text (Foreign b) = b ∷ []

abbrev pub text : List Piece → List ℕ
text [] = []
text (TokenPiece t ∷ pieces) = token_text t ++ text pieces
text (Blank ∷ pieces) = 32 ∷ text pieces
text (LineEnd ∷ pieces) = 10 ∷ text pieces
text (Indent n ∷ pieces) = replicate (4 * n) 32 ++ text pieces

abbrev pub tokens_in : List Piece → List Token
tokens_in [] = []
tokens_in (TokenPiece t ∷ pieces) = t ∷ tokens_in pieces
tokens_in (_ ∷ pieces) = tokens_in pieces

-- what a text begins with: a token and how many bytes it has after its first, or a blank
pub data Lexeme : Type 0 where
  Takes : Token → ℕ → Lexeme
  Skips : Lexeme

abbrev pub starts_with : ℕ → List ℕ → Bool
starts_with b [] = false
starts_with b (c ∷ bytes) = c == b

-- how many bytes of a word the bytes begin with, and how many digits
abbrev pub word_length : List ℕ → ℕ
word_length [] = 0
word_length (b ∷ bytes) = if is_word_byte b then suc (word_length bytes) else 0

abbrev pub digits_length : List ℕ → ℕ
digits_length [] = 0
digits_length (b ∷ bytes) = if is_ascii_digit b then suc (digits_length bytes) else 0

-- the words that the grammar uses; each of them is reserved
abbrev pub keywords : List Mark
keywords =
    KeywordTrue ∷ KeywordFalse ∷ KeywordLet ∷ KeywordVar ∷ KeywordIf ∷ KeywordElse ∷ KeywordLoop ∷
    KeywordContinuing ∷ KeywordBreak ∷ KeywordContinue ∷
    KeywordSwitch ∷ KeywordCase ∷ KeywordDefault ∷ KeywordReturn ∷ KeywordDiscard ∷ KeywordFn ∷
    KeywordStruct ∷ KeywordConst ∷ KeywordEnable ∷ KeywordOverride ∷ []

abbrev pub keyword_among : List Mark → List ℕ → Token
keyword_among [] w = Word w
keyword_among (m ∷ marks) w = if bytes_eq (mark_text m) w then Fixed m else keyword_among marks w

abbrev pub word_token : List ℕ → Token
word_token w = if is_reserved w then keyword_among keywords w else Word w

abbrev pub word_lexeme : ℕ → List ℕ → Lexeme
word_lexeme b bytes = Takes (word_token (b ∷ take (word_length bytes) bytes)) (word_length bytes)

-- the suffix that the bytes begin with: by what stands after an `l`, by a letter, by any byte
abbrev pub long_suffix : List ℕ → Suffix
long_suffix bytes =
    if starts_with 105 bytes then SuffixLi else (if starts_with 117 bytes then SuffixLu
    else NoSuffix)

abbrev pub letter_suffix : ℕ → List ℕ → Suffix
letter_suffix b bytes =
    if b == 105 then SuffixI else (if b == 117 then SuffixU else (if b == 108 then long_suffix bytes
    else NoSuffix))

abbrev pub suffix_at : List ℕ → Suffix
suffix_at [] = NoSuffix
suffix_at (b ∷ bytes) = if is_letter b then letter_suffix b bytes else NoSuffix

-- `.0` after a lone `0`
abbrev pub is_point_zero : List ℕ → Bool
is_point_zero [] = false
is_point_zero (b ∷ bytes) = b == 46 && starts_with 48 bytes

abbrev pub is_empty : List ℕ → Bool
is_empty [] = true
is_empty _ = false

-- a number of no floating-point type: of the digits b and ds, before the other bytes
abbrev pub whole_of : Bool → ℕ → List ℕ → List ℕ → Lexeme
whole_of negative b ds bytes =
    if is_point_zero bytes && (not negative && (b == 48 && is_empty ds))
    then Takes ZeroPointZero 2
    else Takes (Number negative (digits_value 10 (b ∷ ds)) (suffix_at bytes))
    (length (ds ++ suffix_text (suffix_at bytes)))

-- the digits after a point that the bytes begin with, and what stands after them
abbrev pub fraction_at : List ℕ → List ℕ
fraction_at [] = []
fraction_at (b ∷ bytes) = if b == 46 then take (digits_length bytes) bytes else []

abbrev pub after_fraction : List ℕ → List ℕ
after_fraction bytes = drop (length (fraction_text (fraction_at bytes))) bytes

-- the power of ten that the bytes begin with: an `e`, a `-` or none, and digits
abbrev pub digits_at : List ℕ → List ℕ
digits_at bytes = take (digits_length bytes) bytes

abbrev pub power_of_digits : Bool → List ℕ → Power
power_of_digits negative [] = NoPower
power_of_digits negative (b ∷ ds) = PowerOf negative (b ∷ ds)

abbrev pub power_after_letter : List ℕ → Power
power_after_letter [] = NoPower
power_after_letter (b ∷ bytes) =
    if b == 45 then power_of_digits true (digits_at bytes)
    else power_of_digits false (digits_at (b ∷ bytes))

abbrev pub power_at : List ℕ → Power
power_at [] = NoPower
power_at (b ∷ bytes) = if b == 101 then power_after_letter bytes else NoPower

-- what stands after it
abbrev pub after_power : List ℕ → List ℕ
after_power bytes = drop (length (power_text (power_at bytes))) bytes

-- the bytes begin with `lf`
abbrev pub starts_with_lf : List ℕ → Bool
starts_with_lf [] = false
starts_with_lf (b ∷ bytes) = b == 108 && starts_with 102 bytes

-- the bytes begin with what tells a floating-point type, and with which
abbrev pub has_precision : List ℕ → Bool
has_precision bytes =
    starts_with 104 bytes || (starts_with 102 bytes || starts_with_lf (after_power bytes))

abbrev pub precision_at : List ℕ → Precision
precision_at bytes =
    if starts_with 104 bytes then Half else (if starts_with 102 bytes then Single
    else Double (power_at bytes))

-- a number of a floating-point type, with the digits b and ds before its point
abbrev pub decimal_of : Bool → ℕ → List ℕ → (fraction : List ℕ) → Precision → Lexeme
decimal_of negative b ds fraction precision =
    Takes (Decimal negative (b ∷ ds) fraction precision)
    (length (ds ++ decimal_tail fraction precision))

-- a number of the digits b and ds, before the other bytes
abbrev pub number_of : Bool → ℕ → List ℕ → List ℕ → Lexeme
number_of negative b ds bytes =
    if has_precision (after_fraction bytes)
    then decimal_of negative b ds (fraction_at bytes) (precision_at (after_fraction bytes))
    else whole_of negative b ds bytes

abbrev pub number_lexeme : Bool → ℕ → List ℕ → Lexeme
number_lexeme negative b bytes =
    number_of negative b (take (digits_length bytes) bytes) (drop (digits_length bytes) bytes)

abbrev pub one_more : Lexeme → Lexeme
one_more (Takes t n) = Takes t (suc n)
one_more Skips = Skips

abbrev pub minus_lexeme : List ℕ → Lexeme
minus_lexeme [] = Takes (Fixed Minus) 0
minus_lexeme (b ∷ bytes) =
    if is_ascii_digit b then one_more (number_lexeme true b bytes) else Takes (Fixed Minus) 0

-- a sign that the second byte may make longer
abbrev pub sign_or : Mark → Bool → Mark → Lexeme
sign_or short b long = if b then Takes (Fixed long) 1 else Takes (Fixed short) 0

abbrev pub single : ℕ → List Mark → Lexeme
single b [] = Takes (Foreign b) 0
single b (m ∷ marks) = if bytes_eq (mark_text m) (b ∷ []) then Takes (Fixed m) 0 else single b marks

-- the signs that no second byte makes longer; `>` is always a token by itself
abbrev pub single_signs : List Mark
single_signs =
    OpenParen ∷ CloseParen ∷ OpenBracket ∷ CloseBracket ∷ OpenBrace ∷ CloseBrace ∷ Comma ∷
    Semicolon ∷ Colon ∷ Dot ∷ At ∷
    GreaterThan ∷ Plus ∷ Star ∷ Slash ∷ Percent ∷ Caret ∷ Tilde ∷ []

abbrev pub sign_lexeme : ℕ → List ℕ → Lexeme
sign_lexeme b bytes =
    if b == 61 then sign_or Equals (starts_with 61 bytes) EqualsEquals else (
    if b == 33 then sign_or Not (starts_with 61 bytes) NotEquals else (
    if b == 38 then sign_or Ampersand (starts_with 38 bytes) AndAnd else (
    if b == 124 then sign_or Bar (starts_with 124 bytes) BarBar else (
    if b == 60 then (if starts_with 61 bytes then Takes (Fixed LessEquals) 1
    else sign_or LessThan (starts_with 60 bytes) LessLess) else
    single b single_signs))))

-- the longest match at the front
abbrev pub lexeme : ℕ → List ℕ → Lexeme
lexeme b bytes =
    if is_letter b then word_lexeme b bytes else (
    if is_ascii_digit b then number_lexeme false b bytes else (
    if b == 45 then minus_lexeme bytes else (
    if b == 32 || b == 10 then Skips else sign_lexeme b bytes)))

abbrev pub following : Lexeme → (ℕ → List Token) → List Token
following (Takes t n) rest = t ∷ rest n
following Skips rest = rest 0

-- the tokens of the bytes after the first n
abbrev pub scan : List ℕ → ℕ → List Token
scan [] n = []
scan (b ∷ bytes) (suc n) = scan bytes n
scan (b ∷ bytes) zero = following (lexeme b bytes) (scan bytes)

abbrev pub tokens : List ℕ → List Token
tokens bytes = scan bytes 0
