-- What the tokenizer takes is spelled by the bytes that it takes, and is the longest front that
-- spells a token; bytes that spell a token are that token alone.
use Rattle.std.proofs.Common.{◌≡◌, ℕ, ◌<◌, ◌≤◌, suc, Bool, true, false, cond, not, ◌&&◌, List, []}
use Rattle.std.proofs.Common.{◌∷◌, ◌++◌, length, take, drop, refl, sym, ap, subst, ◌∙◌}
use Rattle.std.proofs.Common.{append_assoc, arith, ◌||◌, eqb-true}
use Rattle.std.specs.Prelude.{⊤, ◌+◌, ◌==◌, codes}
use Rattle.std.specs.Char.{is_ascii_digit}
use Rattle.std.specs.Str.{bytes_eq, all_ascii_digits}
use Rattle.std.proofs.lemmas.Bool.{false≢true, and_parts, not-true}
use Rattle.std.proofs.lemmas.List.{append-nil, length-append}
use Rattle.wgsl_text.specs.Token.{Mark, Equals, LessThan, Minus, Ampersand, Bar, Not, EqualsEquals}
use Rattle.wgsl_text.specs.Token.{NotEquals, LessEquals, AndAnd, BarBar, LessLess, KeywordTrue}
use Rattle.wgsl_text.specs.Token.{KeywordFalse, KeywordLet, KeywordVar, KeywordIf, KeywordElse}
use Rattle.wgsl_text.specs.Token.{KeywordLoop, KeywordContinuing, KeywordBreak, KeywordContinue}
use Rattle.wgsl_text.specs.Token.{KeywordSwitch, KeywordCase, KeywordDefault, KeywordReturn}
use Rattle.wgsl_text.specs.Token.{KeywordDiscard, KeywordFn, KeywordStruct, KeywordConst}
use Rattle.wgsl_text.specs.Token.{KeywordEnable, KeywordOverride, Suffix, NoSuffix, SuffixI}
use Rattle.wgsl_text.specs.Token.{SuffixU, SuffixLi, SuffixLu, Token, Fixed, Word, Number}
use Rattle.wgsl_text.specs.Token.{ZeroPointZero, Foreign, Decimal, Power, NoPower, Precision, Half}
use Rattle.wgsl_text.specs.Token.{Single, Double, AreDigits, IsPower, IsPrecision}
use Rattle.float_numerals.specs.Texts.{fraction_text}
use Rattle.wgsl_text.specs.Text.{precision_text, decimal_tail, fraction_at, power_text, power_at}
use Rattle.wgsl_text.specs.Text.{digits_at, power_of_digits, power_after_letter, after_power}
use Rattle.wgsl_text.specs.Text.{starts_with_lf, after_fraction, has_precision, precision_at}
use Rattle.wgsl_text.specs.Text.{decimal_of, whole_of, Lexeme, Takes, Skips, mark_text, suffix_text}
use Rattle.wgsl_text.specs.Text.{starts_with, word_length, digits_length, keyword_among, keywords}
use Rattle.wgsl_text.specs.Text.{word_token, word_lexeme, suffix_at, is_point_zero, is_empty}
use Rattle.wgsl_text.specs.Text.{number_of, number_lexeme, one_more, minus_lexeme, sign_or, lexeme}
use Rattle.wgsl_text.specs.Text.{following, scan, single, single_signs, sign_lexeme, tokens}
use Rattle.wgsl_text.specs.Spelling.{SpellsDecimal, decimal_text, is_sign, number_text, Spells}
use Rattle.wgsl_text.specs.Spelling.{SpellsWord, SpellsNumber, SpellsZeroPointZero, SpellsSign}
use Rattle.wgsl_text.specs.Spelling.{is_blank, Begins, AtBlank, AtToken, AtForeign}
use Rattle.wgsl_text.proofs.Text.{decimal_scan, decimal_scans, joined, when_true, when_false}
use Rattle.wgsl_text.proofs.Text.{ends_number, past, word_scans, digit_no_letter, digits_scan}
use Rattle.wgsl_text.proofs.Text.{number_scans}
use Rattle.wgsl_text.specs.Words.{is_letter, is_word_byte, all_word_bytes, is_word_text}
use Rattle.wgsl_text.specs.Words.{is_reserved}
use Rattle.std.specs.Str.Parse.{digits_value}
use Rattle.std.proofs.lemmas.Slice.Eq.{bytes_eq-Decides}
use Rattle.std.proofs.Math.Seq.{take-append_seam, drop-append_seam}

-- how many bytes after its first a lexeme has
abbrev taken : Lexeme → ℕ
taken (Takes t n) = n
taken Skips = 0

abbrev pub lexeme_of : List ℕ → Lexeme
lexeme_of [] = Skips
lexeme_of (b ∷ bytes) = lexeme b bytes

-- no foreign byte
abbrev pub IsKnown : Token → Type 0
IsKnown (Foreign b) = ⊥
IsKnown _ = ⊤

-- The lexeme takes a token of at least so many bytes.
abbrev pub AtLeast : ℕ → Lexeme → Type 0
AtLeast n (Takes t m) = IsKnown t × n ≤ suc m
AtLeast n Skips = ⊥

moved : (n : ℕ) {l m : Lexeme} → m ≡ l → AtLeast n l → AtLeast n m
moved n e a = subst (AtLeast n) (sym e) a

-- words

word_long : (w rest : List ℕ) → all_word_bytes w ≡ true → length w ≤ word_length (w ++ rest)
word_long [] rest is = omega arith
word_long (b ∷ w) rest is =
    let h = and_parts (is_word_byte b) (all_word_bytes w) is in
    let more : length w ≤ word_length (w ++ rest) = word_long w rest h.1 in
    subst (λ v. suc (length w) ≤ v) (sym (when_true 0 h.0)) (omega arith)

known_if : (c : Bool) (t u : Token) → IsKnown t → IsKnown u → IsKnown (cond c t u)
known_if true t u k l = k
known_if false t u k l = l

keyword_known : (marks : List Mark) (w : List ℕ) → IsKnown (keyword_among marks w)
keyword_known [] w = tt
keyword_known (m ∷ marks) w = known_if (bytes_eq (mark_text m) w) (Fixed m) (keyword_among marks w) tt
    (keyword_known marks w)

word_known : (w : List ℕ) → IsKnown (word_token w)
word_known w = known_if (is_reserved w) (keyword_among keywords w) (Word w) (keyword_known keywords w) tt

word_at_least : (w rest : List ℕ) → is_word_text w ≡ true → AtLeast (length w) (lexeme_of (w ++ rest))
word_at_least [] rest is = absurd (false≢true is)
word_at_least (b ∷ w) rest is =
    let h = and_parts (is_letter b) (all_word_bytes w) is in
    let more : length w ≤ word_length (w ++ rest) = word_long w rest h.1 in
    moved (suc (length w)) {l = word_lexeme b (w ++ rest)} (when_true _ h.0)
    (word_known (b ∷ take (word_length (w ++ rest)) (w ++ rest)), omega arith)

-- numbers

digits_taken : (ds rest : List ℕ) → all_ascii_digits ds ≡ true → take (digits_length (ds ++ rest)) (ds ++ rest)
    ≡ ds ++ take (digits_length rest) rest
digits_taken [] rest is = refl
digits_taken (d ∷ ds) rest is =
    let h = and_parts (is_ascii_digit d) (all_ascii_digits ds) is in
    ap (λ n. take n (d ∷ (ds ++ rest))) (when_true 0 h.0) ∙ ap (λ v. d ∷ v) (digits_taken ds rest h.1)

digits_dropped : (ds rest : List ℕ) → all_ascii_digits ds ≡ true →
    drop (digits_length (ds ++ rest)) (ds ++ rest) ≡ drop (digits_length rest) rest
digits_dropped [] rest is = refl
digits_dropped (d ∷ ds) rest is =
    let h = and_parts (is_ascii_digit d) (all_ascii_digits ds) is in
    ap (λ n. drop n (d ∷ (ds ++ rest))) (when_true 0 h.0) ∙ digits_dropped ds rest h.1

and_last_false : (a b c d : Bool) → d ≡ false → (a && (b && (c && d))) ≡ false
and_last_false false b c d e = refl
and_last_false true false c d e = refl
and_last_false true true false d e = refl
and_last_false true true true d e = e

at_least_if : (n : ℕ) (c : Bool) (l m : Lexeme) → AtLeast n l → AtLeast n m → AtLeast n (cond c l m)
at_least_if n true l m a b = a
at_least_if n false l m a b = b

-- digits that more may follow
whole_at_least : (negative : Bool) (b : ℕ) (ds more bytes : List ℕ) →
    AtLeast (suc (length ds)) (whole_of negative b (ds ++ more) bytes)
whole_at_least negative b [] more bytes =
    at_least_if 1 (is_point_zero bytes && (not negative && (b == 48 && is_empty more))) _ _ (tt, omega arith)
    (tt, omega arith)
whole_at_least negative b (d ∷ ds) more bytes =
    let tail = suffix_text (suffix_at bytes) in
    let whole : length ((ds ++ more) ++ tail) ≡ length (ds ++ more) + length tail = length-append (ds ++ more) tail in
    let digits : length (ds ++ more) ≡ length ds + length more = length-append ds more in
    moved (suc (suc (length ds)))
    (when_false _ (and_last_false (is_point_zero bytes) (not negative) (b == 48) false refl)) (tt, omega arith)

digits_at_least : (negative : Bool) (b : ℕ) (ds more bytes : List ℕ) →
    AtLeast (suc (length ds)) (number_of negative b (ds ++ more) bytes)
digits_at_least negative b ds more bytes =
    let tail = decimal_tail (fraction_at bytes) (precision_at (after_fraction bytes)) in
    let whole : length ((ds ++ more) ++ tail) ≡ length (ds ++ more) + length tail = length-append (ds ++ more) tail in
    let digits : length (ds ++ more) ≡ length ds + length more = length-append ds more in
    at_least_if (suc (length ds)) (has_precision (after_fraction bytes)) _ _ (tt, omega arith)
    (whole_at_least negative b ds more bytes)

number_at_least : (negative : Bool) (b : ℕ) (ds : List ℕ) (suffix : Suffix) (rest : List ℕ) →
    all_ascii_digits ds ≡ true →
    AtLeast (suc (length (ds ++ suffix_text suffix)))
    (number_lexeme negative b (ds ++ (suffix_text suffix ++ rest)))
number_at_least negative b ds NoSuffix rest is =
    let found : number_lexeme negative b (ds ++ rest)
    ≡ number_of negative b (ds ++ take (digits_length rest) rest) (drop (digits_length rest) rest) =
    ap (λ v. number_of negative b v (drop (digits_length (ds ++ rest)) (ds ++ rest))) (digits_taken ds rest is)
    ∙ ap (λ v. number_of negative b (ds ++ take (digits_length rest) rest) v) (digits_dropped ds rest is) in
    subst (λ v. AtLeast (suc (length v)) (number_lexeme negative b (ds ++ rest))) (sym (append-nil ds))
    (moved (suc (length ds)) found (digits_at_least negative b ds (take (digits_length rest) rest)
    (drop (digits_length rest) rest)))
number_at_least negative b ds SuffixI rest is = moved (suc (length (ds ++ suffix_text SuffixI)))
    (digits_scan negative b ds SuffixI rest is refl) (tt, omega arith)
number_at_least negative b ds SuffixU rest is = moved (suc (length (ds ++ suffix_text SuffixU)))
    (digits_scan negative b ds SuffixU rest is refl) (tt, omega arith)
number_at_least negative b ds SuffixLi rest is = moved (suc (length (ds ++ suffix_text SuffixLi)))
    (digits_scan negative b ds SuffixLi rest is refl) (tt, omega arith)
number_at_least negative b ds SuffixLu rest is = moved (suc (length (ds ++ suffix_text SuffixLu)))
    (digits_scan negative b ds SuffixLu rest is refl) (tt, omega arith)

one_more_at_least : (n : ℕ) (l : Lexeme) → AtLeast n l → AtLeast (suc n) (one_more l)
one_more_at_least n (Takes t m) a = (a.0, omega arith)
one_more_at_least n Skips a = absurd a

number_front : (negative : Bool) (ds : List ℕ) (suffix : Suffix) (rest : List ℕ) → 0 < length ds →
    all_ascii_digits ds ≡ true →
    AtLeast (length (number_text negative ds suffix))
    (lexeme_of (number_text negative ds suffix ++ rest))
number_front negative [] suffix rest some is = absurd (omega arith)
number_front false (b ∷ ds) suffix rest some is =
    let h = and_parts (is_ascii_digit b) (all_ascii_digits ds) is in
    subst (λ v. AtLeast (suc (length (ds ++ suffix_text suffix))) (lexeme b v))
    (sym (append_assoc ds (suffix_text suffix) rest))
    (moved (suc (length (ds ++ suffix_text suffix))) {l =
    number_lexeme false b (ds ++ (suffix_text suffix ++ rest))}
    (when_false _ (digit_no_letter b h.0) ∙ when_true _ h.0)
    (number_at_least false b ds suffix rest h.1))
number_front true (b ∷ ds) suffix rest some is =
    let h = and_parts (is_ascii_digit b) (all_ascii_digits ds) is in
    let n = suc (length (ds ++ suffix_text suffix)) in
    subst (λ v. AtLeast (suc n) (minus_lexeme (b ∷ v))) (sym (append_assoc ds (suffix_text suffix) rest))
    (moved (suc n) {l = one_more (number_lexeme true b (ds ++ (suffix_text suffix ++ rest)))} (when_true _ h.0)
    (one_more_at_least n _ (number_at_least true b ds suffix rest h.1)))

decimal_front : (negative : Bool) (whole fraction : List ℕ) (precision : Precision) (rest : List ℕ) → AreDigits whole →
    all_ascii_digits fraction ≡ true → IsPrecision precision →
    AtLeast (length (decimal_text negative whole fraction precision))
    (lexeme_of (decimal_text negative whole fraction precision ++ rest))
decimal_front negative [] fraction precision rest are tail_is power_is = absurd (omega (arith, are.some))
decimal_front false (b ∷ ds) fraction precision rest are tail_is power_is =
    let h = and_parts (is_ascii_digit b) (all_ascii_digits ds) are.digits in
    let n = suc (length (ds ++ decimal_tail fraction precision)) in
    subst (λ v. AtLeast n (lexeme b v)) (joined ds fraction precision rest)
    (moved n (when_false _ (digit_no_letter b h.0) ∙ when_true _ h.0
    ∙ decimal_scan false b ds fraction precision rest h.1 tail_is power_is) (tt, omega arith))
decimal_front true (b ∷ ds) fraction precision rest are tail_is power_is =
    let h = and_parts (is_ascii_digit b) (all_ascii_digits ds) are.digits in
    let n = suc (suc (length (ds ++ decimal_tail fraction precision))) in
    subst (λ v. AtLeast n (minus_lexeme (b ∷ v))) (joined ds fraction precision rest)
    (moved n (when_true _ h.0
    ∙ ap one_more (decimal_scan true b ds fraction precision rest h.1 tail_is power_is)) (tt, omega arith))

-- signs

one_less : (n : ℕ) (l : Lexeme) → AtLeast (suc n) l → AtLeast n l
one_less n (Takes t m) a = (a.0, omega arith)
one_less n Skips a = absurd a

-- a sign that a second one may make longer
sign_or_at_least : (short long : Mark) (c : Bool) → AtLeast 1 (sign_or short c long)
sign_or_at_least short long true = (tt, omega arith)
sign_or_at_least short long false = (tt, omega arith)

minus_at_least : (rest : List ℕ) → AtLeast 1 (minus_lexeme rest)
minus_at_least [] = (tt, omega arith)
minus_at_least (b ∷ rest) =
    at_least_if 1 (is_ascii_digit b) _ _ (one_less 1 (one_more (number_lexeme true b rest))
    (one_more_at_least 1 _ (digits_at_least true b [] (take (digits_length rest) rest)
    (drop (digits_length rest) rest)))) (tt, omega arith)

sign_at_least : (m : Mark) → is_sign m ≡ true → (rest : List ℕ) →
    AtLeast (length (mark_text m)) (lexeme_of (mark_text m ++ rest))
sign_at_least KeywordTrue is rest = absurd (false≢true is)
sign_at_least KeywordFalse is rest = absurd (false≢true is)
sign_at_least KeywordLet is rest = absurd (false≢true is)
sign_at_least KeywordVar is rest = absurd (false≢true is)
sign_at_least KeywordIf is rest = absurd (false≢true is)
sign_at_least KeywordElse is rest = absurd (false≢true is)
sign_at_least KeywordLoop is rest = absurd (false≢true is)
sign_at_least KeywordContinuing is rest = absurd (false≢true is)
sign_at_least KeywordBreak is rest = absurd (false≢true is)
sign_at_least KeywordContinue is rest = absurd (false≢true is)
sign_at_least KeywordSwitch is rest = absurd (false≢true is)
sign_at_least KeywordCase is rest = absurd (false≢true is)
sign_at_least KeywordDefault is rest = absurd (false≢true is)
sign_at_least KeywordReturn is rest = absurd (false≢true is)
sign_at_least KeywordDiscard is rest = absurd (false≢true is)
sign_at_least KeywordFn is rest = absurd (false≢true is)
sign_at_least KeywordStruct is rest = absurd (false≢true is)
sign_at_least KeywordConst is rest = absurd (false≢true is)
sign_at_least KeywordEnable is rest = absurd (false≢true is)
sign_at_least KeywordOverride is rest = absurd (false≢true is)
sign_at_least Equals is rest = sign_or_at_least Equals EqualsEquals (starts_with 61 rest)
sign_at_least Not is rest = sign_or_at_least Not NotEquals (starts_with 61 rest)
sign_at_least Ampersand is rest = sign_or_at_least Ampersand AndAnd (starts_with 38 rest)
sign_at_least Bar is rest = sign_or_at_least Bar BarBar (starts_with 124 rest)
sign_at_least LessThan is rest = at_least_if 1 (starts_with 61 rest) _ _ (tt, omega arith)
    (sign_or_at_least LessThan LessLess (starts_with 60 rest))
sign_at_least Minus is rest = minus_at_least rest
sign_at_least _ is rest = (tt, omega arith)

pub longest : (other : List ℕ) (u : Token) → Spells other u → (rest : List ℕ) →
    AtLeast (length other) (lexeme_of (other ++ rest))
longest _ _ (SpellsWord w is) rest = word_at_least w rest is
longest _ _ (SpellsNumber negative ds suffix some is) rest = number_front negative ds suffix rest some is
longest _ _ (SpellsDecimal negative whole fraction precision are tail_is power_is) rest =
    decimal_front negative whole fraction precision rest are tail_is power_is
longest _ _ SpellsZeroPointZero rest =
    at_least_if 3 (has_precision (after_fraction (46 ∷ 48 ∷ rest)))
    (decimal_of false 48 [] (fraction_at (46 ∷ 48 ∷ rest)) (precision_at (after_fraction (46 ∷ 48 ∷ rest))))
    (Takes ZeroPointZero 2) (tt, omega arith) (tt, omega arith)
longest _ _ (SpellsSign m is) rest = sign_at_least m is rest

-- What is taken is spelled by the bytes that are taken.

-- what the lexeme at the front of these bytes takes
data Answer (b : ℕ) (bytes : List ℕ) (l : Lexeme) : Type 0 where
  Skipped : is_blank b ≡ true → l ≡ Skips → Answer b bytes l
  Spelled : (front rest : List ℕ) (t : Token) → bytes ≡ front ++ rest → Spells (b ∷ front) t →
      l ≡ Takes t (length front) → Answer b bytes l
  Unknown : is_blank b ≡ false → l ≡ Takes (Foreign b) 0 → Answer b bytes l

choose : {b : ℕ} {bytes : List ℕ} (c : Bool) (l m : Lexeme) → (c ≡ true → Answer b bytes l) →
    (c ≡ false → Answer b bytes m) → Answer b bytes (cond c l m)
choose true l m yes_ no_ = yes_ refl
choose false l m yes_ no_ = no_ refl

answer_at : {b : ℕ} {bytes : List ℕ} {l m : Lexeme} → m ≡ l → Answer b bytes l → Answer b bytes m
answer_at {b} {bytes} e a = subst (Answer b bytes) (sym e) a

-- words

record WordFront (bytes : List ℕ) : Type 0 where
  front : List ℕ
  rest : List ℕ
  whole : bytes ≡ front ++ rest
  word : all_word_bytes front ≡ true
  count : word_length bytes ≡ length front

word_front : (bytes : List ℕ) → WordFront bytes
word_front [] = record { front = []; rest = []; whole = refl; word = refl; count = refl }
word_front (b ∷ bytes) = longer (is_word_byte b) refl (word_front bytes)
  where
    longer : (c : Bool) → is_word_byte b ≡ c → WordFront bytes → WordFront (b ∷ bytes)
    longer true e f = record {
      front = b ∷ f.front;
      rest = f.rest;
      whole = ap (λ v. b ∷ v) f.whole;
      word = ap (λ v. v && all_word_bytes f.front) e ∙ f.word;
      count = when_true 0 e ∙ ap suc f.count;
    }
    longer false e f = record {
      front = [];
      rest = b ∷ bytes;
      whole = refl;
      word = refl;
      count = when_false (suc (word_length bytes)) e;
    }

word_answer : (b : ℕ) (bytes : List ℕ) → is_letter b ≡ true → Answer b bytes (word_lexeme b bytes)
word_answer b bytes letter =
    let f = word_front bytes in
    let found : take (word_length bytes) bytes ≡ f.front = ap (λ n. take n bytes) f.count
    ∙ ap (take (length f.front)) f.whole ∙ take-append_seam f.front f.rest in
    Spelled f.front f.rest (word_token (b ∷ f.front)) f.whole
    (SpellsWord (b ∷ f.front) (ap (λ v. v && all_word_bytes f.front) letter ∙ f.word))
    (ap (λ v. Takes (word_token (b ∷ v)) (word_length bytes)) found ∙ ap (Takes (word_token (b ∷ f.front))) f.count)

-- numbers

record DigitFront (bytes : List ℕ) : Type 0 where
  front : List ℕ
  rest : List ℕ
  whole : bytes ≡ front ++ rest
  digits : all_ascii_digits front ≡ true
  count : digits_length bytes ≡ length front

digit_front : (bytes : List ℕ) → DigitFront bytes
digit_front [] = record { front = []; rest = []; whole = refl; digits = refl; count = refl }
digit_front (b ∷ bytes) = longer (is_ascii_digit b) refl (digit_front bytes)
  where
    longer : (c : Bool) → is_ascii_digit b ≡ c → DigitFront bytes → DigitFront (b ∷ bytes)
    longer true e f = record {
      front = b ∷ f.front;
      rest = f.rest;
      whole = ap (λ v. b ∷ v) f.whole;
      digits = ap (λ v. v && all_ascii_digits f.front) e ∙ f.digits;
      count = when_true 0 e ∙ ap suc f.count;
    }
    longer false e f = record {
      front = [];
      rest = b ∷ bytes;
      whole = refl;
      digits = refl;
      count = when_false (suc (digits_length bytes)) e;
    }

starts : (c : ℕ) (bytes : List ℕ) → starts_with c bytes ≡ true → (rest : List ℕ) × (bytes ≡ c ∷ rest)
starts c [] e = absurd (false≢true e)
starts c (b ∷ bytes) e = (bytes, ap (λ v. v ∷ bytes) (eqb-true b c e))

-- the bytes begin with the suffix
abbrev SuffixFront : List ℕ → Suffix → Type 0
SuffixFront bytes s = (rest : List ℕ) × (bytes ≡ suffix_text s ++ rest)

pick : (bytes : List ℕ) (c : Bool) (s s' : Suffix) → (c ≡ true → SuffixFront bytes s) → SuffixFront bytes s' →
    SuffixFront bytes (cond c s s')
pick bytes true s s' a b = a refl
pick bytes false s s' a b = b

suffix_front : (bytes : List ℕ) → SuffixFront bytes (suffix_at bytes)
suffix_front [] = ([], refl)
suffix_front (b ∷ bytes) =
    let none : SuffixFront (b ∷ bytes) NoSuffix = (b ∷ bytes, refl) in
    pick _ (is_letter b) _ _ (λ _.
    pick _ (b == 105) _ _ (λ e. (bytes, ap (λ v. v ∷ bytes) (eqb-true b 105 e)))
    (pick _ (b == 117) _ _ (λ e. (bytes, ap (λ v. v ∷ bytes) (eqb-true b 117 e)))
    (pick _ (b == 108) _ _ (λ e.
    pick _ (starts_with 105 bytes) _ _ (λ f. let s = starts 105 bytes f in
    (s.0, ap (λ v. v ∷ bytes) (eqb-true b 108 e) ∙ ap (λ v. 108 ∷ v) s.1))
    (pick _ (starts_with 117 bytes) _ _ (λ f. let s = starts 117 bytes f in
    (s.0, ap (λ v. v ∷ bytes) (eqb-true b 108 e) ∙ ap (λ v. 108 ∷ v) s.1)) none))
    none))) none

-- what a number that begins with the digit b is
data NumberFront (negative : Bool) (b : ℕ) (bytes : List ℕ) (l : Lexeme) : Type 0 where
  PointZero : negative ≡ false → b ≡ 48 → (rest : List ℕ) → bytes ≡ 46 ∷ 48 ∷ rest → l ≡ Takes ZeroPointZero 2 →
      NumberFront negative b bytes l
  Decimals : (ds fraction rest : List ℕ) (precision : Precision) → all_ascii_digits ds ≡ true →
      all_ascii_digits fraction ≡ true → IsPrecision precision →
      bytes ≡ (ds ++ decimal_tail fraction precision) ++ rest →
      l ≡ decimal_of negative b ds fraction precision → NumberFront negative b bytes l
  Digits : (ds rest : List ℕ) (suffix : Suffix) → all_ascii_digits ds ≡ true →
      bytes ≡ (ds ++ suffix_text suffix) ++ rest →
      l ≡ Takes (Number negative (digits_value 10 (b ∷ ds)) suffix)
      (length (ds ++ suffix_text suffix)) → NumberFront negative b bytes l

no_more : (ds : List ℕ) → is_empty ds ≡ true → ds ≡ []
no_more [] e = refl
no_more (d ∷ ds) e = absurd (false≢true e)

point_zero : (bytes : List ℕ) → is_point_zero bytes ≡ true → (rest : List ℕ) × (bytes ≡ 46 ∷ 48 ∷ rest)
point_zero [] e = absurd (false≢true e)
point_zero (b ∷ bytes) e =
    let h = and_parts (b == 46) (starts_with 48 bytes) e in
    let s = starts 48 bytes h.1 in
    (s.0, ap (λ v. v ∷ bytes) (eqb-true b 46 h.0) ∙ ap (λ v. 46 ∷ v) s.1)

-- a fraction at the front of bytes, after it a power of ten, and the letters of a type

record FractionFront (bytes : List ℕ) : Type 0 where
  digits : all_ascii_digits (fraction_at bytes) ≡ true
  whole : bytes ≡ fraction_text (fraction_at bytes) ++ after_fraction bytes

split : (front rest bytes : List ℕ) → bytes ≡ front ++ rest → 46 ∷ bytes ≡ fraction_text front
    ++ drop (length (fraction_text front)) (46 ∷ bytes)
split [] rest bytes e = refl
split (d ∷ ds) rest bytes e =
    ap (λ v. 46 ∷ v) (e
    ∙ ap (λ v. (d ∷ ds) ++ v) (sym (ap (drop (length (d ∷ ds))) e ∙ drop-append_seam (d ∷ ds) rest)))

fraction_front : (bytes : List ℕ) → FractionFront bytes
fraction_front [] = record { digits = refl; whole = refl }
fraction_front (b ∷ bytes) = by (b == 46) refl
  where
    by : (c : Bool) → (b == 46) ≡ c → FractionFront (b ∷ bytes)
    by true e =
        let f = digit_front bytes in
        let found : fraction_at (b ∷ bytes) ≡ f.front =
        when_true _ e ∙ (ap (λ n. take n bytes) f.count ∙ ap (take (length f.front)) f.whole
        ∙ take-append_seam f.front f.rest) in
        record {
          digits = ap all_ascii_digits found ∙ f.digits;
          whole =
              subst (λ v. b ∷ bytes ≡ fraction_text v ++ drop (length (fraction_text v)) (b ∷ bytes)) (sym found)
              (subst (λ c. c ∷ bytes ≡ fraction_text f.front ++ drop (length (fraction_text f.front))
              (c ∷ bytes)) (sym (eqb-true b 46 e))
              (split f.front f.rest bytes f.whole));
        }
    by false e =
        let found : fraction_at (b ∷ bytes) ≡ [] = when_false _ e in
        record {
          digits = ap all_ascii_digits found;
          whole = subst (λ v. b ∷ bytes ≡ fraction_text v ++ drop (length (fraction_text v)) (b ∷ bytes))
              (sym found) refl;
        }

power_of_digits_is : (negative : Bool) (ds : List ℕ) → all_ascii_digits ds ≡ true →
    IsPower (power_of_digits negative ds)
power_of_digits_is negative [] is = tt
power_of_digits_is negative (d ∷ ds) is = record { some = omega arith; digits = is }

-- an `e` and these bytes begin with the power
abbrev IsAtFront : List ℕ → Power → Type 0
IsAtFront bytes p = 101 ∷ bytes ≡ power_text p ++ drop (length (power_text p)) (101 ∷ bytes)

power_split : (negative : Bool) (front rest bytes : List ℕ) → bytes ≡ cond negative (codes "-") []
    ++ (front ++ rest) → IsAtFront bytes (power_of_digits negative front)
power_split negative [] rest bytes e = refl
power_split false (d ∷ ds) rest bytes e =
    ap (λ v. 101 ∷ v) (e
    ∙ ap (λ v. (d ∷ ds) ++ v) (sym (ap (drop (length (d ∷ ds))) e ∙ drop-append_seam (d ∷ ds) rest)))
power_split true (d ∷ ds) rest bytes e =
    ap (λ v. 101 ∷ v) (e ∙ ap (λ v. (45 ∷ d ∷ ds) ++ v)
    (sym (ap (drop (length (45 ∷ d ∷ ds))) e ∙ drop-append_seam (45 ∷ d ∷ ds) rest)))

-- the digits at the front of bytes
digits_front : (bytes : List ℕ) → (rest : List ℕ) × (bytes ≡ digits_at bytes ++ rest)
    × (all_ascii_digits (digits_at bytes) ≡ true)
digits_front bytes =
    let f = digit_front bytes in
    let found : digits_at bytes ≡ f.front = ap (λ n. take n bytes) f.count ∙ ap (take (length f.front)) f.whole
    ∙ take-append_seam f.front f.rest in
    (f.rest, f.whole ∙ ap (λ v. v ++ f.rest) (sym found), ap all_ascii_digits found ∙ f.digits)

letter_front : (bytes : List ℕ) → IsAtFront bytes (power_after_letter bytes) × IsPower (power_after_letter bytes)
letter_front [] = (refl, tt)
letter_front (b ∷ bytes) = by (b == 45) refl
  where
    by : (c : Bool) → (b == 45) ≡ c →
        let p = cond c (power_of_digits true (digits_at bytes)) (power_of_digits false (digits_at (b ∷ bytes))) in
        IsAtFront (b ∷ bytes) p × IsPower p
    by true e =
        let f = digits_front bytes in (
          power_split true (digits_at bytes) f.0 (b ∷ bytes)
              (ap (λ v. v ∷ bytes) (eqb-true b 45 e) ∙ ap (λ v. 45 ∷ v) f.1),
          power_of_digits_is true (digits_at bytes) f.2,
        )
    by false e =
        let f = digits_front (b ∷ bytes) in (
          power_split false (digits_at (b ∷ bytes)) f.0 (b ∷ bytes) f.1,
          power_of_digits_is false (digits_at (b ∷ bytes)) f.2,
        )

power_front : (bytes : List ℕ) → (bytes ≡ power_text (power_at bytes) ++ after_power bytes) × IsPower (power_at bytes)
power_front [] = (refl, tt)
power_front (b ∷ bytes) = by (b == 101) refl
  where
    by : (c : Bool) → (b == 101) ≡ c →
        let p = cond c (power_after_letter bytes) NoPower in
        (b ∷ bytes ≡ power_text p ++ drop (length (power_text p)) (b ∷ bytes)) × IsPower p
    by true e =
        let l = letter_front bytes in
        let p = power_after_letter bytes in (
          subst (λ c. c ∷ bytes ≡ power_text p ++ drop (length (power_text p)) (c ∷ bytes))
              (sym (eqb-true b 101 e)) l.0,
          l.1,
        )
    by false e = (refl, tt)

starts_lf : (bytes : List ℕ) → starts_with_lf bytes ≡ true → (rest : List ℕ) × (bytes ≡ 108 ∷ 102 ∷ rest)
starts_lf [] e = absurd (false≢true e)
starts_lf (b ∷ bytes) e =
    let h = and_parts (b == 108) (starts_with 102 bytes) e in
    let s = starts 102 bytes h.1 in
    (s.0, ap (λ v. v ∷ bytes) (eqb-true b 108 h.0) ∙ ap (λ v. 108 ∷ v) s.1)

abbrev PrecisionFront : List ℕ → Precision → Type 0
PrecisionFront bytes p = (rest : List ℕ) × (bytes ≡ precision_text p ++ rest) × IsPrecision p

precision_front : (bytes : List ℕ) → has_precision bytes ≡ true → PrecisionFront bytes (precision_at bytes)
precision_front bytes e = by (starts_with 104 bytes) (starts_with 102 bytes) refl refl
  where
    by : (c d : Bool) → starts_with 104 bytes ≡ c → starts_with 102 bytes ≡ d →
        PrecisionFront bytes (cond c Half (cond d Single (Double (power_at bytes))))
    by true d f g = let s = starts 104 bytes f in (s.0, s.1, tt)
    by false true f g = let s = starts 102 bytes g in (s.0, s.1, tt)
    by false false f g =
        let p = power_front bytes in
        let l = starts_lf (after_power bytes)
        (ap (λ c. c || starts_with_lf (after_power bytes)) (sym g)
        ∙ ap (λ c. c || (starts_with 102 bytes || starts_with_lf (after_power bytes))) (sym f) ∙ e) in (
          l.0,
          p.0 ∙ ap (λ v. power_text (power_at bytes) ++ v) l.1
              ∙ sym (append_assoc (power_text (power_at bytes)) (codes "lf") l.0),
          p.1,
        )

number_of_digits : (negative : Bool) (b : ℕ) (bytes ds rest : List ℕ) → all_ascii_digits ds ≡ true →
    bytes ≡ ds ++ rest → NumberFront negative b bytes (number_of negative b ds rest)
number_of_digits negative b bytes ds rest is whole = floating_or (has_precision (after_fraction rest)) refl
  where
    s : SuffixFront rest (suffix_at rest)
    s = suffix_front rest

    zero_or : (c : Bool) → (is_point_zero rest && (not negative && (b == 48 && is_empty ds))) ≡ c →
        NumberFront negative b bytes
        (cond c (Takes ZeroPointZero 2)
        (Takes (Number negative (digits_value 10 (b ∷ ds)) (suffix_at rest))
        (length (ds ++ suffix_text (suffix_at rest)))))
    zero_or true e =
        let h = and_parts (is_point_zero rest) (not negative && (b == 48 && is_empty ds)) e in
        let i = and_parts (not negative) (b == 48 && is_empty ds) h.1 in
        let j = and_parts (b == 48) (is_empty ds) i.1 in
        let p = point_zero rest h.0 in
        PointZero (not-true negative i.0) (eqb-true b 48 j.0) p.0
        (whole ∙ (ap (λ v. v ++ rest) (no_more ds j.1) ∙ p.1)) refl
    zero_or false e = Digits ds s.0 (suffix_at rest) is (whole
        ∙ (ap (λ v. ds ++ v) s.1 ∙ sym (append_assoc ds (suffix_text (suffix_at rest)) s.0))) refl

    floating_or : (c : Bool) → has_precision (after_fraction rest) ≡ c →
        NumberFront negative b bytes
        (cond c (decimal_of negative b ds (fraction_at rest) (precision_at (after_fraction rest)))
        (whole_of negative b ds rest))
    floating_or true e =
        let f = fraction_front rest in
        let p = precision_front (after_fraction rest) e in
        Decimals ds (fraction_at rest) p.0 (precision_at (after_fraction rest)) is f.digits p.2
        (whole ∙ ap (λ v. ds ++ v) (f.whole ∙ ap (λ v. fraction_text (fraction_at rest) ++ v) p.1)
        ∙ joined ds (fraction_at rest) (precision_at (after_fraction rest)) p.0) refl
    floating_or false e = zero_or (is_point_zero rest && (not negative && (b == 48 && is_empty ds))) refl

number_at_front : (negative : Bool) (b : ℕ) (bytes : List ℕ) →
    NumberFront negative b bytes (number_lexeme negative b bytes)
number_at_front negative b bytes =
    let f = digit_front bytes in
    let taken : take (digits_length bytes) bytes ≡ f.front = ap (λ n. take n bytes) f.count
    ∙ ap (take (length f.front)) f.whole ∙ take-append_seam f.front f.rest in
    let left : drop (digits_length bytes) bytes ≡ f.rest = ap (λ n. drop n bytes) f.count
    ∙ ap (drop (length f.front)) f.whole ∙ drop-append_seam f.front f.rest in
    subst (NumberFront negative b bytes)
    (sym (ap (λ v. number_of negative b v (drop (digits_length bytes) bytes)) taken
    ∙ ap (λ v. number_of negative b f.front v) left))
    (number_of_digits negative b bytes f.front f.rest f.digits f.whole)

all_digits : (b : ℕ) (ds : List ℕ) → is_ascii_digit b ≡ true → all_ascii_digits ds ≡ true →
    all_ascii_digits (b ∷ ds) ≡ true
all_digits b ds digit is = ap (λ v. v && all_ascii_digits ds) digit ∙ is

number_answer : (b : ℕ) (bytes : List ℕ) → is_ascii_digit b ≡ true → Answer b bytes (number_lexeme false b bytes)
number_answer b bytes digit = elim (number_at_front false b bytes) [
  | PointZero positive zero_ rest whole l ↦ Spelled (46 ∷ 48 ∷ []) rest ZeroPointZero whole
      (subst (λ v. Spells (v ∷ 46 ∷ 48 ∷ []) ZeroPointZero) (sym zero_) SpellsZeroPointZero) l
  | Decimals ds fraction rest precision is tail_is power_is whole l ↦
      Spelled (ds ++ decimal_tail fraction precision) rest (Decimal false (b ∷ ds) fraction precision) whole
      (SpellsDecimal false (b ∷ ds) fraction precision
      (record { some = omega arith; digits = all_digits b ds digit is }) tail_is power_is) l
  | Digits ds rest suffix is whole l ↦
      Spelled (ds ++ suffix_text suffix) rest (Number false (digits_value 10 (b ∷ ds)) suffix) whole
      (SpellsNumber false (b ∷ ds) suffix (omega arith) (all_digits b ds digit is)) l
]

minus_sign : (bytes : List ℕ) → Answer 45 bytes (Takes (Fixed Minus) 0)
minus_sign bytes = Spelled [] bytes (Fixed Minus) refl (SpellsSign Minus refl) refl

minus_answer : (bytes : List ℕ) → Answer 45 bytes (minus_lexeme bytes)
minus_answer [] = minus_sign []
minus_answer (b ∷ bytes) =
    choose (is_ascii_digit b) _ _ (λ digit. negative_number digit (number_at_front true b bytes))
    (λ _. minus_sign (b ∷ bytes))
  where
    negative_number : is_ascii_digit b ≡ true → NumberFront true b bytes (number_lexeme true b bytes) →
        Answer 45 (b ∷ bytes) (one_more (number_lexeme true b bytes))
    negative_number digit f = elim f [
      | PointZero positive zero_ rest whole l ↦ absurd (false≢true (sym positive))
      | Decimals ds fraction rest precision is tail_is power_is whole l ↦
          Spelled (b ∷ (ds ++ decimal_tail fraction precision)) rest (Decimal true (b ∷ ds) fraction precision)
          (ap (λ v. b ∷ v) whole)
          (SpellsDecimal true (b ∷ ds) fraction precision
          (record { some = omega arith; digits = all_digits b ds digit is }) tail_is power_is) (ap one_more l)
      | Digits ds rest suffix is whole l ↦
          Spelled (b ∷ (ds ++ suffix_text suffix)) rest
          (Number true (digits_value 10 (b ∷ ds)) suffix) (ap (λ v. b ∷ v) whole)
          (SpellsNumber true (b ∷ ds) suffix (omega arith) (all_digits b ds digit is))
          (ap one_more l)
    ]

-- signs

sign_or_answer : (short long : Mark) (b x : ℕ) → is_sign short ≡ true → is_sign long ≡ true →
    mark_text short ≡ b ∷ [] → mark_text long ≡ b ∷ x ∷ [] →
    (bytes : List ℕ) → Answer b bytes (sign_or short (starts_with x bytes) long)
sign_or_answer short long b x s l e f bytes =
    choose (starts_with x bytes) _ _
    (λ next. let r = starts x bytes next in Spelled (x ∷ []) r.0 (Fixed long) r.1
    (subst (λ v. Spells v (Fixed long)) f (SpellsSign long l)) refl)
    (λ _. Spelled [] bytes (Fixed short) refl (subst (λ v. Spells v (Fixed short)) e (SpellsSign short s)) refl)

less_answer : (bytes : List ℕ) → Answer 60 bytes (cond (starts_with 61 bytes) (Takes (Fixed LessEquals) 1)
    (sign_or LessThan (starts_with 60 bytes) LessLess))
less_answer bytes =
    choose (starts_with 61 bytes) _ _
    (λ next. let r = starts 61 bytes next in Spelled (61 ∷ []) r.0 (Fixed LessEquals) r.1
    (SpellsSign LessEquals refl) refl)
    (λ _. sign_or_answer LessThan LessLess 60 60 refl refl refl refl bytes)

abbrev all_signs : List Mark → Bool
all_signs [] = true
all_signs (m ∷ marks) = is_sign m && all_signs marks

single_answer : (b : ℕ) (bytes : List ℕ) (marks : List Mark) → all_signs marks ≡ true → is_blank b ≡ false →
    Answer b bytes (single b marks)
single_answer b bytes [] signs plain = Unknown plain refl
single_answer b bytes (m ∷ marks) signs plain =
    let h = and_parts (is_sign m) (all_signs marks) signs in
    choose (bytes_eq (mark_text m) (b ∷ [])) _ _
    (λ same. Spelled [] bytes (Fixed m) refl
    (subst (λ v. Spells v (Fixed m)) ((bytes_eq-Decides (mark_text m) (b ∷ [])).0 same) (SpellsSign m h.0)) refl)
    (λ _. single_answer b bytes marks h.1 plain)

-- the answer at a byte that is known
known : {b : ℕ} (c : ℕ) {bytes : List ℕ} {l : Lexeme} → (b == c) ≡ true → Answer c bytes l → Answer b bytes l
known {b} c {bytes} {l} e a = subst (λ v. Answer v bytes l) (sym (eqb-true b c e)) a

sign_answer : (b : ℕ) (bytes : List ℕ) → is_blank b ≡ false → Answer b bytes (sign_lexeme b bytes)
sign_answer b bytes plain =
    choose (b == 61) _ _ (λ e. known 61 e (sign_or_answer Equals EqualsEquals 61 61 refl refl refl refl bytes)) (λ _.
    choose (b == 33) _ _ (λ e. known 33 e (sign_or_answer Not NotEquals 33 61 refl refl refl refl bytes)) (λ _.
    choose (b == 38) _ _ (λ e. known 38 e (sign_or_answer Ampersand AndAnd 38 38 refl refl refl refl bytes)) (λ _.
    choose (b == 124) _ _ (λ e. known 124 e (sign_or_answer Bar BarBar 124 124 refl refl refl refl bytes)) (λ _.
    choose (b == 60) _ _ (λ e. known 60 e (less_answer bytes)) (λ _. single_answer b bytes single_signs refl plain)))))

answer : (b : ℕ) (bytes : List ℕ) → Answer b bytes (lexeme b bytes)
answer b bytes =
    choose (is_letter b) _ _ (λ letter. word_answer b bytes letter) (λ _.
    choose (is_ascii_digit b) _ _ (λ digit. number_answer b bytes digit) (λ _.
    choose (b == 45) _ _ (λ e. known 45 e (minus_answer bytes)) (λ _.
    choose (b == 32 || b == 10) _ _ (λ e. Skipped e refl) (λ e. sign_answer b bytes e))))

-- a front that spells a token, against what is taken
front_long : (b : ℕ) (bytes other rest : List ℕ) (u : Token) → Spells other u → b ∷ bytes ≡ other ++ rest →
    AtLeast (length other) (lexeme b bytes)
front_long b bytes other rest u s e = subst (λ v. AtLeast (length other) (lexeme_of v)) (sym e) (longest other u s rest)

pub begins : (b : ℕ) (bytes : List ℕ) → Begins b bytes
begins b bytes = elim (answer b bytes) [
  | Skipped blank l ↦ AtBlank blank (ap (λ v. following v (scan bytes)) l)
  | Spelled front rest t whole s l ↦
      AtToken (b ∷ front) rest t
      (record {
        begins = ap (λ v. b ∷ v) whole;
        spells = s;
        longest = λ other after u e so. (subst (AtLeast (length other)) l (front_long b bytes other after u so e)).1;
      })
      (ap (λ v. following v (scan bytes)) l
      ∙ ap (λ ts. t ∷ ts) (ap (λ v. scan v (length front)) whole ∙ past front rest))
  | Unknown plain l ↦
      AtForeign plain (λ front rest t e s.
      (subst (AtLeast (length front)) l (front_long b bytes front rest t s e)).0)
      (ap (λ v. following v (scan bytes)) l)
]

-- Bytes that spell a token are that token alone.

nothing_after : (suffix : Suffix) → ends_number suffix [] ≡ true
nothing_after NoSuffix = refl
nothing_after SuffixI = refl
nothing_after SuffixU = refl
nothing_after SuffixLi = refl
nothing_after SuffixLu = refl

number_alone : (negative : Bool) (ds : List ℕ) (suffix : Suffix) → 0 < length ds →
    all_ascii_digits ds ≡ true → tokens (number_text negative ds suffix) ≡ Number negative
    (digits_value 10 ds) suffix ∷ []
number_alone false ds suffix some is = ap (λ v. scan (ds ++ v) 0) (sym (append-nil (suffix_text suffix)))
    ∙ number_scans false ds suffix [] some is (nothing_after suffix)
number_alone true ds suffix some is = ap (λ v. scan (45 ∷ (ds ++ v)) 0) (sym (append-nil (suffix_text suffix)))
    ∙ number_scans true ds suffix [] some is (nothing_after suffix)

decimal_alone : (negative : Bool) (whole fraction : List ℕ) (precision : Precision) → AreDigits whole →
    all_ascii_digits fraction ≡ true → IsPrecision precision →
    tokens (decimal_text negative whole fraction precision) ≡ Decimal negative whole fraction precision ∷ []
decimal_alone false whole fraction precision are tail_is power_is =
    ap (λ v. scan v 0) (sym (append-nil (decimal_text false whole fraction precision)))
    ∙ decimal_scans false whole fraction precision [] are tail_is power_is
decimal_alone true whole fraction precision are tail_is power_is =
    ap (λ v. scan v 0) (sym (append-nil (decimal_text true whole fraction precision)))
    ∙ decimal_scans true whole fraction precision [] are tail_is power_is

sign_alone : (m : Mark) → is_sign m ≡ true → tokens (mark_text m) ≡ Fixed m ∷ []
sign_alone KeywordTrue is = absurd (false≢true is)
sign_alone KeywordFalse is = absurd (false≢true is)
sign_alone KeywordLet is = absurd (false≢true is)
sign_alone KeywordVar is = absurd (false≢true is)
sign_alone KeywordIf is = absurd (false≢true is)
sign_alone KeywordElse is = absurd (false≢true is)
sign_alone KeywordLoop is = absurd (false≢true is)
sign_alone KeywordContinuing is = absurd (false≢true is)
sign_alone KeywordBreak is = absurd (false≢true is)
sign_alone KeywordContinue is = absurd (false≢true is)
sign_alone KeywordSwitch is = absurd (false≢true is)
sign_alone KeywordCase is = absurd (false≢true is)
sign_alone KeywordDefault is = absurd (false≢true is)
sign_alone KeywordReturn is = absurd (false≢true is)
sign_alone KeywordDiscard is = absurd (false≢true is)
sign_alone KeywordFn is = absurd (false≢true is)
sign_alone KeywordStruct is = absurd (false≢true is)
sign_alone KeywordConst is = absurd (false≢true is)
sign_alone KeywordEnable is = absurd (false≢true is)
sign_alone KeywordOverride is = absurd (false≢true is)
sign_alone _ is = refl

pub alone : (bytes : List ℕ) (t : Token) → Spells bytes t → tokens bytes ≡ t ∷ []
alone _ _ (SpellsWord w is) = ap tokens (sym (append-nil w)) ∙ word_scans w [] is refl
alone _ _ (SpellsNumber negative ds suffix some is) = number_alone negative ds suffix some is
alone _ _ (SpellsDecimal negative whole fraction precision are tail_is power_is) =
    decimal_alone negative whole fraction precision are tail_is power_is
alone _ _ SpellsZeroPointZero = refl
alone _ _ (SpellsSign m is) = sign_alone m is
