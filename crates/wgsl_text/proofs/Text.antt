-- The tokens of a text whose tokens stand apart, and the text of appended pieces.
use Rattle.std.proofs.Common.{◌≡◌, ℕ, ◌<◌, suc, Bool, true, false, cond, not, ◌&&◌, List, [], ◌∷◌}
use Rattle.std.proofs.Common.{◌++◌, length, take, drop, refl, sym, ap, ◌∙◌, append_assoc, arith}
use Rattle.std.proofs.Common.{◌||◌, ◌*◌, zero, eqb-true}
use Rattle.std.specs.Prelude.{codes, ◌^◌, ⊤, ◌==◌, replicate}
use Rattle.std.specs.Char.{is_ascii_digit}
use Rattle.std.specs.Str.{all_ascii_digits}
use Rattle.std.specs.Str.Parse.{digits_value}
use Rattle.std.specs.Fmt.{decimal}
use Rattle.std.proofs.lemmas.Bool.{false≢true, and_parts, not-true}
use Rattle.std.proofs.lemmas.Bool.Decides.{nat_tests}
use Rattle.std.proofs.lemmas.Str.Parse.{IsNumeralModel, numerals_by_value, tells_all_ascii_digits}
use Rattle.std.proofs.lemmas.Fmt.{digits_decimal, decimal_nonempty, digits_value-decimal}
use Rattle.std.proofs.Math.Seq.{take-append_seam, drop-append_seam}
use Rattle.wgsl_text.specs.Token.{Mark, OpenParen, CloseParen, OpenBracket, CloseBracket, OpenBrace}
use Rattle.wgsl_text.specs.Token.{CloseBrace, Comma, Semicolon, Colon, Dot, At, Equals, LessThan}
use Rattle.wgsl_text.specs.Token.{GreaterThan, Plus, Minus, Star, Slash, Percent, Ampersand, Bar}
use Rattle.wgsl_text.specs.Token.{Caret, Not, Tilde, EqualsEquals, NotEquals, LessEquals, AndAnd}
use Rattle.wgsl_text.specs.Token.{BarBar, LessLess, Suffix, NoSuffix, SuffixI, SuffixU, SuffixLi}
use Rattle.wgsl_text.specs.Token.{SuffixLu, Token, Fixed, Word, Number, ZeroPointZero, Foreign}
use Rattle.wgsl_text.specs.Token.{Decimal, Power, NoPower, PowerOf, Precision, Half, Single, Double}
use Rattle.wgsl_text.specs.Token.{AreDigits, IsPower, IsPrecision, Piece, TokenPiece, Blank}
use Rattle.wgsl_text.specs.Token.{LineEnd, Indent, plain}
use Rattle.float_numerals.specs.Texts.{fraction_text}
use Rattle.wgsl_text.specs.Text.{precision_text, decimal_tail, fraction_at, power_text, power_at}
use Rattle.wgsl_text.specs.Text.{digits_at, power_of_digits, power_after_letter, after_power}
use Rattle.wgsl_text.specs.Text.{starts_with_lf, after_fraction, has_precision, precision_at}
use Rattle.wgsl_text.specs.Text.{decimal_of, whole_of, Takes, mark_text, suffix_text, starts_with}
use Rattle.wgsl_text.specs.Text.{word_length, digits_length, word_token, word_lexeme, suffix_at}
use Rattle.wgsl_text.specs.Text.{is_point_zero, is_empty, number_of, number_lexeme, one_more}
use Rattle.wgsl_text.specs.Text.{sign_or, lexeme, text, token_text, tokens_in, following, scan}
use Rattle.wgsl_text.specs.Words.{IsWord, is_letter, is_word_byte, all_word_bytes, is_word_text}
use Rattle.wgsl_text.specs.Words.{is_reserved}
use Rattle.std.proofs.lemmas.List.{append-nil}

both_not : (a b : Bool) → (not a && not b) ≡ true → (a ≡ false) × (b ≡ false)
both_not false false e = (refl, refl)
both_not false true e = absurd (false≢true e)
both_not true b e = absurd (false≢true e)

pub when_true : {A : Type 0} {b : Bool} {x : A} (y : A) → b ≡ true → cond b x y ≡ x
when_true {x} y e = ap (λ c. cond c x y) e

pub when_false : {A : Type 0} {b : Bool} (x : A) {y : A} → b ≡ false → cond b x y ≡ y
when_false x {y} e = ap (λ c. cond c x y) e

-- a word, a number or a sign ends before these bytes
abbrev pub ends_word : List ℕ → Bool
ends_word [] = true
ends_word (b ∷ bytes) = not (is_letter b) && not (is_ascii_digit b)

abbrev pub ends_minus : List ℕ → Bool
ends_minus [] = true
ends_minus (b ∷ bytes) = not (is_ascii_digit b)

-- what begins an expression or a type, or a blank
abbrev pub opens_byte : ℕ → Bool
opens_byte b = is_letter b || (is_ascii_digit b || (b == 32 || (b == 33 || (b == 40 || (b == 45 || b == 126)))))

abbrev pub opens : List ℕ → Bool
opens [] = false
opens (b ∷ bytes) = opens_byte b

abbrev pub ends_mark : Mark → List ℕ → Bool
ends_mark Minus bytes = ends_minus bytes
ends_mark LessThan bytes = opens bytes
ends_mark Ampersand bytes = opens bytes
ends_mark Bar bytes = opens bytes
ends_mark Not bytes = opens bytes
ends_mark Equals bytes = opens bytes
ends_mark OpenParen bytes = true
ends_mark CloseParen bytes = true
ends_mark OpenBracket bytes = true
ends_mark CloseBracket bytes = true
ends_mark OpenBrace bytes = true
ends_mark CloseBrace bytes = true
ends_mark Comma bytes = true
ends_mark Semicolon bytes = true
ends_mark Colon bytes = true
ends_mark Dot bytes = true
ends_mark At bytes = true
ends_mark GreaterThan bytes = true
ends_mark Plus bytes = true
ends_mark Star bytes = true
ends_mark Slash bytes = true
ends_mark Percent bytes = true
ends_mark Caret bytes = true
ends_mark Tilde bytes = true
ends_mark EqualsEquals bytes = true
ends_mark NotEquals bytes = true
ends_mark LessEquals bytes = true
ends_mark AndAnd bytes = true
ends_mark BarBar bytes = true
ends_mark LessLess bytes = true
ends_mark _ bytes = ends_word bytes

abbrev pub ends_number : Suffix → List ℕ → Bool
ends_number NoSuffix bytes = ends_word bytes && not (starts_with 46 bytes)
ends_number _ bytes = true

abbrev pub ends : Token → List ℕ → Bool
ends (Fixed m) bytes = ends_mark m bytes
ends (Word w) bytes = ends_word bytes
ends (Number negative n suffix) bytes = ends_number suffix bytes
ends (Decimal negative whole fraction precision) bytes = true
ends ZeroPointZero bytes = ends_word bytes
ends (Foreign b) bytes = false

-- a word that is a token of its own, and no keyword that the grammar uses
pub record IsWordToken (w : List ℕ) : Type 0 where
  pub text : is_word_text w ≡ true
  pub token : word_token w ≡ Word w

pub word_token_of : {w : List ℕ} → IsWord w → IsWordToken w
word_token_of is = record { text = is.text; token = when_false _ is.free }

-- Decimal digits are known for numbers in 64 bits.
abbrev pub IsNumber : ℕ → Type 0
IsNumber n = n < 2 ^ 64

abbrev pub IsToken : Token → Type 0
IsToken (Fixed m) = ⊤
IsToken (Word w) = IsWordToken w
IsToken (Number negative n suffix) = IsNumber n
IsToken (Decimal negative whole fraction precision) =
    AreDigits whole × (all_ascii_digits fraction ≡ true) × IsPrecision precision
IsToken ZeroPointZero = ⊤
IsToken (Foreign b) = ⊥

-- words

pub past : (xs rest : List ℕ) → scan (xs ++ rest) (length xs) ≡ scan rest 0
past [] rest = refl
past (x ∷ xs) rest = past xs rest

word_end : (rest : List ℕ) → ends_word rest ≡ true → word_length rest ≡ 0
word_end [] e = refl
word_end (b ∷ rest) e =
    let h = both_not (is_letter b) (is_ascii_digit b) e in
    ap (λ c. cond (c || is_ascii_digit b) (suc (word_length rest)) 0) h.0
    ∙ ap (λ c. cond c (suc (word_length rest)) 0) h.1

word_whole : (w rest : List ℕ) → all_word_bytes w ≡ true → ends_word rest ≡ true → word_length (w ++ rest) ≡ length w
word_whole [] rest is e = word_end rest e
word_whole (b ∷ w) rest is e =
    let h = and_parts (is_word_byte b) (all_word_bytes w) is in
    ap (λ c. cond c (suc (word_length (w ++ rest))) 0) h.0 ∙ ap suc (word_whole w rest h.1 e)

-- any word, keywords too
pub word_scans : (w rest : List ℕ) → is_word_text w ≡ true → ends_word rest ≡ true → scan (w ++ rest) 0
    ≡ word_token w ∷ scan rest 0
word_scans [] rest is e = absurd (false≢true is)
word_scans (b ∷ w) rest is e =
    let h = and_parts (is_letter b) (all_word_bytes w) is in
    let n = word_whole w rest h.1 e in
    let after = ap (λ k. word_token (b ∷ take k (w ++ rest)) ∷ scan (w ++ rest) k) n
    ∙ ap (λ v. word_token (b ∷ v) ∷ scan (w ++ rest) (length w)) (take-append_seam w rest)
    ∙ ap (λ ts. word_token (b ∷ w) ∷ ts) (past w rest) in
    let first : lexeme b (w ++ rest) ≡ word_lexeme b (w ++ rest) = when_true _ h.0 in
    ap (λ l. following l (scan (w ++ rest))) first ∙ after

own_word_scans : (w rest : List ℕ) → IsWordToken w → ends_word rest ≡ true → scan (w ++ rest) 0 ≡ Word w ∷ scan rest 0
own_word_scans w rest is e = word_scans w rest is.text e ∙ ap (λ t. t ∷ scan rest 0) is.token

-- numbers

pub own_digits : IsNumeralModel (λ ds. all_ascii_digits ds ≡ true) (digits_value 10)
own_digits = numerals_by_value _ tells_all_ascii_digits

pub digit_no_letter : (b : ℕ) → is_ascii_digit b ≡ true → is_letter b ≡ false
digit_no_letter b e = grind (arith, nat_tests)

digits_end : (suffix : Suffix) (rest : List ℕ) → ends_number suffix rest ≡ true →
    digits_length (suffix_text suffix ++ rest) ≡ 0
digits_end NoSuffix [] e = refl
digits_end NoSuffix (b ∷ rest) e = when_false _ (both_not (is_letter b) (is_ascii_digit b) (and_parts _ _ e).0).1
digits_end SuffixI rest e = refl
digits_end SuffixU rest e = refl
digits_end SuffixLi rest e = refl
digits_end SuffixLu rest e = refl

digits_whole : (ds rest : List ℕ) → all_ascii_digits ds ≡ true → digits_length rest ≡ 0 →
    digits_length (ds ++ rest) ≡ length ds
digits_whole [] rest is e = e
digits_whole (b ∷ ds) rest is e =
    let h = and_parts (is_ascii_digit b) (all_ascii_digits ds) is in
    when_true _ h.0 ∙ ap suc (digits_whole ds rest h.1 e)

suffix_found : (suffix : Suffix) (rest : List ℕ) → ends_number suffix rest ≡ true →
    suffix_at (suffix_text suffix ++ rest) ≡ suffix
suffix_found NoSuffix [] e = refl
suffix_found NoSuffix (b ∷ rest) e = when_false _ (both_not (is_letter b) (is_ascii_digit b) (and_parts _ _ e).0).0
suffix_found SuffixI rest e = refl
suffix_found SuffixU rest e = refl
suffix_found SuffixLi rest e = refl
suffix_found SuffixLu rest e = refl

no_point : (suffix : Suffix) (rest : List ℕ) → ends_number suffix rest ≡ true →
    is_point_zero (suffix_text suffix ++ rest) ≡ false
no_point NoSuffix [] e = refl
no_point NoSuffix (b ∷ rest) e = ap (λ c. c && starts_with 48 rest) (not-true (b == 46) (and_parts _ _ e).1)
no_point SuffixI rest e = refl
no_point SuffixU rest e = refl
no_point SuffixLi rest e = refl
no_point SuffixLu rest e = refl

-- none of these begins with what tells a floating-point type

no_h : (b : ℕ) → is_letter b ≡ false → (b == 104) ≡ false
no_h b e = grind (arith, nat_tests)

no_f : (b : ℕ) → is_letter b ≡ false → (b == 102) ≡ false
no_f b e = grind (arith, nat_tests)

no_e : (b : ℕ) → is_letter b ≡ false → (b == 101) ≡ false
no_e b e = grind (arith, nat_tests)

no_l : (b : ℕ) → is_letter b ≡ false → (b == 108) ≡ false
no_l b e = grind (arith, nat_tests)

pub no_precision : (rest : List ℕ) → ends_word rest ≡ true → has_precision rest ≡ false
no_precision [] e = refl
no_precision (b ∷ rest) e =
    let letter = (both_not (is_letter b) (is_ascii_digit b) e).0 in
    ap (λ c. c || (b == 102 || starts_with_lf (after_power (b ∷ rest)))) (no_h b letter)
    ∙ ap (λ c. c || starts_with_lf (after_power (b ∷ rest))) (no_f b letter)
    ∙ ap (λ c. starts_with_lf (drop (length (power_text (cond c (power_after_letter rest) NoPower)))
    (b ∷ rest))) (no_e b letter)
    ∙ ap (λ c. c && starts_with 102 rest) (no_l b letter)

no_fraction : (b : ℕ) (rest : List ℕ) → (b == 46) ≡ false → after_fraction (b ∷ rest) ≡ b ∷ rest
no_fraction b rest e = ap (λ c. drop (length (fraction_text (cond c (take (digits_length rest) rest) []))) (b ∷ rest)) e

no_type_after : (suffix : Suffix) (rest : List ℕ) → ends_number suffix rest ≡ true →
    has_precision (after_fraction (suffix_text suffix ++ rest)) ≡ false
no_type_after NoSuffix [] e = refl
no_type_after NoSuffix (b ∷ rest) e =
    let h = and_parts (ends_word (b ∷ rest)) (not (b == 46)) e in
    ap has_precision (no_fraction b rest (not-true (b == 46) h.1)) ∙ no_precision (b ∷ rest) h.0
no_type_after SuffixI rest e = refl
no_type_after SuffixU rest e = refl
no_type_after SuffixLi rest e = refl
no_type_after SuffixLu rest e = refl

pub digits_scan : (negative : Bool) (b : ℕ) (ds : List ℕ) (suffix : Suffix) (rest : List ℕ) →
    all_ascii_digits ds ≡ true → ends_number suffix rest ≡ true →
    number_lexeme negative b (ds ++ (suffix_text suffix ++ rest)) ≡ Takes
    (Number negative (digits_value 10 (b ∷ ds)) suffix) (length (ds ++ suffix_text suffix))
digits_scan negative b ds suffix rest is e =
    let after = suffix_text suffix ++ rest in
    let n = digits_whole ds after is (digits_end suffix rest e) in
    ap (λ k. number_of negative b (take k (ds ++ after)) (drop k (ds ++ after))) n
    ∙ ap (λ v. number_of negative b v (drop (length ds) (ds ++ after))) (take-append_seam ds after)
    ∙ ap (λ v. number_of negative b ds v) (drop-append_seam ds after)
    ∙ when_false _ (no_type_after suffix rest e)
    ∙ ap (λ c. cond (c && (not negative && (b == 48 && is_empty ds))) (Takes ZeroPointZero 2)
    (Takes (Number negative (digits_value 10 (b ∷ ds)) (suffix_at after))
    (length (ds ++ suffix_text (suffix_at after))))) (no_point suffix rest e)
    ∙ ap (λ v. Takes (Number negative (digits_value 10 (b ∷ ds)) v) (length (ds ++ suffix_text v)))
    (suffix_found suffix rest e)

-- what the digits and the suffix of a number leave
number_left : (ds : List ℕ) (suffix : Suffix) (rest : List ℕ) →
    scan (ds ++ (suffix_text suffix ++ rest)) (length (ds ++ suffix_text suffix)) ≡ scan rest 0
number_left ds suffix rest =
    ap (λ v. scan v (length (ds ++ suffix_text suffix))) (sym (append_assoc ds (suffix_text suffix) rest))
    ∙ past (ds ++ suffix_text suffix) rest

pub number_scans : (negative : Bool) (ds : List ℕ) (suffix : Suffix) (rest : List ℕ) →
    0 < length ds → all_ascii_digits ds ≡ true → ends_number suffix rest ≡ true →
    scan (cond negative (codes "-") [] ++ (ds ++ (suffix_text suffix ++ rest))) 0 ≡ Number negative
    (digits_value 10 ds) suffix ∷ scan rest 0
number_scans negative [] suffix rest some is e = absurd (omega arith)
number_scans false (b ∷ ds) suffix rest some is e =
    let h = and_parts (is_ascii_digit b) (all_ascii_digits ds) is in
    let after = ds ++ (suffix_text suffix ++ rest) in
    let first : lexeme b after ≡ number_lexeme false b after = when_false _ (digit_no_letter b h.0) ∙ when_true _ h.0 in
    ap (λ l. following l (scan after)) (first ∙ digits_scan false b ds suffix rest h.1 e)
    ∙ ap (λ ts. Number false (digits_value 10 (b ∷ ds)) suffix ∷ ts) (number_left ds suffix rest)
number_scans true (b ∷ ds) suffix rest some is e =
    let h = and_parts (is_ascii_digit b) (all_ascii_digits ds) is in
    let after = ds ++ (suffix_text suffix ++ rest) in
    let first : lexeme 45 (b ∷ after) ≡ one_more (number_lexeme true b after) = when_true _ h.0 in
    ap (λ l. following l (scan (b ∷ after))) (first ∙ ap one_more (digits_scan true b ds suffix rest h.1 e))
    ∙ ap (λ ts. Number true (digits_value 10 (b ∷ ds)) suffix ∷ ts) (number_left ds suffix rest)

own_number_scans : (negative : Bool) (n : ℕ) (suffix : Suffix) (rest : List ℕ) → IsNumber n →
    ends_number suffix rest ≡ true →
    scan (cond negative (codes "-") [] ++ (decimal n ++ (suffix_text suffix ++ rest))) 0 ≡
    Number negative n suffix ∷ scan rest 0
own_number_scans negative n suffix rest is e =
    number_scans negative (decimal n) suffix rest (decimal_nonempty n is) (digits_decimal own_digits n is) e
    ∙ ap (λ v. Number negative v suffix ∷ scan rest 0) (digits_value-decimal own_digits n is)

-- numbers of floating-point types

digits_before : (precision : Precision) (rest : List ℕ) → digits_length (precision_text precision ++ rest) ≡ 0
digits_before Half rest = refl
digits_before Single rest = refl
digits_before (Double NoPower) rest = refl
digits_before (Double (PowerOf false ds)) rest = refl
digits_before (Double (PowerOf true ds)) rest = refl

digits_before_tail : (fraction : List ℕ) (precision : Precision) (rest : List ℕ) →
    digits_length (fraction_text fraction ++ (precision_text precision ++ rest)) ≡ 0
digits_before_tail [] precision rest = digits_before precision rest
digits_before_tail (b ∷ ds) precision rest = refl

pub fraction_found : (fraction : List ℕ) (precision : Precision) (rest : List ℕ) → all_ascii_digits fraction ≡ true →
    fraction_at (fraction_text fraction ++ (precision_text precision ++ rest)) ≡ fraction
fraction_found [] Half rest is = refl
fraction_found [] Single rest is = refl
fraction_found [] (Double NoPower) rest is = refl
fraction_found [] (Double (PowerOf false ds)) rest is = refl
fraction_found [] (Double (PowerOf true ds)) rest is = refl
fraction_found (b ∷ ds) precision rest is =
    ap (λ n. take n ((b ∷ ds) ++ (precision_text precision ++ rest)))
    (digits_whole (b ∷ ds) (precision_text precision ++ rest) is (digits_before precision rest))
    ∙ take-append_seam (b ∷ ds) (precision_text precision ++ rest)

pub fraction_left : (fraction : List ℕ) (precision : Precision) (rest : List ℕ) → all_ascii_digits fraction ≡ true →
    after_fraction (fraction_text fraction ++ (precision_text precision ++ rest)) ≡ precision_text precision ++ rest
fraction_left fraction precision rest is =
    ap (λ v. drop (length (fraction_text v)) (fraction_text fraction ++ (precision_text precision ++ rest)))
    (fraction_found fraction precision rest is)
    ∙ drop-append_seam (fraction_text fraction) (precision_text precision ++ rest)

-- the power of ten of an `f64`

digits_found : (ds after : List ℕ) → all_ascii_digits ds ≡ true → digits_length after ≡ 0 → digits_at (ds ++ after) ≡ ds
digits_found ds after is none = ap (λ n. take n (ds ++ after)) (digits_whole ds after is none)
    ∙ take-append_seam ds after

no_minus : (b : ℕ) → is_ascii_digit b ≡ true → (b == 45) ≡ false
no_minus b e = grind (arith, nat_tests)

power_found_in : (power : Power) (rest : List ℕ) → IsPower power →
    power_at (power_text power ++ (codes "lf" ++ rest)) ≡ power
power_found_in NoPower rest is = refl
power_found_in (PowerOf negative []) rest is = absurd (omega (arith, is.some))
power_found_in (PowerOf true (d ∷ ds)) rest is =
    ap (power_of_digits true) (digits_found (d ∷ ds) (codes "lf" ++ rest) is.digits refl)
power_found_in (PowerOf false (d ∷ ds)) rest is =
    let h = and_parts (is_ascii_digit d) (all_ascii_digits ds) is.digits in
    when_false _ (no_minus d h.0) ∙ ap (power_of_digits false)
    (digits_found (d ∷ ds) (codes "lf" ++ rest) is.digits refl)

power_found : (power : Power) (rest : List ℕ) → IsPower power → power_at (precision_text (Double power) ++ rest) ≡ power
power_found power rest is = ap power_at (append_assoc (power_text power) (codes "lf") rest)
    ∙ power_found_in power rest is

power_left : (power : Power) (rest : List ℕ) → IsPower power →
    after_power (precision_text (Double power) ++ rest) ≡ codes "lf" ++ rest
power_left power rest is =
    ap (λ p. drop (length (power_text p)) (precision_text (Double power) ++ rest)) (power_found power rest is)
    ∙ ap (drop (length (power_text power))) (append_assoc (power_text power) (codes "lf") rest)
    ∙ drop-append_seam (power_text power) (codes "lf" ++ rest)

-- of a power that is written, whose first letter is an `e`
double_before : (negative : Bool) (b : ℕ) (ds fraction : List ℕ) (power : Power) (rest : List ℕ) → IsPower power →
    cond (starts_with_lf (after_power (precision_text (Double power) ++ rest)))
    (decimal_of negative b ds fraction (Double (power_at (precision_text (Double power) ++ rest))))
    (whole_of negative b ds (fraction_text fraction ++ (precision_text (Double power) ++ rest)))
    ≡ decimal_of negative b ds fraction (Double power)
double_before negative b ds fraction power rest is =
    ap (λ v. cond (starts_with_lf v) (decimal_of negative b ds fraction
    (Double (power_at (precision_text (Double power) ++ rest))))
    (whole_of negative b ds (fraction_text fraction ++ (precision_text (Double power) ++ rest))))
    (power_left power rest is)
    ∙ ap (λ p. decimal_of negative b ds fraction (Double p)) (power_found power rest is)

decimal_before : (negative : Bool) (b : ℕ) (ds fraction : List ℕ) (precision : Precision) (rest : List ℕ) →
    IsPrecision precision →
    cond (has_precision (precision_text precision ++ rest))
    (decimal_of negative b ds fraction (precision_at (precision_text precision ++ rest)))
    (whole_of negative b ds (fraction_text fraction ++ (precision_text precision ++ rest)))
    ≡ decimal_of negative b ds fraction precision
decimal_before negative b ds fraction Half rest is = refl
decimal_before negative b ds fraction Single rest is = refl
decimal_before negative b ds fraction (Double NoPower) rest is = refl
decimal_before negative b ds fraction (Double (PowerOf false ps)) rest is =
    double_before negative b ds fraction (PowerOf false ps) rest is
decimal_before negative b ds fraction (Double (PowerOf true ps)) rest is =
    double_before negative b ds fraction (PowerOf true ps) rest is

pub decimal_scan : (negative : Bool) (b : ℕ) (ds fraction : List ℕ) (precision : Precision) (rest : List ℕ) →
    all_ascii_digits ds ≡ true → all_ascii_digits fraction ≡ true → IsPrecision precision →
    number_lexeme negative b (ds ++ (fraction_text fraction ++ (precision_text precision ++ rest)))
    ≡ decimal_of negative b ds fraction precision
decimal_scan negative b ds fraction precision rest is tail_is power_is =
    let after = fraction_text fraction ++ (precision_text precision ++ rest) in
    let n = digits_whole ds after is (digits_before_tail fraction precision rest) in
    ap (λ k. number_of negative b (take k (ds ++ after)) (drop k (ds ++ after))) n
    ∙ ap (λ v. number_of negative b v (drop (length ds) (ds ++ after))) (take-append_seam ds after)
    ∙ ap (λ v. number_of negative b ds v) (drop-append_seam ds after)
    ∙ ap (λ v. cond (has_precision v) (decimal_of negative b ds (fraction_at after) (precision_at v))
    (whole_of negative b ds after)) (fraction_left fraction precision rest tail_is)
    ∙ ap (λ v. cond (has_precision (precision_text precision ++ rest))
    (decimal_of negative b ds v (precision_at (precision_text precision ++ rest)))
    (whole_of negative b ds after)) (fraction_found fraction precision rest tail_is)
    ∙ decimal_before negative b ds fraction precision rest power_is

pub joined : (ds fraction : List ℕ) (precision : Precision) (rest : List ℕ) →
    ds ++ (fraction_text fraction ++ (precision_text precision ++ rest))
    ≡ (ds ++ decimal_tail fraction precision) ++ rest
joined ds fraction precision rest =
    ap (λ v. ds ++ v) (sym (append_assoc (fraction_text fraction) (precision_text precision) rest))
    ∙ sym (append_assoc ds (decimal_tail fraction precision) rest)

decimal_left : (ds fraction : List ℕ) (precision : Precision) (rest : List ℕ) →
    scan (ds ++ (fraction_text fraction ++ (precision_text precision ++ rest)))
    (length (ds ++ decimal_tail fraction precision)) ≡ scan rest 0
decimal_left ds fraction precision rest =
    ap (λ v. scan v (length (ds ++ decimal_tail fraction precision))) (joined ds fraction precision rest)
    ∙ past (ds ++ decimal_tail fraction precision) rest

pub decimal_scans : (negative : Bool) (whole fraction : List ℕ) (precision : Precision) (rest : List ℕ) →
    AreDigits whole → all_ascii_digits fraction ≡ true → IsPrecision precision →
    scan (token_text (Decimal negative whole fraction precision) ++ rest) 0
    ≡ Decimal negative whole fraction precision ∷ scan rest 0
decimal_scans negative [] fraction precision rest is tail_is power_is = absurd (omega (arith, is.some))
decimal_scans false (b ∷ ds) fraction precision rest are tail_is power_is =
    let h = and_parts (is_ascii_digit b) (all_ascii_digits ds) are.digits in
    let after = ds ++ (fraction_text fraction ++ (precision_text precision ++ rest)) in
    let first : lexeme b after ≡ number_lexeme false b after = when_false _ (digit_no_letter b h.0) ∙ when_true _ h.0 in
    ap (λ v. scan (b ∷ v) 0) (sym (joined ds fraction precision rest))
    ∙ ap (λ l. following l (scan after)) (first ∙ decimal_scan false b ds fraction precision rest h.1 tail_is power_is)
    ∙ ap (λ ts. Decimal false (b ∷ ds) fraction precision ∷ ts) (decimal_left ds fraction precision rest)
decimal_scans true (b ∷ ds) fraction precision rest are tail_is power_is =
    let h = and_parts (is_ascii_digit b) (all_ascii_digits ds) are.digits in
    let after = ds ++ (fraction_text fraction ++ (precision_text precision ++ rest)) in
    let first : lexeme 45 (b ∷ after) ≡ one_more (number_lexeme true b after) = when_true _ h.0 in
    ap (λ v. scan (45 ∷ b ∷ v) 0) (sym (joined ds fraction precision rest))
    ∙ ap (λ l. following l (scan (b ∷ after)))
    (first ∙ ap one_more (decimal_scan true b ds fraction precision rest h.1 tail_is power_is))
    ∙ ap (λ ts. Decimal true (b ∷ ds) fraction precision ∷ ts) (decimal_left ds fraction precision rest)

-- no digit begins these bytes
no_digits : (rest : List ℕ) → ends_word rest ≡ true → digits_length rest ≡ 0
no_digits [] e = refl
no_digits (b ∷ rest) e = when_false _ (both_not (is_letter b) (is_ascii_digit b) e).1

-- `0.0` is the level of a sampling where no letter and no digit stands after it
zero_scans : (rest : List ℕ) → ends_word rest ≡ true → scan (codes "0.0" ++ rest) 0 ≡ ZeroPointZero ∷ scan rest 0
zero_scans rest e =
    ap (λ l. following l (scan (46 ∷ 48 ∷ rest)))
    (when_false (decimal_of false 48 [] (fraction_at (46 ∷ 48 ∷ rest)) (precision_at (after_fraction (46 ∷ 48 ∷ rest))))
    (ap (λ k. has_precision (drop (length (fraction_text (48 ∷ take k rest))) (46 ∷ 48 ∷ rest)))
    (no_digits rest e) ∙ no_precision rest e))

-- signs and keywords

not_same : (x c : ℕ) (b : Bool) → (c == x) ≡ b → opens_byte x ≡ false → opens_byte c ≡ true → b ≡ false
not_same x c false e shut opening = refl
not_same x c true e shut opening = absurd (false≢true (sym shut ∙ (ap opens_byte (sym (eqb-true c x e)) ∙ opening)))

not_next : (x : ℕ) (rest : List ℕ) → opens_byte x ≡ false → opens rest ≡ true → starts_with x rest ≡ false
not_next x [] shut opening = refl
not_next x (c ∷ rest) shut opening = not_same x c (c == x) refl shut opening

minus_scans : (rest : List ℕ) → ends_minus rest ≡ true → scan (45 ∷ rest) 0 ≡ Fixed Minus ∷ scan rest 0
minus_scans [] e = refl
minus_scans (b ∷ rest) e =
    ap (λ c. following (cond c (one_more (number_lexeme true b rest)) (Takes (Fixed Minus) 0))
    (scan (b ∷ rest))) (not-true _ e)

less_scans : (rest : List ℕ) → opens rest ≡ true → scan (60 ∷ rest) 0 ≡ Fixed LessThan ∷ scan rest 0
less_scans rest e =
    ap (λ c. following (cond c (Takes (Fixed LessEquals) 1) (sign_or LessThan (starts_with 60 rest) LessLess))
    (scan rest)) (not_next 61 rest refl e)
    ∙ ap (λ c. following (sign_or LessThan c LessLess) (scan rest)) (not_next 60 rest refl e)

mark_scans : (m : Mark) (rest : List ℕ) → ends_mark m rest ≡ true → scan (mark_text m ++ rest) 0 ≡ Fixed m ∷ scan rest 0
unfolding is_reserved
mark_scans Minus rest e = minus_scans rest e
mark_scans LessThan rest e = less_scans rest e
mark_scans Ampersand rest e = ap (λ c. following (sign_or Ampersand c AndAnd) (scan rest)) (not_next 38 rest refl e)
mark_scans Bar rest e = ap (λ c. following (sign_or Bar c BarBar) (scan rest)) (not_next 124 rest refl e)
mark_scans Not rest e = ap (λ c. following (sign_or Not c NotEquals) (scan rest)) (not_next 61 rest refl e)
mark_scans Equals rest e = ap (λ c. following (sign_or Equals c EqualsEquals) (scan rest)) (not_next 61 rest refl e)
mark_scans OpenParen rest e = refl
mark_scans CloseParen rest e = refl
mark_scans OpenBracket rest e = refl
mark_scans CloseBracket rest e = refl
mark_scans OpenBrace rest e = refl
mark_scans CloseBrace rest e = refl
mark_scans Comma rest e = refl
mark_scans Semicolon rest e = refl
mark_scans Colon rest e = refl
mark_scans Dot rest e = refl
mark_scans At rest e = refl
mark_scans GreaterThan rest e = refl
mark_scans Plus rest e = refl
mark_scans Star rest e = refl
mark_scans Slash rest e = refl
mark_scans Percent rest e = refl
mark_scans Caret rest e = refl
mark_scans Tilde rest e = refl
mark_scans EqualsEquals rest e = refl
mark_scans NotEquals rest e = refl
mark_scans LessEquals rest e = refl
mark_scans AndAnd rest e = refl
mark_scans BarBar rest e = refl
mark_scans LessLess rest e = refl
mark_scans keyword rest e = word_scans (mark_text keyword) rest refl e

token_scans : (t : Token) (rest : List ℕ) → IsToken t → ends t rest ≡ true → scan (token_text t ++ rest) 0
    ≡ t ∷ scan rest 0
token_scans (Fixed m) rest is e = mark_scans m rest e
token_scans (Word w) rest is e = own_word_scans w rest is e
token_scans (Number false n suffix) rest is e =
    ap (λ v. scan v 0) (append_assoc (decimal n) (suffix_text suffix) rest) ∙ own_number_scans false n suffix rest is e
token_scans (Number true n suffix) rest is e =
    ap (λ v. scan (45 ∷ v) 0) (append_assoc (decimal n) (suffix_text suffix) rest)
    ∙ own_number_scans true n suffix rest is e
token_scans (Decimal negative whole fraction precision) rest is e =
    decimal_scans negative whole fraction precision rest is.0 is.1 is.2
token_scans ZeroPointZero rest is e = zero_scans rest e
token_scans (Foreign b) rest is e = absurd is

-- blanks

blanks_scan : (n : ℕ) (rest : List ℕ) → scan (replicate n 32 ++ rest) 0 ≡ scan rest 0
blanks_scan zero rest = refl
blanks_scan (suc n) rest = blanks_scan n rest

-- No token runs into what stands after it.
abbrev pub Apart : List Piece → Type 0
Apart [] = ⊤
Apart (TokenPiece t ∷ pieces) = IsToken t × (ends t (text pieces) ≡ true) × Apart pieces
Apart (_ ∷ pieces) = Apart pieces

pub pieces_scan : (pieces : List Piece) → Apart pieces → scan (text pieces) 0 ≡ tokens_in pieces
pieces_scan [] apart = refl
pieces_scan (TokenPiece t ∷ pieces) apart = token_scans t (text pieces) apart.0 apart.1
    ∙ ap (λ ts. t ∷ ts) (pieces_scan pieces apart.2)
pieces_scan (Blank ∷ pieces) apart = pieces_scan pieces apart
pieces_scan (LineEnd ∷ pieces) apart = pieces_scan pieces apart
pieces_scan (Indent n ∷ pieces) apart = blanks_scan (4 * n) (text pieces) ∙ pieces_scan pieces apart

pub text-append : (ps qs : List Piece) → text (ps ++ qs) ≡ text ps ++ text qs
text-append [] qs = refl
text-append (TokenPiece t ∷ ps) qs = ap (λ v. token_text t ++ v) (text-append ps qs)
    ∙ sym (append_assoc (token_text t) (text ps) (text qs))
text-append (Blank ∷ ps) qs = ap (λ v. 32 ∷ v) (text-append ps qs)
text-append (LineEnd ∷ ps) qs = ap (λ v. 10 ∷ v) (text-append ps qs)
text-append (Indent n ∷ ps) qs = ap (λ v. replicate (4 * n) 32 ++ v) (text-append ps qs)
    ∙ sym (append_assoc (replicate (4 * n) 32) (text ps) (text qs))

-- the blanks of a level
abbrev pub indent_text : ℕ → List ℕ
indent_text n = replicate (4 * n) 32

pub plain_text : (n : ℕ) (ps : List Piece) → text (plain n ∷ ps) ≡ decimal n ++ text ps
plain_text n ps = ap (λ v. v ++ text ps) (append-nil (decimal n))
