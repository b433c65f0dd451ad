-- The texts of integers and of numerals, from what is written of them in turn.
-- Serves 7 contracts, `write_double` among them.
use Rattle.std.proofs.Common.{◌≡◌, ◌++◌, ℕ, ℤ, pos, negsuc, false, codes, decimal, refl, ap, ◌==◌}
use Rattle.std.proofs.Common.{ne_eqb, append_assoc, sym, ◌∙◌, Bool, true, List, [], ◌∷◌, zero, suc}
use Rattle.std.specs.Fmt.{digits, sign_text, signed_decimal}
use Rattle.std.proofs.lemmas.List.{append-nil}
use Rattle.naga_words.specs.Output.{joined_texts}
use Rattle.decimal_numerals.specs.declared.decimal.Decimal.{Decimal}
use Rattle.float_numerals.specs.Texts as numeral_texts
use Rattle.float_numerals.specs.Texts.{double_exponent, double_fraction, double_whole}
use Rattle.float_numerals.specs.Texts.{fraction_digits, whole_digits, fraction_text}
use Rattle.naga_form.specs.Literals.{power_form}
use Rattle.wgsl_text.specs.Text.{power_text, precision_text, text}
use Rattle.wgsl_text.specs.Token as token
use Rattle.wgsl_text.specs.Token.{Double, Half, Precision, Single, TokenPiece}
use Rattle.naga_wgsl_shared.specs.Literals.{i32_text, i64_text, i16_text, u16_text, f16_text}
use Rattle.naga_wgsl_shared.specs.Literals.{f32_text}
use Rattle.naga_wgsl_shared.specs.Literals.{f64_text}

pub least_integer_row : i32_text (negsuc 2147483647) ≡ codes "i32(-2147483648)"
unfolding i32_text digits
least_integer_row = refl

pub least_long_row : i64_text (negsuc 9223372036854775807) ≡ codes "i64(-9223372036854775807 - 1)"
unfolding i64_text digits
least_long_row = refl

pub integer_row : (z : ℤ) → (z ≡ negsuc 2147483647 → ⊥) → i32_text z ≡ signed_decimal z ++ codes "i"
unfolding i32_text
integer_row (pos n) other = append-nil (decimal n ++ codes "i")
integer_row (negsuc n) other =
    let another : (n == 2147483647) ≡ false = ne_eqb n 2147483647 (λ is. other (ap negsuc is)) in
    rw another (append-nil (signed_decimal (negsuc n) ++ codes "i"))

pub long_row : (z : ℤ) → (z ≡ negsuc 9223372036854775807 → ⊥) → i64_text z ≡ signed_decimal z ++ codes "li"
unfolding i64_text
long_row (pos n) other = append-nil (decimal n ++ codes "li")
long_row (negsuc n) other =
    let another : (n == 9223372036854775807) ≡ false = ne_eqb n 9223372036854775807 (λ is. other (ap negsuc is)) in
    rw another (append-nil (signed_decimal (negsuc n) ++ codes "li"))

-- those of 16 bits stand in parentheses
pub short_row : (z : ℤ) → i16_text z ≡ joined_texts (codes "i16(") (signed_decimal z ++ codes ")")
unfolding i16_text joined_texts
short_row (pos n) = ap (λ w. codes "i16(" ++ (w ++ codes ")")) (append-nil (decimal n))
short_row (negsuc n) =
    ap (λ w. codes "i16(" ++ (w ++ codes ")")) (append-nil (signed_decimal (negsuc n)))

pub unsigned_short_row : (n : ℕ) →
    u16_text n ≡ joined_texts (codes "u16(") (decimal n ++ codes ")")
unfolding u16_text joined_texts
unsigned_short_row n = ap (λ w. codes "u16(" ++ (w ++ codes ")")) (append-nil (decimal n))

-- ---- numerals
-- the text of the token, by its sign and its digits
token_row : (negative : Bool) (whole fraction : List ℕ) (precision : Precision) →
    text (TokenPiece (token.Decimal negative whole fraction precision) ∷ []) ≡
    sign_text negative ++ (whole ++ (fraction_text fraction ++ precision_text precision))
token_row false whole fraction precision =
    append-nil (whole ++ (fraction_text fraction ++ precision_text precision))
token_row true whole fraction precision =
    ap (λ v. 45 ∷ v) (append-nil (whole ++ (fraction_text fraction ++ precision_text precision)))

-- the grammar's text of a power is that of a numeral
power_same : (e : ℤ) → numeral_texts.exponent_text e ≡ power_text (power_form e)
power_same (pos zero) = refl
power_same (pos (suc n)) = refl
power_same (negsuc n) = refl

plain_row : (d : Decimal) (precision : Precision) →
    numeral_texts.numeral_text d ++ precision_text precision ≡
    text (TokenPiece (token.Decimal d.negative (whole_digits d) (fraction_digits d) precision) ∷ [])
plain_row d precision =
    let sign = sign_text d.negative in
    let whole = whole_digits d in
    let fraction = fraction_digits d in
    let letters = precision_text precision in
    append_assoc sign (whole ++ fraction_text fraction) letters
    ∙ ap (λ v. sign ++ v) (append_assoc whole (fraction_text fraction) letters)
    ∙ sym (token_row d.negative whole fraction precision)

pub single_row : (d : Decimal) → numeral_texts.single_text d ≡ f32_text d
unfolding f32_text
single_row d = plain_row d Single

pub half_row : (d : Decimal) → numeral_texts.half_text d ≡ f16_text d
unfolding f16_text
half_row d = plain_row d Half

pub double_row : (d : Decimal) → numeral_texts.double_text d ≡ f64_text d
unfolding f64_text
double_row d =
    let sign = sign_text d.negative in
    let whole = double_whole d in
    let fraction = double_fraction d in
    let power = double_exponent d in
    let pointed = fraction_text fraction in
    let raised = numeral_texts.exponent_text power in
    append_assoc sign (whole ++ (pointed ++ raised)) (codes "lf")
    ∙ ap (λ v. sign ++ v)
    (append_assoc whole (pointed ++ raised) (codes "lf")
    ∙ ap (λ v. whole ++ v)
    (append_assoc pointed raised (codes "lf")
    ∙ ap (λ v. pointed ++ (v ++ codes "lf")) (power_same power)))
    ∙ sym (token_row d.negative whole fraction (Double (power_form power)))
