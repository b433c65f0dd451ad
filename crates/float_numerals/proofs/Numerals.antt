-- The digits by which a numeral is written give what it denotes, and their text is read so.
use Rattle.std.proofs.Common.{◌≡◌, ℕ, zero, suc, ◌+◌, ◌-◌, ◌*◌, ◌^◌, ◌<◌, ◌≤◌, refl, sym, ap, ◌∙◌}
use Rattle.std.proofs.Common.{arith, Bool, true, false, cond}
use Rattle.std.proofs.Common.{ℤ, pos, negsuc, nat_abs, List, [], ◌∷◌, ◌++◌, length, take, drop, replicate}
use Rattle.std.specs.Prelude.{nat_lt, Some}
use Rattle.std.specs.Char.{digit_value}
use Rattle.std.specs.Float.{Float, Format}
use Rattle.std.specs.Float.Numeral.{Parts, IsWellFormed, exponent_text as power_text}
use Rattle.std.specs.Float.Parse.{parse_float}
use Rattle.std.specs.Fmt.{decimal, sign_text}
use Rattle.std.specs.Str.Parse.{AllDigits, digits_value, digits_value_after}
use Rattle.std.proofs.lemmas.Float.Parse.{parse_float-text_of}
use Rattle.std.proofs.lemmas.Fmt.{decimal_is_IsNumeral}
use Rattle.std.proofs.lemmas.List.{length-replicate, take-append-drop, append-nil, length-append}
use Rattle.std.proofs.lemmas.List.{length-drop, length-take-le}
use Rattle.std.proofs.lemmas.Bool.{ltb-true, ltb-false, true≢false}
use native.Mathlib.Nat.{mul_assoc, pow-succ', pow-zero, mul-one, zero-mul}
use lib.Ieee.{round}
use Rattle.fast_float.specs.Rounding.{nearest_to_decimal}
use Rattle.decimal_numerals.specs.declared.decimal.Decimal.{Decimal}
use Rattle.decimal_numerals.specs.Half.{half_size, half_of, denoted_half, decimal_half}
use Rattle.decimal_numerals.specs.Denoted.{denoted, decimal_float}
use Rattle.float_numerals.specs.Texts.{whole_of, fraction_of, whole_digits, fraction_digits}
use Rattle.float_numerals.specs.Texts.{fraction_text, exponent_text, numeral_text}

-- values of digits

pub after_append : (n : ℕ) (xs ys : List ℕ) → digits_value_after 10 n (xs ++ ys)
    ≡ digits_value_after 10 (digits_value_after 10 n xs) ys
after_append n [] ys = refl
after_append n (x ∷ xs) ys = after_append (n * 10 + digit_value x) xs ys

pub zeros_after : (n e : ℕ) → digits_value_after 10 n (replicate e 48) ≡ n * 10 ^ e
zeros_after n zero = sym (ap (λ k. n * k) (pow-zero 10) ∙ mul-one n)
zeros_after n (suc e) =
    zeros_after (n * 10 + digit_value 48) e
    ∙ ap (λ k. k * 10 ^ e) {x = n * 10 + digit_value 48} {y = n * 10} (omega arith)
    ∙ mul_assoc n 10 (10 ^ e)
    ∙ ap (λ k. n * k) (sym (pow-succ' 10 e))

-- digits

pub zeros_digits : (e : ℕ) → AllDigits 10 (replicate e 48)
zeros_digits zero = tt
zeros_digits (suc e) = (omega arith, zeros_digits e)

pub both_digits : (xs ys : List ℕ) → AllDigits 10 xs → AllDigits 10 ys → AllDigits 10 (xs ++ ys)
both_digits [] ys p q = q
both_digits (x ∷ xs) ys p q = (p.0, both_digits xs ys p.1 q)

pub front_digits : (n : ℕ) (xs : List ℕ) → AllDigits 10 xs → AllDigits 10 (take n xs)
front_digits zero xs p = tt
front_digits (suc n) [] p = tt
front_digits (suc n) (x ∷ xs) p = (p.0, front_digits n xs p.1)

pub rest_digits : (n : ℕ) (xs : List ℕ) → AllDigits 10 xs → AllDigits 10 (drop n xs)
rest_digits zero xs p = p
rest_digits (suc n) [] p = tt
rest_digits (suc n) (x ∷ xs) p = rest_digits n xs p.1

-- n * 10 ^ e as a fraction
abbrev scaled : ℕ → ℤ → ℕ
scaled n (pos e) = n * 10 ^ e
scaled n (negsuc e) = n

abbrev down : ℤ → ℕ
down (pos e) = 0
down (negsuc e) = suc e

-- n * 10 ^ e in digits in front of a point, of which there are some, and after it
pub record IsSplit (n : ℕ) (e : ℤ) (whole fraction : List ℕ) : Type 0 where
  pub some : 0 < length whole
  pub whole_digits : AllDigits 10 whole
  pub fraction_digits : AllDigits 10 fraction
  pub value : digits_value 10 (whole ++ fraction) ≡ scaled n e
  pub fraction_length : length fraction ≡ down e

within : (ds : List ℕ) (n e : ℕ) (b : Bool) → nat_lt (suc e) (length ds) ≡ b → AllDigits 10 ds →
    digits_value 10 ds ≡ n →
    IsSplit n (negsuc e) (cond b (take (length ds - suc e) ds) (48 ∷ []))
    (cond b (drop (length ds - suc e) ds) (replicate (suc e - length ds) 48 ++ ds))
within ds n e true less is value =
    let few : suc e < length ds = ltb-true (suc e) (length ds) less in
    let at = length ds - suc e in
    let front : length (take at ds) ≡ at = length-take-le at ds (omega arith) in
    let same : digits_value 10 (take at ds ++ drop at ds) ≡ n = ap (digits_value 10) (take-append-drop at ds) ∙ value in
    let long : length (drop at ds) ≡ suc e = length-drop at ds ∙ omega (arith, few) in
    record {
      some = omega (arith, few, front);
      whole_digits = front_digits at ds is;
      fraction_digits = rest_digits at ds is;
      value = same;
      fraction_length = long;
    }
within ds n e false less is value =
    let many : length ds ≤ suc e = ltb-false (suc e) (length ds) less in
    let zeros = suc e - length ds in
    let leading : digits_value_after 10 0 (replicate zeros 48) ≡ 0 = zeros_after 0 zeros ∙ zero-mul (10 ^ zeros) in
    let same : digits_value 10 ((48 ∷ []) ++ (replicate zeros 48 ++ ds)) ≡ n =
    after_append 0 (replicate zeros 48) ds ∙ ap (λ k. digits_value_after 10 k ds) leading ∙ value in
    let long : length (replicate zeros 48 ++ ds) ≡ suc e = length-append (replicate zeros 48) ds
    ∙ omega (arith, length-replicate {A = ℕ} zeros 48, many) in
    record {
      some = omega arith;
      whole_digits = (omega arith, tt);
      fraction_digits = both_digits (replicate zeros 48) ds (zeros_digits zeros) is;
      value = same;
      fraction_length = long;
    }

pub split : (ds : List ℕ) (n : ℕ) (e : ℤ) → AllDigits 10 ds → 0 < length ds → digits_value 10 ds ≡ n →
    IsSplit n e (whole_of ds e) (fraction_of ds e)
split ds n (pos e) is some value =
    let same : digits_value 10 ((ds ++ replicate e 48) ++ []) ≡ n * 10 ^ e =
    ap (digits_value 10) (append-nil (ds ++ replicate e 48)) ∙ after_append 0 ds (replicate e 48)
    ∙ ap (λ k. digits_value_after 10 k (replicate e 48)) value ∙ zeros_after n e in
    record {
      some = omega (arith, some, length-append ds (replicate e 48));
      whole_digits = both_digits ds (replicate e 48) is (zeros_digits e);
      fraction_digits = tt;
      value = same;
      fraction_length = refl;
    }
split ds n (negsuc e) is some value = within ds n e (nat_lt (suc e) (length ds)) refl is value

pub decimal_split : (d : Decimal) → d.digits < 2 ^ 64 → IsSplit d.digits d.exponent (whole_digits d) (fraction_digits d)
decimal_split d fits =
    let own = decimal_is_IsNumeral d.digits fits in
    split (decimal d.digits) d.digits d.exponent own.0.1 own.0.0 own.1

-- the text of such digits, and of an exponent

abbrev parts : (whole fraction : List ℕ) (down : Bool) (exponent : List ℕ) → Parts
parts whole [] down exponent = record {
  whole = whole;
  point = false;
  fraction = [];
  exponent_negative = down;
  exponent = exponent;
  len = length (whole ++ power_text down exponent);
}
parts whole (b ∷ ds) down exponent = record {
  whole = whole;
  point = true;
  fraction = b ∷ ds;
  exponent_negative = down;
  exponent = exponent;
  len = length (whole ++ ((46 ∷ b ∷ ds) ++ power_text down exponent));
}

formed : (whole fraction : List ℕ) (down : Bool) (exponent : List ℕ) → AllDigits 10 whole →
    AllDigits 10 fraction → AllDigits 10 exponent →
    (exponent ≡ [] → down ≡ false) → IsWellFormed (parts whole fraction down exponent)
formed whole [] down exponent p q r up = record {
  whole_digits = p;
  fraction_digits = tt;
  exponent_digits = r;
  no_point = λ e. refl;
  no_exponent = up;
  len_is = refl;
}
formed whole (b ∷ ds) down exponent p q r up = record {
  whole_digits = p;
  fraction_digits = q;
  exponent_digits = r;
  no_point = λ e. absurd (true≢false e);
  no_exponent = up;
  len_is = refl;
}

-- the number that the digits and the exponent give
abbrev decimal_parts : Format → Bool → (whole fraction : List ℕ) (down : Bool) (exponent : List ℕ) → Float
decimal_parts f negative whole fraction down exponent =
    round f negative (digits_value 10 (whole ++ fraction) * 10 ^ cond down 0 (digits_value 10 exponent))
    (10 ^ (length fraction + cond down (digits_value 10 exponent) 0))

parts_read : (f : Format) (negative : Bool) (whole fraction : List ℕ) (down : Bool) (exponent : List ℕ) →
    AllDigits 10 whole → AllDigits 10 fraction → AllDigits 10 exponent → (exponent ≡ [] → down ≡ false) →
    0 < length whole →
    parse_float f (sign_text negative ++ (whole ++ (fraction_text fraction ++ power_text down exponent)))
    ≡ Some (decimal_parts f negative whole fraction down exponent)
parts_read f negative whole [] down exponent p q r up some =
    parse_float-text_of f negative (parts whole [] down exponent) (formed whole [] down exponent p q r up) some
parts_read f negative whole (b ∷ ds) down exponent p q r up some =
    parse_float-text_of f negative (parts whole (b ∷ ds) down exponent)
    (formed whole (b ∷ ds) down exponent p q r up) some

-- an exponent that is written
power_is : (down : Bool) (exponent : List ℕ) → 0 < length exponent → power_text down exponent
    ≡ 101 ∷ (sign_text down ++ exponent)
power_is down [] some = absurd (omega (arith, some))
power_is down (b ∷ ds) some = refl

written_power : (f : Format) (negative : Bool) (whole fraction : List ℕ) (down : Bool) (n : ℕ) → n < 2 ^ 64 →
    AllDigits 10 whole → AllDigits 10 fraction → 0 < length whole →
    parse_float f (sign_text negative ++ (whole ++ (fraction_text fraction ++ (101 ∷ (sign_text down ++ decimal n)))))
    ≡ Some (round f negative (digits_value 10 (whole ++ fraction) * 10 ^ cond down 0 n)
    (10 ^ (length fraction + cond down n 0)))
written_power f negative whole fraction down n fits p q some =
    let own = decimal_is_IsNumeral n fits in
    let longer : decimal n ≡ [] → ⊥ = λ e. (let none : length (decimal n)
    ≡ 0 = ap length e in omega (arith, none, own.0.0)) in
    ap (λ t. parse_float f (sign_text negative ++ (whole ++ (fraction_text fraction ++ t))))
    (sym (power_is down (decimal n) own.0.0))
    ∙ parts_read f negative whole fraction down (decimal n) p q own.0.1 (λ e. absurd (longer e)) some
    ∙ ap (λ k. Some (round f negative (digits_value 10 (whole ++ fraction) * 10 ^ cond down 0 k)
    (10 ^ (length fraction + cond down k 0)))) own.1

pub text_read : (f : Format) (negative : Bool) (whole fraction : List ℕ) (e : ℤ) → nat_abs e < 2 ^ 64 →
    AllDigits 10 whole → AllDigits 10 fraction → 0 < length whole →
    parse_float f (sign_text negative ++ (whole ++ (fraction_text fraction ++ exponent_text e)))
    ≡ Some (decimal_float f negative whole fraction e)
text_read f negative whole fraction (pos zero) small p q some =
    parts_read f negative whole fraction false [] p q tt (λ e. refl) some
    ∙ ap (λ k. Some (round f negative (digits_value 10 (whole ++ fraction) * 10 ^ 0) (10 ^ k)))
    {x = length fraction + 0} {y = length fraction} (omega arith)
text_read f negative whole fraction (pos (suc n)) small p q some =
    written_power f negative whole fraction false (suc n) small p q some
    ∙ ap (λ k. Some (round f negative (digits_value 10 (whole ++ fraction) * 10 ^ suc n) (10 ^ k)))
    {x = length fraction + 0} {y = length fraction} (omega arith)
text_read f negative whole fraction (negsuc n) small p q some =
    written_power f negative whole fraction true (suc n) small p q some
    ∙ ap (λ k. Some (round f negative k (10 ^ (length fraction + suc n))))
    (mul-one (digits_value 10 (whole ++ fraction)))

-- what the digits of a numeral give

decimal_scaled : (f : Format) (negative : Bool) (n : ℕ) (e : ℤ) → round f negative (scaled n e) (10 ^ down e)
    ≡ nearest_to_decimal f negative n e
decimal_scaled f negative n (pos e) = refl
decimal_scaled f negative n (negsuc e) = refl

pub decimal_plain : (f : Format) (negative : Bool) (n : ℕ) (e : ℤ) (whole fraction : List ℕ) →
    IsSplit n e whole fraction →
    decimal_float f negative whole fraction (pos 0) ≡ nearest_to_decimal f negative n e
decimal_plain f negative n e whole fraction s =
    ap (λ k. round f negative k (10 ^ length fraction)) (mul-one (digits_value 10 (whole ++ fraction)))
    ∙ (λ i. round f negative (s.value i) (10 ^ s.fraction_length i)) ∙ decimal_scaled f negative n e

pub decimal_float_is : (f : Format) (d : Decimal) → d.digits < 2 ^ 64 →
    decimal_float f d.negative (whole_digits d) (fraction_digits d) (pos 0) ≡ denoted f d
decimal_float_is f d fits = decimal_plain f d.negative d.digits d.exponent (whole_digits d) (fraction_digits d)
    (decimal_split d fits)

half_by : (n : ℕ) (e : ℤ) → half_size (scaled n e) (10 ^ down e) ≡ half_of n e
half_by n (pos e) = refl
half_by n (negsuc e) = refl

pub decimal_half_is : (d : Decimal) → d.digits < 2 ^ 64 → decimal_half d.negative (whole_digits d) (fraction_digits d)
    ≡ denoted_half d
decimal_half_is d fits =
    let s = decimal_split d fits in
    ap (λ n. cond d.negative 32768 0 + n) ((λ i. half_size (s.value i) (10 ^ s.fraction_length i))
    ∙ half_by d.digits d.exponent)

pub numeral_read : (f : Format) (d : Decimal) → d.digits < 2 ^ 64 → parse_float f (numeral_text d) ≡ Some (denoted f d)
numeral_read f d fits =
    let s = decimal_split d fits in
    ap (λ t. parse_float f (sign_text d.negative ++ (whole_digits d ++ t)))
    (sym (append-nil (fraction_text (fraction_digits d))))
    ∙ text_read f d.negative (whole_digits d) (fraction_digits d) (pos 0) (omega arith) s.whole_digits
    s.fraction_digits s.some
    ∙ ap Some (decimal_float_is f d fits)
