-- The digits and the exponent by which a number of eight bytes is written give what its numeral
-- denotes, and their text is read so.
use Rattle.std.proofs.Common.{◌≡◌, ℕ, suc, ◌+◌, ◌-◌, ◌*◌, ◌^◌, ◌<◌, ◌≤◌, refl, sym, ap, ◌∙◌, arith}
use Rattle.std.proofs.Common.{Bool, true, false, cond}
use Rattle.std.proofs.Common.{ℤ, pos, negsuc, nat_abs, ◌+ℤ◌, List, [], ◌∷◌, ◌++◌, length, take, drop, replicate}
use Rattle.std.specs.Prelude.{Some}
use Rattle.std.specs.Float.{Format}
use Rattle.std.specs.Float.Parse.{parse_float}
use Rattle.std.specs.Fmt.{decimal}
use Rattle.std.specs.Str.Parse.{AllDigits, digits_value, digits_value_after}
use Rattle.std.proofs.lemmas.Fmt.{decimal_is_IsNumeral, length-decimal-le}
use Rattle.std.proofs.lemmas.List.{take-append-drop, length-drop, length-take-le}
use Rattle.std.proofs.lemmas.Bool.{ltb-true, ltb-false}
use Rattle.std.specs.Char.{digit_value}
use lib.Dec.{ltb}
use native.Mathlib.Nat.{mul_assoc, mul_comm, mul-one, one-le-pow}
use lib.Ieee.{round}
use lib.Ieee.Scale.{round_same}
use lib.Pow.{pow-add}
use Rattle.fast_float.specs.Rounding.{nearest_to_decimal}
use Rattle.decimal_numerals.specs.declared.decimal.Decimal.{Decimal}
use Rattle.decimal_numerals.specs.Denoted.{denoted, decimal_float}
use Rattle.float_numerals.specs.Texts.{whole_of, fraction_of, some_fraction_of, leading_power, has_plain_form}
use Rattle.float_numerals.specs.Texts.{double_whole, double_fraction, double_exponent, double_numeral_text}
use Rattle.float_numerals.proofs.Numerals.{after_append, zeros_after, front_digits, rest_digits}
use Rattle.float_numerals.proofs.Numerals.{split, decimal_plain, text_read}

ten_pos : (n : ℕ) → 0 < 10 ^ n
ten_pos n = one-le-pow n 10 (omega arith)

-- a numerator and a denominator, both times a power of ten
decimal_up : (f : Format) (negative : Bool) (n a m : ℕ) → round f negative (n * 10 ^ (a + m)) (10 ^ m)
    ≡ round f negative (n * 10 ^ a) 1
decimal_up f negative n a m =
    round_same f negative (n * 10 ^ (a + m)) (10 ^ m) (n * 10 ^ a) 1 (ten_pos m) (omega arith)
    (mul-one (n * 10 ^ (a + m)) ∙ ap (λ k. n * k) (pow-add 10 a m) ∙ sym (mul_assoc n (10 ^ a) (10 ^ m)))

decimal_across : (f : Format) (negative : Bool) (n a m : ℕ) → round f negative (n * 10 ^ a) (10 ^ (m + a))
    ≡ round f negative n (10 ^ m)
decimal_across f negative n a m =
    round_same f negative (n * 10 ^ a) (10 ^ (m + a)) n (10 ^ m) (ten_pos (m + a)) (ten_pos m)
    (mul_assoc n (10 ^ a) (10 ^ m) ∙ ap (λ k. n * k) (mul_comm (10 ^ a) (10 ^ m) ∙ sym (pow-add 10 m a)))

-- with an exponent
decimal_scientific : (f : Format) (negative : Bool) (ds : List ℕ) (n : ℕ) (e : ℤ) → digits_value 10 ds ≡ n →
    0 < length ds →
    decimal_float f negative (take 1 ds) (drop 1 ds) (leading_power ds e) ≡ nearest_to_decimal f negative n e
decimal_scientific f negative ds n (pos e) value some =
    let m = length ds - 1 in
    let same : digits_value 10 (take 1 ds ++ drop 1 ds) ≡ n = ap (digits_value 10) (take-append-drop 1 ds) ∙ value in
    let long : length (drop 1 ds) ≡ m = length-drop 1 ds in
    (λ i. round f negative (same i * 10 ^ (e + m)) (10 ^ long i)) ∙ decimal_up f negative n e m
decimal_scientific f negative ds n (negsuc e) value some = at (ltb m (suc e)) refl
  where
    m : ℕ
    m = length ds - 1

    same : digits_value 10 (take 1 ds ++ drop 1 ds) ≡ n
    same = ap (digits_value 10) (take-append-drop 1 ds) ∙ value

    long : length (drop 1 ds) ≡ m
    long = length-drop 1 ds

    at : (b : Bool) → ltb m (suc e) ≡ b →
        decimal_float f negative (take 1 ds) (drop 1 ds) (cond b (negsuc (suc e - suc m)) (pos (m - suc e)))
        ≡ round f negative n (10 ^ suc e)
    at true is =
        let whole : length (drop 1 ds) + suc (suc e - suc m) ≡ suc e = omega (arith, long, ltb-true m (suc e) is) in
        λ i. round f negative (same i) (10 ^ whole i)
    at false is =
        let whole : length (drop 1 ds) ≡ suc e + (m - suc e) = omega (arith, long, ltb-false m (suc e) is) in
        (λ i. round f negative (same i * 10 ^ (m - suc e)) (10 ^ whole i))
        ∙ decimal_across f negative n (m - suc e) (suc e)

-- without one
mul_ten : (k : ℕ) → k * 10 + digit_value 48 ≡ k * 10
mul_ten k = omega arith

decimal_pointed : (f : Format) (negative : Bool) (ds : List ℕ) (n : ℕ) (e : ℤ) → AllDigits 10 ds →
    digits_value 10 ds ≡ n → 0 < length ds →
    decimal_float f negative (whole_of ds e) (some_fraction_of ds e) (pos 0) ≡ nearest_to_decimal f negative n e
decimal_pointed f negative ds n (pos e) is value some =
    let front = ds ++ replicate e 48 in
    let number : digits_value 10 front ≡ n * 10 ^ e = after_append 0 ds (replicate e 48)
    ∙ ap (λ k. digits_value_after 10 k (replicate e 48)) value ∙ zeros_after n e in
    let longer : digits_value 10 (front ++ 48 ∷ []) ≡ n * 10 ^ e * 10 = after_append 0 front (48 ∷ [])
    ∙ ap (λ k. k * 10 + digit_value 48) number ∙ mul_ten (n * 10 ^ e) in
    round_same f negative (digits_value 10 (front ++ 48 ∷ []) * 10 ^ 0) (10 ^ 1) (n * 10 ^ e) 1 (omega arith)
    (omega arith) (omega (arith, longer))
decimal_pointed f negative ds n (negsuc e) is value some =
    decimal_plain f negative n (negsuc e) (whole_of ds (negsuc e)) (fraction_of ds (negsuc e))
    (split ds n (negsuc e) is some value)

decimal_either : (f : Format) (negative : Bool) (ds : List ℕ) (n : ℕ) (e : ℤ) (b : Bool) → AllDigits 10 ds →
    digits_value 10 ds ≡ n → 0 < length ds →
    decimal_float f negative (cond b (whole_of ds e) (take 1 ds)) (cond b (some_fraction_of ds e) (drop 1 ds))
    (cond b (pos 0) (leading_power ds e)) ≡ nearest_to_decimal f negative n e
decimal_either f negative ds n e true is value some = decimal_pointed f negative ds n e is value some
decimal_either f negative ds n e false is value some = decimal_scientific f negative ds n e value some

pub decimal_double_is : (f : Format) (d : Decimal) → d.digits < 2 ^ 64 →
    decimal_float f d.negative (double_whole d) (double_fraction d) (double_exponent d) ≡ denoted f d
decimal_double_is f d fits =
    let own = decimal_is_IsNumeral d.digits fits in
    let ds = decimal d.digits in
    decimal_either f d.negative ds d.digits d.exponent (has_plain_form (leading_power ds d.exponent))
    own.0.1 own.1 own.0.0

-- what stands before the point and after it are digits, of which there are some before it, and the
-- exponent is in range
pub record AreDigitsInRange (whole fraction : List ℕ) (e : ℤ) : Type 0 where
  pub some : 0 < length whole
  pub whole_digits : AllDigits 10 whole
  pub fraction_digits : AllDigits 10 fraction
  pub small : nat_abs e < 2 ^ 64

leading_small : (e : ℤ) (m : ℕ) → nat_abs e ≤ 2 ^ 63 → m < 2 ^ 63 → nat_abs (e +ℤ pos m) < 2 ^ 64
leading_small (pos a) m small few = omega (arith, small, few)
leading_small (negsuc a) m small few = at (ltb m (suc a))
  where
    at : (b : Bool) → nat_abs (cond b (negsuc (suc a - suc m)) (pos (m - suc a))) < 2 ^ 64
    at true = omega (arith, small)
    at false = omega (arith, few)

pointed_in_range : (ds : List ℕ) (n : ℕ) (e : ℤ) → AllDigits 10 ds → digits_value 10 ds ≡ n → 0 < length ds →
    AreDigitsInRange (whole_of ds e) (some_fraction_of ds e) (pos 0)
pointed_in_range ds n (pos e) is value some =
    let s = split ds n (pos e) is some value in
    record { some = s.some; whole_digits = s.whole_digits; fraction_digits = (omega arith, tt); small = omega arith }
pointed_in_range ds n (negsuc e) is value some =
    let s = split ds n (negsuc e) is some value in
    record { some = s.some; whole_digits = s.whole_digits; fraction_digits = s.fraction_digits; small = omega arith }

either_in_range : (ds : List ℕ) (n : ℕ) (e : ℤ) (b : Bool) → AllDigits 10 ds → digits_value 10 ds ≡ n →
    0 < length ds → nat_abs e ≤ 2 ^ 63 → length ds ≤ 20 →
    AreDigitsInRange (cond b (whole_of ds e) (take 1 ds)) (cond b (some_fraction_of ds e) (drop 1 ds))
    (cond b (pos 0) (leading_power ds e))
either_in_range ds n e true is value some small few = pointed_in_range ds n e is value some
either_in_range ds n e false is value some small few = record {
  some = omega (arith, some, length-take-le 1 ds some);
  whole_digits = front_digits 1 ds is;
  fraction_digits = rest_digits 1 ds is;
  small = leading_small e (length ds - 1) small (omega (arith, few));
}

pub double_in_range : (d : Decimal) → d.digits < 2 ^ 64 → nat_abs d.exponent ≤ 2 ^ 63 →
    AreDigitsInRange (double_whole d) (double_fraction d) (double_exponent d)
double_in_range d fits small =
    let own = decimal_is_IsNumeral d.digits fits in
    let ds = decimal d.digits in
    let few : length ds ≤ 20 = length-decimal-le 20 d.digits (omega arith) (omega (arith, fits)) fits in
    either_in_range ds d.digits d.exponent (has_plain_form (leading_power ds d.exponent))
    own.0.1 own.1 own.0.0 small few

pub double_read : (f : Format) (d : Decimal) → d.digits < 2 ^ 64 → nat_abs d.exponent ≤ 2 ^ 63 →
    parse_float f (double_numeral_text d) ≡ Some (denoted f d)
double_read f d fits small =
    let w = double_in_range d fits small in
    text_read f d.negative (double_whole d) (double_fraction d) (double_exponent d) w.small w.whole_digits
    w.fraction_digits w.some
    ∙ ap Some (decimal_double_is f d fits)
