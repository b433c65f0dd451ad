-- The whole numbers that `Value` reads are those that a numeral says.
use Rattle.std.proofs.Common.{◌≡◌, ◌<◌, ◌^◌, ℕ, zero, suc, List, [], ◌∷◌, Option, Some, None, true, false, length, refl, ap, sym, inl, inr, rules}
use Rattle.std.specs.Prelude.{◌&&◌, if◌then◌else◌, ℤ, pos, negsuc, nat_lt, ok_or, MatchOption}
use Rattle.std.specs.Int.{w64}
use Rattle.std.specs.Char.{digit_value}
use Rattle.std.specs.Str.Parse.{AllDigits, digits_value, without_leading_plus, ParsesUnsigned}
use Rattle.std.specs.Str.Parse.{without_leading_sign, signed_digits_value, ParsesSigned}
use Rattle.std.specs.declared.num.NonZeroU32.{NonZeroU32}
use Rattle.std.proofs.Math.Nat.{zero-lt-suc}
use Rattle.std.proofs.Props.{props}
use Rattle.std.proofs.lemmas.Bool.{cases_Bool}
use mir.Val.{SFits}
use Rattle.json.specs.Json.{Json}
use Rattle.naga_ir.specs.declared.types.ArraySize.{ArraySize}
use Rattle.naga_json.specs.Said.{◌>>=◌}
use Rattle.naga_json.specs.Numbers.{all_digits, is_numeral, whole_of, fits, is_minus_zero}
use Rattle.naga_json.specs.Numbers.{integer_of, non_zero, unsigned_said, constant_size_said}

all_digits-from : (ds : List ℕ) → AllDigits 10 ds → all_digits ds ≡ true
all_digits-from [] h = refl
all_digits-from (c ∷ cs) h =
    let first : nat_lt (digit_value c) 10 ≡ true = search rules in
    rw (first, all_digits-from cs h.1) refl

all_digits-to : (ds : List ℕ) → all_digits ds ≡ true → AllDigits 10 ds
all_digits-to [] h = tt
all_digits-to (c ∷ cs) h =
    let rest : all_digits cs ≡ true = search rules in
    (search rules, all_digits-to cs rest)

read_whole : (s : List ℕ) (r : Option ℕ) → ParsesUnsigned 64 10 s (ok_or r s) → r ≡ whole_of s
read_whole s (Some x) h =
    let ds = without_leading_plus s in
    let filled : nat_lt 0 (length ds) ≡ true = search rules in
    let fits : nat_lt (digits_value 10 ds) (2 ^ 64) ≡ true = search rules in
    rw (filled, all_digits-from ds h.0.0.1, fits) (ap (λ v. Some v) h.1)
read_whole s None h =
    let ds = without_leading_plus s in
    elim (cases_Bool (nat_lt 0 (length ds) && all_digits ds && nat_lt (digits_value 10 ds) (2 ^ 64))) [
      | inl holds ↦
          let digits : all_digits ds ≡ true = search rules in
          absurd (h ((search rules, all_digits-to ds digits), search rules))
      | inr fails ↦ rw fails refl
    ]

pub whole_read : (o : Option (List ℕ)) (r : Option ℕ)
    → MatchOption o (r ≡ None) (λ s. ParsesUnsigned 64 10 s (ok_or r s)) → r ≡ (o >>= whole_of)
whole_read None r h = h
whole_read (Some s) r h = read_whole s r h

fits-from : (z : ℤ) → SFits w64 z → fits 64 z ≡ true
fits-from (pos n) h = let within = h.sfits in search rules
fits-from (negsuc n) h = let within = h.sfits in search rules

fits-to : (z : ℤ) → fits 64 z ≡ true → SFits w64 z
fits-to (pos n) h = record { sfits = search rules }
fits-to (negsuc n) h = record { sfits = search rules }

integer_read : (s : List ℕ) (r : Option ℤ) → ParsesSigned w64 10 s (ok_or r s)
    → r ≡ (if is_numeral (without_leading_sign s) && fits 64 (signed_digits_value 10 s)
    then Some (signed_digits_value 10 s) else None)
integer_read s (Some x) h =
    let ds = without_leading_sign s in
    let filled : nat_lt 0 (length ds) ≡ true = search rules in
    rw (filled, all_digits-from ds h.0.0.1, fits-from (signed_digits_value 10 s) h.0.1) (ap (λ v. Some v) h.1)
integer_read s None h =
    let ds = without_leading_sign s in
    elim (cases_Bool (is_numeral ds && fits 64 (signed_digits_value 10 s))) [
      | inl holds ↦
          let digits : all_digits ds ≡ true = search rules in
          let within : fits 64 (signed_digits_value 10 s) ≡ true = search rules in
          absurd (h ((search rules, all_digits-to ds digits), fits-to (signed_digits_value 10 s) within))
      | inr fails ↦ rw fails refl
    ]

pub minus_zero_read : (o : Option (List ℕ)) → is_minus_zero o ≡ true → None ≡ (o >>= integer_of)
minus_zero_read None e = refl
minus_zero_read (Some s) e = rw e refl

pub signed_read : (o : Option (List ℕ)) (r : Option ℤ) → is_minus_zero o ≡ false
    → MatchOption o (r ≡ None) (λ s. ParsesSigned w64 10 s (ok_or r s)) → r ≡ (o >>= integer_of)
signed_read None r e h = h
signed_read (Some s) r e h = rw e (integer_read s r h)

-- The ghost field of a count that is not 0 has one proof.
counted : (n : ℕ) (positive : 0 < n) → non_zero n ≡ Some (record { value = n; ok = positive })
counted zero positive = absurd search rules
counted (suc n) positive =
    let one : IsProp (0 < suc n) = Prim.hlevel props in
    ap (λ p. Some (record { value = suc n; ok = p })) (one (zero-lt-suc n) positive)

pub constant_size_read : (j : Json) (n : ℕ) (count : NonZeroU32) → unsigned_said 32 j ≡ Some n → count.value ≡ n
    → constant_size_said j ≡ Some (ArraySize.Constant count)
constant_size_read j n count e f = rw (e, sym f, counted count.value count.ok) refl
