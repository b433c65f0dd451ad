-- How a ascii_of grows at its end, one character after another, and what every stem looks like: a
-- word that ends in no `_`.
use Rattle.std.proofs.Common.{◌≡◌, ℕ, ◌<◌, suc, Bool, true, false, cond, not, ◌&&◌, List, []}
use Rattle.std.proofs.Common.{◌∷◌, ◌++◌, length, take, drop, refl, sym, ap, subst, ◌∙◌}
use Rattle.std.proofs.Common.{append_assoc, arith, ◌||◌, inl, inr, zero, codes, ◌+◌, map, add-one}
use Rattle.std.proofs.Common.{◌-◌, ◌^◌, ◌/◌, ◌%◌, ◌==◌, get_or, replicate, ◌⊎◌, length-append}
use Rattle.std.proofs.Common.{one-add, drop-cons, Bor, append-nil}
use Rattle.std.specs.Result.{is_ok, OnOk, OnErr}
use Rattle.std.specs.Bool.{nat_eq}
use Rattle.std.specs.Str.{chars}
use Rattle.std.proofs.lemmas.Str.{chars-IsAscii}
use Rattle.std.proofs.lemmas.Str.Ascii.{IsAscii-nil, IsAscii-push}
use Rattle.std.specs.declared.result.Result.{Result}
use Rattle.std.specs.declared.result.Result.TheVariants.{Ok, Err}
use Rattle.std.specs.List.{list_all, starts_with, list_any, flat_map, prefix_len}
use Rattle.std.specs.Fmt.{decimal, digits, digits_onto, digit_glyph, padded_integral, format_spec}
use Rattle.std.specs.Fmt.{char_count, digits_output, styled_digits_output, AppendsText, ◌++?◌}
use Rattle.std.specs.Option.{option_map}
use Rattle.std.specs.declared.option.Option.TheVariants.{Some}
use Rattle.std.specs.Char.{is_ascii_digit, is_ascii_lowercase, is_ascii_alphanumeric}
use Rattle.std.proofs.lemmas.Grind.{flat_map-append}
use Rattle.std.proofs.lemmas.List.Folds.{list_all-append}
use Rattle.std.proofs.lemmas.Bool.Decides.{nat_tests}
use Rattle.std.proofs.lemmas.Bool.{and_parts, not-true, or_parts}
use Rattle.std.proofs.Math.Bool.{and-false}
use borrow.Author.Tests.{eqb-true}
use Rattle.naga_keywords.specs.Plain.{is_identifier_char}
use Rattle.naga_naming.specs.Label.{is_numeric, after_numerics, is_mark, is_foreign, hexadecimal}
use Rattle.naga_naming.specs.Label.{by_number, character_ascii, begins_separated}
use Rattle.naga_naming.specs.Label.{without_repeated_underscores, begins_foreign}
use Rattle.naga_naming.specs.Label.{ascii_of, ends_separated, with_separator, kept_before}
use Rattle.naga_naming.specs.Label.{without_last_separators, or_unnamed, set_apart, stem_of, IsPlain}
use Rattle.naga_naming.specs.Label.{StaysSame}
use Rattle.naga_naming.specs.Naming.{digits_of}

-- ---- numeric characters at the front
pub after_numerics-drop : (cs : List ℕ) → after_numerics cs ≡ drop (prefix_len is_numeric cs) cs
after_numerics-drop [] = refl
after_numerics-drop (c ∷ cs) =
    elim (is_numeric c) as
    (λ b. cond b (after_numerics cs) (c ∷ cs) ≡ drop (cond b (1 + prefix_len is_numeric cs) 0)
    (c ∷ cs)) [ true ↦ after_numerics-drop cs ∙ rw one-add refl | false ↦ refl ]

-- ---- `_` at the end
pub get_or-last : (c d : ℕ) (text : List ℕ) → get_or (c ∷ d ∷ text) (length (c ∷ d ∷ text) - 1) 0
    ≡ get_or (d ∷ text) (length (d ∷ text) - 1) 0
get_or-last c d text = grind (arith)

pub ends_separated-last : (text : List ℕ) → (get_or text (length text - 1) 0 == 95) ≡ ends_separated text
ends_separated-last [] = refl
ends_separated-last (c ∷ []) = refl
ends_separated-last (c ∷ d ∷ text) = ap (λ x. x == 95) (get_or-last c d text) ∙ ends_separated-last (d ∷ text)

pub with_separator-yes : (text : List ℕ) → ends_separated text ≡ true → with_separator text ≡ text
with_separator-yes text e = ap (λ b. cond b text (text ++ codes "_")) e

pub with_separator-not : (text : List ℕ) → ends_separated text ≡ false → with_separator text ≡ text ++ codes "_"
with_separator-not text e = ap (λ b. cond b text (text ++ codes "_")) e

with_separator-cons : (c d : ℕ) (text : List ℕ) → with_separator (c ∷ d ∷ text) ≡ c ∷ with_separator (d ∷ text)
with_separator-cons c d text =
    elim (ends_separated (d ∷ text)) as (λ b. cond b (c ∷ d ∷ text) (c ∷ d ∷ text ++ codes "_") ≡
    c ∷ cond b (d ∷ text) (d ∷ text ++ codes "_")) [ true ↦ refl | false ↦ refl ]

pub without_last-push : (text : List ℕ) → without_last_separators (text ++ 95 ∷ []) ≡ without_last_separators text
without_last-push [] = refl
without_last-push (c ∷ text) = ap (kept_before c) (without_last-push text)

pub without_last-done : (text : List ℕ) → ends_separated text ≡ false → without_last_separators text ≡ text
without_last-done [] e = refl
without_last-done (c ∷ []) e = ap (λ b. cond b [] (c ∷ [])) e
without_last-done (c ∷ d ∷ text) e = ap (kept_before c) (without_last-done (d ∷ text) e)

-- ---- squeezing
squeezed_cons : (c : ℕ) (cs : List ℕ) → (d : ℕ) × (ds : List ℕ) × (without_repeated_underscores (c ∷ cs) ≡ d ∷ ds)
squeezed_cons c [] = elim (c == 95) as (λ b. (d : ℕ) × (ds : List ℕ)
    × (cond (b && false) [] (c ∷ []) ≡ d ∷ ds)) [ true ↦ (c, [], refl) | false ↦ (c, [], refl) ]
squeezed_cons c (e ∷ es) = elim (c == 95 && e == 95) as (λ b. (d : ℕ) × (ds : List ℕ) ×
    (cond b (without_repeated_underscores (e ∷ es)) (c ∷ without_repeated_underscores (e ∷ es)) ≡
    d ∷ ds)) [
      | true ↦ squeezed_cons e es
      | false ↦ (
        c,
        without_repeated_underscores (e ∷ es),
        refl,
      )
    ]

pub without_repeated_underscores-push_separator : (cs : List ℕ) → without_repeated_underscores (cs ++ 95 ∷ [])
    ≡ with_separator (without_repeated_underscores cs)
without_repeated_underscores-push_separator [] = refl
without_repeated_underscores-push_separator (c ∷ []) = one (c == 95) refl
  where
    one : (b : Bool) → (c == 95) ≡ b → cond (b && true) (95 ∷ []) (c ∷ 95 ∷ [])
        ≡ with_separator (cond (b && false) [] (c ∷ []))
    one true e = ap (λ x. x ∷ []) (sym (eqb-true c 95 e)) ∙ sym (with_separator-yes (c ∷ []) e)
    one false e = sym (with_separator-not (c ∷ []) e)
without_repeated_underscores-push_separator (c ∷ d ∷ cs) =
    more (without_repeated_underscores-push_separator (d ∷ cs)) (squeezed_cons d cs) (c == 95 && d == 95)
  where
    more : without_repeated_underscores (d ∷ cs ++ 95 ∷ []) ≡ with_separator
        (without_repeated_underscores (d ∷ cs)) → (e : ℕ) × (es : List ℕ) ×
        (without_repeated_underscores (d ∷ cs) ≡ e ∷ es) →
        (b : Bool) → cond b (without_repeated_underscores (d ∷ cs ++ 95 ∷ []))
        (c ∷ without_repeated_underscores (d ∷ cs ++ 95 ∷ [])) ≡ with_separator
        (cond b (without_repeated_underscores (d ∷ cs)) (c ∷ without_repeated_underscores (d ∷ cs)))
    more so_far some true = so_far
    more so_far some false = ap (λ t. c ∷ t) so_far ∙ ap (λ t. c ∷ with_separator t) some.2
        ∙ sym (with_separator-cons c some.0 some.1) ∙ sym (ap (λ t. with_separator (c ∷ t)) some.2)

pub without_repeated_underscores-append : (cs : List ℕ) (d : ℕ) (ds : List ℕ) →
    (d == 95) ≡ false → without_repeated_underscores (cs ++ d ∷ ds) ≡ without_repeated_underscores
    cs ++ without_repeated_underscores (d ∷ ds)
without_repeated_underscores-append [] d ds e = refl
without_repeated_underscores-append (c ∷ []) d ds e =
    ap (λ b. cond b (without_repeated_underscores (d ∷ ds)) (c ∷ without_repeated_underscores (d ∷ ds)))
    (ap (λ b. c == 95 && b) e ∙ and-false (c == 95))
    ∙ sym (ap (λ b. cond b [] (c ∷ []) ++ without_repeated_underscores (d ∷ ds)) (and-false (c == 95)))
without_repeated_underscores-append (c ∷ x ∷ cs) d ds e =
    more (c == 95 && x == 95) (without_repeated_underscores-append (x ∷ cs) d ds e)
  where
    more : (b : Bool) → without_repeated_underscores (x ∷ cs ++ d ∷ ds) ≡
        without_repeated_underscores (x ∷ cs) ++ without_repeated_underscores (d ∷ ds) →
        cond b (without_repeated_underscores (x ∷ cs ++ d ∷ ds))
        (c ∷ without_repeated_underscores (x ∷ cs ++ d ∷ ds)) ≡ cond b
        (without_repeated_underscores (x ∷ cs)) (c ∷ without_repeated_underscores (x ∷ cs)) ++
        without_repeated_underscores (d ∷ ds)
    more true so_far = so_far
    more false so_far = ap (λ t. c ∷ t) so_far

-- no character is `_`
abbrev pub unseparated : List ℕ → Bool
unseparated cs = list_all (λ c. not (c == 95)) cs

unseparated-ends : (cs : List ℕ) → unseparated cs ≡ true → ends_separated cs ≡ false
unseparated-ends [] e = refl
unseparated-ends (c ∷ []) e = not-true (c == 95) (and_parts (not (c == 95)) true e).0
unseparated-ends (c ∷ d ∷ cs) e = unseparated-ends (d ∷ cs) (and_parts (not (c == 95)) (unseparated (d ∷ cs)) e).1

unseparated-without_repeated_underscores : (cs : List ℕ) → unseparated cs ≡ true → without_repeated_underscores cs ≡ cs
unseparated-without_repeated_underscores [] e = refl
unseparated-without_repeated_underscores (c ∷ cs) e =
    let parts = and_parts (not (c == 95)) (unseparated cs) e in
    ap (λ b. cond (b && begins_separated cs) (without_repeated_underscores cs)
    (c ∷ without_repeated_underscores cs)) (not-true (c == 95) parts.0)
    ∙ ap (λ t. c ∷ t) (unseparated-without_repeated_underscores cs parts.1)

unseparated-zeros : (n : ℕ) → unseparated (replicate n 48) ≡ true
unseparated-zeros zero = refl
unseparated-zeros (suc n) = unseparated-zeros n

no_separator_glyph : (d : ℕ) → d < 16 → not (digit_glyph false d == 95) ≡ true
no_separator_glyph d lt = grind (arith, nat_tests)

unseparated-digits : (k n : ℕ) (following : List ℕ) → unseparated following ≡ true →
    unseparated (digits_onto k 16 false n following) ≡ true
unseparated-digits zero n following e = e
unseparated-digits (suc k) n following e =
    more (n / 16 == 0) (ap (λ b. b && unseparated following) (no_separator_glyph (n % 16) (omega arith)) ∙ e)
    (unseparated-digits k (n / 16) (digit_glyph false (n % 16) ∷ following))
  where
    more : (b : Bool) → unseparated (digit_glyph false (n % 16) ∷ following) ≡ true →
        (unseparated (digit_glyph false (n % 16) ∷ following) ≡ true →
        unseparated (digits_onto k 16 false (n / 16) (digit_glyph false (n % 16) ∷ following)) ≡
        true) → unseparated
        (cond b (digit_glyph false (n % 16) ∷ following)
        (digits_onto k 16 false (n / 16) (digit_glyph false (n % 16) ∷ following))) ≡ true
    more true one rest = one
    more false one rest = rest one

unseparated-hexadecimal : (c : ℕ) → unseparated (hexadecimal c) ≡ true
unfolding hexadecimal digits
unseparated-hexadecimal c =
    list_all-append (λ d. not (d == 95)) (replicate (4 - length (digits_onto 64 16 false c [])) 48)
    (digits_onto 64 16 false c [])
    ∙ ap (λ b. b && unseparated (digits_onto 64 16 false c []))
    (unseparated-zeros (4 - length (digits_onto 64 16 false c [])))
    ∙ unseparated-digits 64 c [] refl

-- ---- spellings
pub ascii_of-nil : ascii_of [] ≡ []
unfolding ascii_of
ascii_of-nil = refl

pub character_ascii-mark : (c : ℕ) → is_mark c ≡ true → character_ascii c ≡ codes "_"
character_ascii-mark c mark =
    ap (λ b. cond b (codes "_") (cond (is_identifier_char c) (c ∷ []) (codes "_" ++ by_number c))) mark

pub character_ascii-plain : (c : ℕ) → is_mark c ≡ false → is_identifier_char c ≡ true → character_ascii c ≡ c ∷ []
character_ascii-plain c mark plain =
    ap (λ b. cond b (codes "_") (cond (is_identifier_char c) (c ∷ []) (codes "_" ++ by_number c))) mark
    ∙ ap (λ b. cond b (c ∷ []) (codes "_" ++ by_number c)) plain

pub character_ascii-foreign : (c : ℕ) → is_foreign c ≡ true → character_ascii c ≡ 95 ∷ by_number c
character_ascii-foreign c foreign =
    let parts = and_parts (not (is_mark c)) (not (is_identifier_char c)) foreign in
    ap (λ b. cond b (codes "_") (cond (is_identifier_char c) (c ∷ []) (codes "_" ++ by_number c)))
    (not-true (is_mark c) parts.0)
    ∙ ap (λ b. cond b (c ∷ []) (codes "_" ++ by_number c)) (not-true (is_identifier_char c) parts.1)

without_repeated_underscores-by_number : (c : ℕ) → without_repeated_underscores (by_number c) ≡ by_number c
without_repeated_underscores-by_number c =
    without_repeated_underscores-push_separator (117 ∷ hexadecimal c)
    ∙ ap with_separator (unseparated-without_repeated_underscores (117 ∷ hexadecimal c) (unseparated-hexadecimal c))
    ∙ with_separator-not (117 ∷ hexadecimal c) (unseparated-ends (117 ∷ hexadecimal c) (unseparated-hexadecimal c))

-- the spelled characters, of a foreign first one without its `_`
unfoldable pub body : List ℕ → List ℕ
body cs = cond (begins_foreign cs) (drop 1 (flat_map character_ascii cs)) (flat_map character_ascii cs)

pub ascii_of-body : (cs : List ℕ) → ascii_of cs ≡ without_repeated_underscores (body cs)
unfolding ascii_of body
ascii_of-body [] = refl
ascii_of-body (c ∷ cs) = either (is_foreign c) refl
  where
    either : (b : Bool) → is_foreign c ≡ b →
        cond b (drop 1
        (without_repeated_underscores (character_ascii c ++ flat_map character_ascii cs)))
        (without_repeated_underscores (character_ascii c ++ flat_map character_ascii cs)) ≡
        without_repeated_underscores
        (cond b (drop 1 (character_ascii c ++ flat_map character_ascii cs))
        (character_ascii c ++ flat_map character_ascii cs))
    either true e =
        ap (λ t. drop 1 (without_repeated_underscores (t ++ flat_map character_ascii cs)))
        (character_ascii-foreign c e)
        ∙ sym (ap (λ t. without_repeated_underscores (drop 1 (t ++ flat_map character_ascii cs)))
        (character_ascii-foreign c e))
    either false e = refl

body-push : (c : ℕ) (cs : List ℕ) (d : ℕ) → body (c ∷ cs ++ d ∷ []) ≡ body (c ∷ cs) ++ character_ascii d
unfolding body
body-push c cs d =
    ap (λ t. cond (is_foreign c) (drop 1 t) t)
    (flat_map-append character_ascii (c ∷ cs) (d ∷ [])
    ∙ ap (λ t. flat_map character_ascii (c ∷ cs) ++ t) (append-nil (character_ascii d)))
    ∙ either (is_foreign c) refl
  where
    either : (b : Bool) → is_foreign c ≡ b →
        cond b (drop 1 (character_ascii c ++ flat_map character_ascii cs ++
        character_ascii d)) (character_ascii c ++ flat_map character_ascii cs ++
        character_ascii d) ≡ cond b
        (drop 1 (character_ascii c ++ flat_map character_ascii cs))
        (character_ascii c ++ flat_map character_ascii cs) ++ character_ascii d
    either true e = ap (λ t. drop 1 (t ++ flat_map character_ascii cs ++ character_ascii d))
        (character_ascii-foreign c e)
        ∙ sym (ap (λ t. drop 1 (t ++ flat_map character_ascii cs) ++ character_ascii d)
        (character_ascii-foreign c e))
    either false e = refl

-- one more character
ascii_of-push : (c : ℕ) (cs : List ℕ) (d : ℕ) (text : List ℕ) → character_ascii d ≡ text →
    ascii_of (c ∷ cs ++ d ∷ []) ≡ without_repeated_underscores (body (c ∷ cs) ++ text)
ascii_of-push c cs d text is = ascii_of-body (c ∷ cs ++ d ∷ []) ∙ ap without_repeated_underscores
    (body-push c cs d ∙ ap (λ t. body (c ∷ cs) ++ t) is)

-- the first character, where it is not foreign
ascii_of-first : (d : ℕ) (text : List ℕ) → is_foreign d ≡ false → character_ascii d ≡ text →
    ascii_of (d ∷ []) ≡ without_repeated_underscores text
unfolding ascii_of
ascii_of-first d text plain is =
    ap (λ b. cond b (drop 1 (without_repeated_underscores (character_ascii d ++ [])))
    (without_repeated_underscores (character_ascii d ++ []))) plain
    ∙ ap without_repeated_underscores (append-nil (character_ascii d) ∙ is)

not_foreign-mark : (c : ℕ) → is_mark c ≡ true → is_foreign c ≡ false
not_foreign-mark c mark = ap (λ b. not b && not (is_identifier_char c)) mark

not_foreign-plain : (c : ℕ) → is_identifier_char c ≡ true → is_foreign c ≡ false
not_foreign-plain c plain = ap (λ b. not (is_mark c) && not b) plain ∙ and-false (not (is_mark c))

pub ascii_of-separator : (cs : List ℕ) (c : ℕ) → is_mark c ≡ true → ascii_of (cs ++ c ∷ [])
    ≡ with_separator (ascii_of cs)
ascii_of-separator [] c mark = ascii_of-first c (codes "_") (not_foreign-mark c mark)
    (character_ascii-mark c mark) ∙ sym (ap with_separator ascii_of-nil)
ascii_of-separator (d ∷ cs) c mark =
    ascii_of-push d cs c (codes "_") (character_ascii-mark c mark)
    ∙ without_repeated_underscores-push_separator (body (d ∷ cs)) ∙ ap with_separator (sym (ascii_of-body (d ∷ cs)))

pub ascii_of-underscore : (cs : List ℕ) → ascii_of (cs ++ 95 ∷ []) ≡ with_separator (ascii_of cs)
ascii_of-underscore [] = ascii_of-first 95 (codes "_") refl refl ∙ sym (ap with_separator ascii_of-nil)
ascii_of-underscore (d ∷ cs) =
    ascii_of-push d cs 95 (codes "_") refl ∙ without_repeated_underscores-push_separator (body (d ∷ cs))
    ∙ ap with_separator (sym (ascii_of-body (d ∷ cs)))

without_repeated_underscores-one : (c : ℕ) → without_repeated_underscores (c ∷ []) ≡ c ∷ []
without_repeated_underscores-one c = ap (λ b. cond b [] (c ∷ [])) (and-false (c == 95))

pub ascii_of-plain : (cs : List ℕ) (c : ℕ) → is_mark c ≡ false → is_identifier_char c ≡ true →
    (c == 95) ≡ false → ascii_of (cs ++ c ∷ []) ≡ ascii_of cs ++ c ∷ []
ascii_of-plain [] c mark plain other = ascii_of-first c (c ∷ []) (not_foreign-plain c plain)
    (character_ascii-plain c mark plain) ∙ without_repeated_underscores-one c
    ∙ sym (ap (λ t. t ++ c ∷ []) ascii_of-nil)
ascii_of-plain (d ∷ cs) c mark plain other =
    ascii_of-push d cs c (c ∷ []) (character_ascii-plain c mark plain)
    ∙ without_repeated_underscores-append (body (d ∷ cs)) c [] other
    ∙ ap (λ t. without_repeated_underscores (body (d ∷ cs)) ++ t) (without_repeated_underscores-one c)
    ∙ ap (λ t. t ++ c ∷ []) (sym (ascii_of-body (d ∷ cs)))

body_cons : (c : ℕ) (cs : List ℕ) → (d : ℕ) × (ds : List ℕ) × (body (c ∷ cs) ≡ d ∷ ds)
unfolding body
body_cons c cs = either (is_foreign c) (is_mark c) (is_identifier_char c) refl refl refl
  where
    either : (f m p : Bool) → is_foreign c ≡ f → is_mark c ≡ m → is_identifier_char c ≡ p →
        (d : ℕ) × (ds : List ℕ) ×
        (cond f (drop 1 (character_ascii c ++ flat_map character_ascii cs))
        (character_ascii c ++ flat_map character_ascii cs) ≡ d ∷ ds)
    either true m p f_is m_is p_is = (
      117,
      hexadecimal c ++ codes "_" ++ flat_map character_ascii cs,
      ap (λ t. drop 1 (t ++ flat_map character_ascii cs)) (character_ascii-foreign c f_is),
    )
    either false true p f_is m_is p_is = (
      95,
      flat_map character_ascii cs,
      ap (λ t. t ++ flat_map character_ascii cs)
          (character_ascii-mark c m_is),
    )
    either false false true f_is m_is p_is = (
      c,
      flat_map character_ascii cs,
      ap (λ t. t ++ flat_map character_ascii cs)
          (character_ascii-plain c m_is p_is),
    )
    either false false false f_is m_is p_is =
        absurd (cc (ap (λ b. not b && not (is_identifier_char c)) m_is, ap not p_is, f_is))

pub ascii_of-cons : (c : ℕ) (cs : List ℕ) → (d : ℕ) × (ds : List ℕ) × (ascii_of (c ∷ cs) ≡ d ∷ ds)
ascii_of-cons c cs =
    let some = body_cons c cs in
    let text = squeezed_cons some.0 some.1 in
    (text.0, text.1, ascii_of-body (c ∷ cs) ∙ ap without_repeated_underscores some.2 ∙ text.2)

body-foreign : (c : ℕ) → is_foreign c ≡ true → body (c ∷ []) ≡ by_number c
unfolding body
body-foreign c foreign =
    ap (λ b. cond b (drop 1 (character_ascii c ++ [])) (character_ascii c ++ [])) foreign
    ∙ ap (λ t. drop 1 (t ++ [])) (character_ascii-foreign c foreign) ∙ append-nil (by_number c)

pub ascii_of-first_foreign : (cs : List ℕ) (c : ℕ) → is_foreign c ≡ true → length (ascii_of cs) ≡ 0 →
    ascii_of (cs ++ c ∷ []) ≡ by_number c
ascii_of-first_foreign [] c foreign none = ascii_of-body (c ∷ []) ∙ ap without_repeated_underscores
    (body-foreign c foreign) ∙ without_repeated_underscores-by_number c
ascii_of-first_foreign (d ∷ cs) c foreign none = let some = ascii_of-cons d cs in let long = ap length some.2 in
    absurd (omega (arith, long))

pub ascii_of-later_foreign : (cs : List ℕ) (c : ℕ) → is_foreign c ≡ true → (length (ascii_of cs) ≡ 0 → ⊥) →
    ascii_of (cs ++ c ∷ []) ≡ with_separator (ascii_of cs) ++ by_number c
ascii_of-later_foreign [] c foreign some = absurd (some (ap length ascii_of-nil))
ascii_of-later_foreign (d ∷ cs) c foreign some =
    ascii_of-push d cs c (95 ∷ by_number c) (character_ascii-foreign c foreign)
    ∙ ap without_repeated_underscores (sym (append_assoc (body (d ∷ cs)) (95 ∷ []) (by_number c)))
    ∙ without_repeated_underscores-append (body (d ∷ cs) ++ 95 ∷ []) 117 (hexadecimal c ++ codes "_") refl
    ∙ ap (λ t. without_repeated_underscores (body (d ∷ cs) ++ 95 ∷ []) ++ t) (without_repeated_underscores-by_number c)
    ∙ ap (λ t. t ++ by_number c) (without_repeated_underscores-push_separator (body (d ∷ cs))
    ∙ ap with_separator (sym (ascii_of-body (d ∷ cs))))

-- ---- the same by the tests that the code makes
pub ascii_of-separating : (cs : List ℕ) (c : ℕ) → (is_mark c || c == 95) ≡ true → ascii_of (cs ++ c ∷ [])
    ≡ with_separator (ascii_of cs)
ascii_of-separating cs c test = either (is_mark c) refl test
  where
    either : (b : Bool) → is_mark c ≡ b → (b || c == 95) ≡ true → ascii_of (cs ++ c ∷ []) ≡ with_separator (ascii_of cs)
    either true mark test = ascii_of-separator cs c mark
    either false mark test = ap (λ d. ascii_of (cs ++ d ∷ [])) (eqb-true c 95 test) ∙ ascii_of-underscore cs

pub ascii_of-alphanumeric : (cs : List ℕ) (c : ℕ) → (is_mark c || c == 95) ≡ false → is_ascii_alphanumeric c
    ≡ true → ascii_of (cs ++ c ∷ []) ≡ ascii_of cs ++ c ∷ []
ascii_of-alphanumeric cs c test plain =
    let parts = or_parts (is_mark c) (c == 95) test in
    ascii_of-plain cs c parts.0 (ap (λ b. b || c == 95) plain) parts.1

-- what `{:04x}` writes
pub padded-hexadecimal : (c : ℕ) → padded_integral (format_spec 32 0 4 4 (2 ^ 64 - 1)) false []
    (digits 16 false c) ≡ hexadecimal c
unfolding padded_integral hexadecimal char_count
padded-hexadecimal c =
    let short : 4 - length (digits 16 false c) - 0 - 0 ≡ 4 - length (digits 16 false c) = omega arith in
    ap (λ n. replicate n 48 ++ (digits 16 false c ++ [])) short
    ∙ ap (λ t. replicate (4 - length (digits 16 false c)) 48 ++ t) (append-nil (digits 16 false c))

-- ---- texts that are spelled as they stand
pub ends_separated-push : (cs : List ℕ) (c : ℕ) → ends_separated (cs ++ c ∷ []) ≡ (c == 95)
ends_separated-push [] c = refl
ends_separated-push (d ∷ []) c = refl
ends_separated-push (d ∷ e ∷ cs) c = ends_separated-push (e ∷ cs) c

pub alphanumeric_is_ascii : (c : ℕ) → is_ascii_alphanumeric c ≡ true → c < 128
alphanumeric_is_ascii c e = grind (arith, nat_tests)

pub lowercase_is_alphanumeric : (c : ℕ) → is_ascii_lowercase c ≡ true
    → is_ascii_alphanumeric c ≡ true
lowercase_is_alphanumeric c e = grind (arith, nat_tests)

pub stays-nothing : StaysSame []
stays-nothing = record { ascii = IsAscii-nil; same = ascii_of-nil }

pub stays-letter : (cs : List ℕ) (c : ℕ) → StaysSame cs → is_ascii_alphanumeric c ≡ true
    → StaysSame (cs ++ c ∷ []) × (ends_separated (cs ++ c ∷ []) ≡ false)
stays-letter cs c so_far letter =
    let other : (c == 95) ≡ false = grind (arith, nat_tests) in
    let test : (is_mark c || c == 95) ≡ false = grind (arith, nat_tests) in (
      record {
        ascii = IsAscii-push cs c so_far.ascii (alphanumeric_is_ascii c letter);
        same = ascii_of-alphanumeric cs c test letter ∙ ap (λ text. text ++ c ∷ []) so_far.same;
      },
      ends_separated-push cs c ∙ other,
    )

pub stays-separator : (cs : List ℕ) (c : ℕ) → c ≡ 95 → StaysSame cs → ends_separated cs ≡ false
    → StaysSame (cs ++ c ∷ []) × (ends_separated (cs ++ c ∷ []) ≡ true)
stays-separator cs c is so_far lone = (
  record {
    ascii = IsAscii-push cs c so_far.ascii (omega (arith, is));
    same = ap (λ d. ascii_of (cs ++ d ∷ [])) is ∙ ascii_of-underscore cs
        ∙ ap with_separator so_far.same ∙ with_separator-not cs lone
        ∙ ap (λ d. cs ++ d ∷ []) (sym is);
  },
  ends_separated-push cs c ∙ ap (λ d. d == 95) is,
)

stem_of-front : (prefixes : List (List ℕ)) (c : ℕ) (cs rest : List ℕ) → is_numeric c ≡ false
    → list_any (starts_with nat_eq (c ∷ cs)) prefixes ≡ false → StaysSame (c ∷ rest)
    → without_last_separators (c ∷ rest) ≡ c ∷ cs → stem_of prefixes (chars (c ∷ rest)) ≡ c ∷ cs
unfolding stem_of
stem_of-front prefixes c cs rest first free stays done =
    ap (λ text.
    set_apart prefixes (or_unnamed (without_last_separators (ascii_of (after_numerics text)))))
    (chars-IsAscii (c ∷ rest) stays.ascii)
    ∙ ap (λ b.
    set_apart prefixes
    (or_unnamed (without_last_separators (ascii_of (cond b (after_numerics rest) (c ∷ rest))))))
    first
    ∙ ap (λ text. set_apart prefixes (or_unnamed text))
    (ap without_last_separators stays.same ∙ done)
    ∙ ap (λ b. cond b (codes "gen_" ++ c ∷ cs) (c ∷ cs)) free

-- a plain text is the stem of itself, also where a `_` follows it
pub stem_of-plain : (prefixes : List (List ℕ)) (text label : List ℕ) → IsPlain text
    → (label ≡ text) ⊎ (label ≡ text ++ 95 ∷ [])
    → list_any (starts_with nat_eq text) prefixes ≡ false → stem_of prefixes (chars label) ≡ text
stem_of-plain prefixes [] label plain either free =
    let some = plain.some in absurd (omega (arith, some))
stem_of-plain prefixes (c ∷ cs) label plain (inl same) free =
    ap (λ text. stem_of prefixes (chars text)) same
    ∙ stem_of-front prefixes c cs cs plain.first free plain.stays
    (without_last-done (c ∷ cs) plain.last)
stem_of-plain prefixes (c ∷ cs) label plain (inr more) free =
    ap (λ text. stem_of prefixes (chars text)) more
    ∙ stem_of-front prefixes c cs (cs ++ 95 ∷ []) plain.first free
    (stays-separator (c ∷ cs) 95 refl plain.stays plain.last).0
    (without_last-push (c ∷ cs) ∙ without_last-done (c ∷ cs) plain.last)

-- ---- what holds on `Ok`
pub on_err : {T E P : Type 0} (r : Result T E) → P → OnErr r P
on_err (Ok x) p = tt
on_err (Err e) p = p

pub on_ok_both : {T E P Q R : Type 0} (r : Result T E) → OnOk r P → OnOk r Q → (P → Q → R)
    → OnOk r R
on_ok_both (Ok x) p q f = f p q
on_ok_both (Err e) p q f = tt

pub on_ok : {T E P : Type 0} (r : Result T E) → (is_ok r ≡ true → P) → OnOk r P
on_ok (Ok x) f = f refl
on_ok (Err e) f = tt

pub on_ok_then : {T E P Q : Type 0} (r : Result T E) → OnOk r P → (P → Q) → OnOk r Q
on_ok_then (Ok x) p f = f p
on_ok_then (Err e) p f = tt

-- what a `push` of a text on `Ok` leaves
pub pushed : {T E : Type 0} (r : Result T E) (old new more : List ℕ) → new ≡ cond (is_ok r) (old ++ more) old →
    is_ok r ≡ true → new ≡ old ++ more
pushed r old new more is ok = is ∙ ap (λ b. cond b (old ++ more) old) ok

-- what `write!` of `u{:04x}_` leaves
pub number_written : {T E : Type 0} (r : Result T E) (old new : List ℕ) (c : ℕ) (d : _) (s : _) →
    digits_output d ≡ Some (digits 16 false c) → s ≡ format_spec 32 0 4 4 (2 ^ 64 - 1) →
    OnOk r (AppendsText old new
    (Some (codes "u") ++? (styled_digits_output d s ++? Some (codes "_")))) →
    OnOk r (new ≡ old ++ by_number c)
number_written r old new c d s number options written =
    let shown : styled_digits_output d s ≡ Some (hexadecimal c) =
    ap (styled_digits_output d) options
    ∙ ap (option_map (padded_integral (format_spec 32 0 4 4 (2 ^ 64 - 1)) false [])) number
    ∙ ap Some (padded-hexadecimal c) in
    on_ok_then r written
    (λ appended. subst (λ o. AppendsText old new (Some (codes "u") ++? (o ++? Some (codes "_")))) shown appended)

pub nothing_there : (text : List ℕ) → length text ≡ 0 → text ≡ []
nothing_there [] e = refl
nothing_there (c ∷ text) e = absurd (omega arith)

-- the same of a `push` of an ASCII character
pub pushed_char : {T E : Type 0} (r : Result T E) (old new encoded : List ℕ) (c : ℕ) → encoded ≡ c ∷ [] →
    new ≡ cond (is_ok r) (old ++ encoded) old → is_ok r ≡ true → new ≡ old ++ c ∷ []
pushed_char r old new encoded c one is ok = pushed r old new encoded is ok ∙ ap (λ t. old ++ t) one

-- ---- prefixes
-- what a test says of the prefixes from the one at i on
pub any_from : (test : List ℕ → Bool) (prefixes : List (Bor (List ℕ))) (i : ℕ) (d : Bor (List ℕ)) →
    i < length prefixes → list_any test (map (λ p. p.now) (drop i prefixes)) ≡
    (test (get_or prefixes i d).now || list_any test (map (λ p. p.now) (drop (i + 1) prefixes)))
any_from test prefixes i d lt =
    let split : drop i prefixes ≡ get_or prefixes i d ∷ drop (i + 1) prefixes =
    rw add-one (drop-cons prefixes i d lt) in
    ap (λ ps. list_any test (map (λ p. p.now) ps)) split

pub same_items : (xs : List ℕ) → map (λ c. c) xs ≡ xs
same_items [] = refl
same_items (x ∷ xs) = ap (λ t. x ∷ t) (same_items xs)

-- what `pop` leaves of a text that ends in `_`
pub without_last-pop : (text shorter : List ℕ) (n : ℕ) → n ≡ length text →
    (get_or text (length text - 1) 0 == 95) ≡ true → text ≡ take (length text - 1) text ++ 95 ∷ [] →
    (0 < n → get_or text (n - 1) 0 < 128 → shorter ≡ take (n - 1) text) →
    without_last_separators shorter ≡ without_last_separators text
without_last-pop text shorter n long last split cut =
    let some : 0 < n = omega (arith, ap length split ∙ length-append (take (length text - 1) text) (95 ∷ [])) in
    let same : get_or text (n - 1) 0 ≡ 95 = ap (λ m. get_or text (m - 1) 0) long ∙ eqb-true _ 95 last in
    let front = cut some (omega (arith, same)) ∙ ap (λ m. take (m - 1) text) long in
    ap without_last_separators front ∙ sym (ap without_last_separators split
    ∙ without_last-push (take (length text - 1) text))

-- What every stem looks like.

-- ---- digits
module _ (p : ℕ → Bool) (stem : ℕ) (each : (n : ℕ) → p (digit_glyph false (n % stem)) ≡ true) where
  pub all_digits_onto : (k n : ℕ) (following : List ℕ) → list_all p following ≡ true →
      list_all p (digits_onto k stem false n following) ≡ true
  all_digits_onto zero n following e = e
  all_digits_onto (suc k) n following e =
      more (n / stem == 0) (ap (λ b. b && list_all p following) (each n) ∙ e)
      (all_digits_onto k (n / stem) (digit_glyph false (n % stem) ∷ following))
    where
      more : (b : Bool) → list_all p (digit_glyph false (n % stem) ∷ following) ≡ true →
          (list_all p (digit_glyph false (n % stem) ∷ following) ≡ true →
          list_all p (digits_onto k stem false (n / stem) (digit_glyph false (n % stem) ∷ following)) ≡
          true) → list_all p
          (cond b (digit_glyph false (n % stem) ∷ following)
          (digits_onto k stem false (n / stem) (digit_glyph false (n % stem) ∷ following))) ≡ true
      more true one rest = one
      more false one rest = rest one

-- there is a character
unfoldable pub is_text : List ℕ → Bool
is_text [] = false
is_text (c ∷ cs) = true

is_text-digits_onto : (k n c : ℕ) (cs : List ℕ) → is_text (digits_onto k 10 false n (c ∷ cs)) ≡ true
unfolding is_text
is_text-digits_onto zero n c cs = refl
is_text-digits_onto (suc k) n c cs =
    more (n / 10 == 0) (is_text-digits_onto k (n / 10) (digit_glyph false (n % 10)) (c ∷ cs))
  where
    more : (b : Bool) →
        is_text (digits_onto k 10 false (n / 10) (digit_glyph false (n % 10) ∷ c ∷ cs)) ≡ true →
        is_text (cond b (digit_glyph false (n % 10) ∷ c ∷ cs)
        (digits_onto k 10 false (n / 10) (digit_glyph false (n % 10) ∷ c ∷ cs))) ≡ true
    more true e = refl
    more false e = e

is_text-digits_of_some : (k n : ℕ) → is_text (digits_onto (suc k) 10 false n []) ≡ true
unfolding is_text
is_text-digits_of_some k n = more (n / 10 == 0) (is_text-digits_onto k (n / 10) (digit_glyph false (n % 10)) [])
  where
    more : (b : Bool) → is_text (digits_onto k 10 false (n / 10) (digit_glyph false (n % 10) ∷ []))
        ≡ true → is_text
        (cond b (digit_glyph false (n % 10) ∷ [])
        (digits_onto k 10 false (n / 10) (digit_glyph false (n % 10) ∷ []))) ≡ true
    more true e = refl
    more false e = e

pub is_text-decimal : (n : ℕ) → is_text (decimal n) ≡ true
unfolding digits
is_text-decimal n = is_text-digits_of_some 63 n

pub is_text-digits_of : (n : ℕ) → is_text (digits_of n) ≡ true
is_text-digits_of n = is_text-digits_of_some n n

decimal_glyph : (n : ℕ) → is_ascii_digit (digit_glyph false (n % 10)) ≡ true
decimal_glyph n = let lt : n % 10 < 10 = omega arith in grind (arith, nat_tests)

pub hexadecimal_glyph : (n : ℕ) → is_identifier_char (digit_glyph false (n % 16)) ≡ true
hexadecimal_glyph n = let lt : n % 16 < 16 = omega arith in grind (arith, nat_tests)

pub all_digits-decimal : (n : ℕ) → list_all is_ascii_digit (decimal n) ≡ true
unfolding digits
all_digits-decimal n = all_digits_onto is_ascii_digit 10 decimal_glyph 64 n [] refl

pub all_digits-digits_of : (n : ℕ) → list_all is_ascii_digit (digits_of n) ≡ true
all_digits-digits_of n = all_digits_onto is_ascii_digit 10 decimal_glyph (suc n) n [] refl

pub all_zeros : (n : ℕ) → list_all is_identifier_char (replicate n 48) ≡ true
all_zeros zero = refl
all_zeros (suc n) = all_zeros n
