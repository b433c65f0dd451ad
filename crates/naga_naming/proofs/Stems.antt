-- What every stem looks like: a word that ends in no `_`.
use Rattle.std.proofs.Common.{◌≡◌, ℕ, ◌<◌, ◌≤◌, suc, Bool, true, false, cond, not, ◌&&◌, List, []}
use Rattle.std.proofs.Common.{◌∷◌, ◌++◌, length, drop, refl, sym, ap, ◌∙◌, arith, zero, codes, ◌+◌}
use Rattle.std.proofs.Common.{◌-◌, ◌==◌, replicate}
use Rattle.std.specs.Bool.{nat_eq}
use Rattle.std.specs.List.{list_all, starts_with, list_any, flat_map}
use Rattle.std.specs.Fmt.{digits, digits_onto}
use Rattle.std.specs.Char.{is_ascii_digit}
use Rattle.std.proofs.lemmas.List.Folds.{list_all-append}
use Rattle.std.proofs.lemmas.Bool.Decides.{nat_tests}
use Rattle.std.proofs.lemmas.Bool.{and_parts, and_from}
use Rattle.std.proofs.Math.Bool.{and-false}
use borrow.Author.Tests.{eqb-true}
use Rattle.naga_keywords.specs.Plain.{is_identifier_char, is_word}
use Rattle.naga_naming.specs.Label.{is_numeric, after_numerics, is_mark, is_foreign, hexadecimal}
use Rattle.naga_naming.specs.Label.{by_number, character_ascii, begins_separated}
use Rattle.naga_naming.specs.Label.{without_repeated_underscores, begins_foreign, ascii_of}
use Rattle.naga_naming.specs.Label.{ends_separated, kept_before, without_last_separators, or_unnamed}
use Rattle.naga_naming.specs.Label.{set_apart, stem_of}
use Rattle.ucd_category.proofs.Computing.{ucd_category}
use Rattle.naga_naming.proofs.Label.{character_ascii-mark, character_ascii-plain}
use Rattle.naga_naming.proofs.Label.{character_ascii-foreign, ascii_of-body, hexadecimal_glyph}
use Rattle.naga_naming.proofs.Label.{all_zeros, all_digits_onto, body}

-- ---- characters of identifiers alone
abbrev only : List ℕ → Type 0
only text = list_all is_identifier_char text ≡ true

only_append : (xs ys : List ℕ) → only xs → only ys → only (xs ++ ys)
only_append xs ys x y = list_all-append is_identifier_char xs ys ∙ and_from _ _ x y

only_hexadecimal : (c : ℕ) → only (hexadecimal c)
unfolding hexadecimal digits
only_hexadecimal c = only_append (replicate (4 - length (digits_onto 64 16 false c [])) 48)
    (digits_onto 64 16 false c []) (all_zeros (4 - length (digits_onto 64 16 false c [])))
    (all_digits_onto is_identifier_char 16 hexadecimal_glyph 64 c [] refl)

only_by_number : (c : ℕ) → only (95 ∷ by_number c)
only_by_number c = only_append (hexadecimal c) (codes "_") (only_hexadecimal c) refl

only_spelled : (c : ℕ) → only (character_ascii c)
only_spelled c = either (is_mark c) (is_identifier_char c) refl
  where
    either : (m p : Bool) → is_identifier_char c ≡ p →
        only (cond m (codes "_") (cond p (c ∷ []) (codes "_" ++ by_number c)))
    either true p e = refl
    either false true e = ap (λ b. b && true) e
    either false false e = only_by_number c

only_flat : (cs : List ℕ) → only (flat_map character_ascii cs)
only_flat [] = refl
only_flat (c ∷ cs) = only_append (character_ascii c) (flat_map character_ascii cs) (only_spelled c) (only_flat cs)

only_drop : (text : List ℕ) → only text → only (drop 1 text)
only_drop [] e = e
only_drop (c ∷ cs) e = (and_parts (is_identifier_char c) (list_all is_identifier_char cs) e).1

only_squeezed : (text : List ℕ) → only text → only (without_repeated_underscores text)
only_squeezed [] e = refl
only_squeezed (c ∷ cs) e =
    let parts = and_parts (is_identifier_char c) (list_all is_identifier_char cs) e in
    either (c == 95 && begins_separated cs) parts.0 (only_squeezed cs parts.1)
  where
    either : (b : Bool) → is_identifier_char c ≡ true → only (without_repeated_underscores cs) →
        only (cond b (without_repeated_underscores cs) (c ∷ without_repeated_underscores cs))
    either true one rest = rest
    either false one rest = and_from _ _ one rest

only_ascii : (cs : List ℕ) → only (ascii_of cs)
unfolding ascii_of
only_ascii cs = either (begins_foreign cs)
  where
    either : (b : Bool) → only (cond b (drop 1 (without_repeated_underscores (flat_map character_ascii cs)))
        (without_repeated_underscores (flat_map character_ascii cs)))
    either true = only_drop (without_repeated_underscores (flat_map character_ascii cs))
        (only_squeezed (flat_map character_ascii cs) (only_flat cs))
    either false = only_squeezed (flat_map character_ascii cs) (only_flat cs)

only_kept : (c : ℕ) (rest : List ℕ) → is_identifier_char c ≡ true → only rest → only (kept_before c rest)
only_kept c [] one all = either (c == 95)
  where
    either : (b : Bool) → only (cond b [] (c ∷ []))
    either true = refl
    either false = ap (λ b. b && true) one
only_kept c (d ∷ rest) one all = and_from _ _ one all

only_without : (text : List ℕ) → only text → only (without_last_separators text)
only_without [] e = refl
only_without (c ∷ cs) e =
    let parts = and_parts (is_identifier_char c) (list_all is_identifier_char cs) e in
    only_kept c (without_last_separators cs) parts.0 (only_without cs parts.1)

-- ---- the first character
-- the text begins with a character that passes
pub begins_by : (ℕ → Bool) → List ℕ → Bool
begins_by p [] = false
begins_by p (c ∷ cs) = p c

numeric_digit : (d : ℕ) → d < 10 → is_numeric (48 + d) ≡ true
unfolding is_numeric ucd_category
numeric_digit zero lt = refl
numeric_digit (suc zero) lt = refl
numeric_digit (suc (suc zero)) lt = refl
numeric_digit (suc (suc (suc zero))) lt = refl
numeric_digit (suc (suc (suc (suc zero)))) lt = refl
numeric_digit (suc (suc (suc (suc (suc zero))))) lt = refl
numeric_digit (suc (suc (suc (suc (suc (suc zero)))))) lt = refl
numeric_digit (suc (suc (suc (suc (suc (suc (suc zero))))))) lt = refl
numeric_digit (suc (suc (suc (suc (suc (suc (suc (suc zero)))))))) lt = refl
numeric_digit (suc (suc (suc (suc (suc (suc (suc (suc (suc zero))))))))) lt = refl
numeric_digit (suc (suc (suc (suc (suc (suc (suc (suc (suc (suc d)))))))))) lt = absurd (omega arith)

digit_range : (c : ℕ) → is_ascii_digit c ≡ true → (48 ≤ c) × (c ≤ 57)
digit_range c e = (grind (arith, nat_tests), grind (arith, nat_tests))

digit_not_numeric : (c : ℕ) → is_numeric c ≡ false → is_ascii_digit c ≡ false
digit_not_numeric c e = either (is_ascii_digit c) refl
  where
    either : (b : Bool) → is_ascii_digit c ≡ b → b ≡ false
    either false h = refl
    either true h =
        let r = digit_range c h in
        let same : 48 + (c - 48) ≡ c = omega (arith, r.0) in
        let numeric = sym (ap is_numeric same) ∙ numeric_digit (c - 48) (omega (arith, r.0, r.1)) in
        absurd (cc (numeric, e))

after_numerics-first : (cs : List ℕ) → begins_by is_numeric (after_numerics cs) ≡ false
unfolding begins_by
after_numerics-first [] = refl
after_numerics-first (c ∷ cs) = either (is_numeric c) refl (after_numerics-first cs)
  where
    either : (b : Bool) → is_numeric c ≡ b → begins_by is_numeric (after_numerics cs) ≡ false →
        begins_by is_numeric (cond b (after_numerics cs) (c ∷ cs)) ≡ false
    either true e rest = rest
    either false e rest = e

without_repeated_underscores-first : (p : ℕ → Bool) (text : List ℕ) →
    begins_by p (without_repeated_underscores text) ≡ begins_by p text
unfolding begins_by
without_repeated_underscores-first p [] = refl
without_repeated_underscores-first p (c ∷ []) = either (c == 95)
  where
    either : (b : Bool) → begins_by p (cond (b && false) [] (c ∷ [])) ≡ p c
    either true = refl
    either false = refl
without_repeated_underscores-first p (c ∷ d ∷ cs) =
    either (c == 95) (d == 95) refl refl (without_repeated_underscores-first p (d ∷ cs))
  where
    either : (x y : Bool) → (c == 95) ≡ x →
        (d == 95) ≡ y → begins_by p (without_repeated_underscores (d ∷ cs)) ≡ p d →
        begins_by p (cond (x && y) (without_repeated_underscores (d ∷ cs))
        (c ∷ without_repeated_underscores (d ∷ cs))) ≡ p c
    either true true ex ey rest = rest ∙ ap p (eqb-true d 95 ey ∙ sym (eqb-true c 95 ex))
    either true false ex ey rest = refl
    either false y ex ey rest = refl

without-first : (p : ℕ → Bool) (text : List ℕ) → begins_by p text ≡ false →
    begins_by p (without_last_separators text) ≡ false
unfolding begins_by
without-first p [] e = refl
without-first p (c ∷ cs) e = kept (without_last_separators cs)
  where
    one : (b : Bool) → begins_by p (cond b [] (c ∷ [])) ≡ false
    one true = refl
    one false = e

    kept : (rest : List ℕ) → begins_by p (kept_before c rest) ≡ false
    kept [] = one (c == 95)
    kept (d ∷ rest) = e

body-first : (cs : List ℕ) → begins_by is_numeric cs ≡ false → begins_by is_ascii_digit (body cs) ≡ false
unfolding begins_by body
body-first [] e = refl
body-first (c ∷ cs) e = either (is_foreign c) (is_mark c) (is_identifier_char c) refl refl refl
  where
    either : (f m p : Bool) → is_foreign c ≡ f → is_mark c ≡ m → is_identifier_char c ≡ p →
        begins_by is_ascii_digit
        (cond f (drop 1 (character_ascii c ++ flat_map character_ascii cs))
        (character_ascii c ++ flat_map character_ascii cs)) ≡ false
    either true m p f_is m_is p_is =
        ap (λ t. begins_by is_ascii_digit (drop 1 (t ++ flat_map character_ascii cs)))
        (character_ascii-foreign c f_is)
    either false true p f_is m_is p_is =
        ap (λ t. begins_by is_ascii_digit (t ++ flat_map character_ascii cs)) (character_ascii-mark c m_is)
    either false false true f_is m_is p_is =
        ap (λ t. begins_by is_ascii_digit (t ++ flat_map character_ascii cs))
        (character_ascii-plain c m_is p_is) ∙ digit_not_numeric c e
    either false false false f_is m_is p_is =
        absurd (cc (ap (λ b. not b && not (is_identifier_char c)) m_is, ap not p_is, f_is))

-- ---- a stem
unnamed_word : (text : List ℕ) → only text → begins_by is_ascii_digit text ≡ false → is_word (or_unnamed text) ≡ true
unfolding begins_by
unnamed_word [] all first = refl
unnamed_word (c ∷ cs) all first = and_from _ _ all (ap not first)

unnamed_end : (text : List ℕ) → ends_separated text ≡ false → ends_separated (or_unnamed text) ≡ false
unnamed_end [] e = refl
unnamed_end (c ∷ cs) e = e

kept_word : (prefixes : List (List ℕ)) (text : List ℕ) → is_word text ≡ true → is_word (set_apart prefixes text) ≡ true
kept_word prefixes [] e = absurd (cc)
kept_word prefixes (c ∷ cs) e = either (list_any (starts_with nat_eq (c ∷ cs)) prefixes)
  where
    either : (b : Bool) → is_word (cond b (codes "gen_" ++ c ∷ cs) (c ∷ cs)) ≡ true
    either true = and_from _ _ (and_parts (list_all is_identifier_char (c ∷ cs)) (not (is_ascii_digit c)) e).0 refl
    either false = e

kept_end : (prefixes : List (List ℕ)) (text : List ℕ) → is_word text ≡ true → ends_separated text ≡ false →
    ends_separated (set_apart prefixes text) ≡ false
kept_end prefixes [] some e = absurd (cc)
kept_end prefixes (c ∷ cs) some e = either (list_any (starts_with nat_eq (c ∷ cs)) prefixes)
  where
    either : (b : Bool) → ends_separated (cond b (codes "gen_" ++ c ∷ cs) (c ∷ cs)) ≡ false
    either true = e
    either false = e

without-end : (text : List ℕ) → ends_separated (without_last_separators text) ≡ false
without-end [] = refl
without-end (c ∷ cs) = kept (without_last_separators cs) (without-end cs)
  where
    one : (b : Bool) → (c == 95) ≡ b → ends_separated (cond b [] (c ∷ [])) ≡ false
    one true e = refl
    one false e = e

    kept : (rest : List ℕ) → ends_separated rest ≡ false → ends_separated (kept_before c rest) ≡ false
    kept [] e = one (c == 95) refl
    kept (d ∷ rest) e = e

-- the text before a prefix is kept off
before_prefix : (characters : List ℕ) →
    is_word (or_unnamed (without_last_separators (ascii_of (after_numerics characters)))) ≡ true
before_prefix characters =
    let cs = after_numerics characters in
    unnamed_word (without_last_separators (ascii_of cs)) (only_without (ascii_of cs) (only_ascii cs))
    (without-first is_ascii_digit (ascii_of cs) (ap (begins_by is_ascii_digit) (ascii_of-body cs)
    ∙ without_repeated_underscores-first is_ascii_digit (body cs)
    ∙ body-first cs (after_numerics-first characters)))

pub stem_is_word : (prefixes : List (List ℕ)) (characters : List ℕ) → is_word (stem_of prefixes characters) ≡ true
unfolding stem_of
stem_is_word prefixes characters =
    kept_word prefixes (or_unnamed (without_last_separators (ascii_of (after_numerics characters))))
    (before_prefix characters)

pub stem_ends : (prefixes : List (List ℕ)) (characters : List ℕ) → ends_separated (stem_of prefixes characters) ≡ false
unfolding stem_of
stem_ends prefixes characters =
    kept_end prefixes (or_unnamed (without_last_separators (ascii_of (after_numerics characters))))
    (before_prefix characters)
    (unnamed_end (without_last_separators (ascii_of (after_numerics characters)))
    (without-end (ascii_of (after_numerics characters))))

-- ---- the first two characters
-- the text begins with `__`
abbrev pub begins_double : List ℕ → Bool
begins_double [] = false
begins_double (c ∷ []) = false
begins_double (c ∷ d ∷ cs) = c == 95 && d == 95

without_repeated_underscores-double : (text : List ℕ) → begins_double (without_repeated_underscores text) ≡ false
unfolding begins_by
without_repeated_underscores-double [] = refl
without_repeated_underscores-double (c ∷ []) = either (c == 95)
  where
    either : (b : Bool) → begins_double (cond (b && false) [] (c ∷ [])) ≡ false
    either true = refl
    either false = refl
without_repeated_underscores-double (c ∷ d ∷ cs) =
    either (c == 95) (d == 95) refl refl (without_repeated_underscores (d ∷ cs))
    (without_repeated_underscores-double (d ∷ cs))
    (without_repeated_underscores-first (λ x. x == 95) (d ∷ cs))
  where
    either : (x y : Bool) → (c == 95) ≡ x → (d == 95) ≡ y →
        (rest : List ℕ) → begins_double rest ≡ false →
        begins_by (λ x. x == 95) rest ≡ begins_by (λ x. x == 95) (d ∷ cs) →
        begins_double (cond (x && y) rest (c ∷ rest)) ≡ false
    either true true ex ey rest single first = single
    either true false ex ey [] single first = refl
    either true false ex ey (e ∷ rest) single first = ap (λ b. (c == 95) && b) (first ∙ ey) ∙ and-false (c == 95)
    either false y ex ey [] single first = refl
    either false y ex ey (e ∷ rest) single first = ap (λ b. b && e == 95) ex

without-double : (text : List ℕ) → begins_double text ≡ false → begins_double (without_last_separators text) ≡ false
without-double [] e = refl
without-double (c ∷ []) e = either (c == 95)
  where
    either : (b : Bool) → begins_double (cond b [] (c ∷ [])) ≡ false
    either true = refl
    either false = refl
without-double (c ∷ d ∷ cs) e = kept (without_last_separators cs)
  where
    one : (b x : Bool) → begins_double (cond b [] (c ∷ [])) ≡ false
    one true x = refl
    one false x = refl

    inner : (b : Bool) → begins_double (kept_before c (cond b [] (d ∷ []))) ≡ false
    inner true = one (c == 95) true
    inner false = e

    kept : (rest : List ℕ) → begins_double (kept_before c (kept_before d rest)) ≡ false
    kept [] = inner (d == 95)
    kept (f ∷ rest) = e

unnamed-double : (text : List ℕ) → begins_double text ≡ false → begins_double (or_unnamed text) ≡ false
unnamed-double [] e = refl
unnamed-double (c ∷ cs) e = e

kept-double : (prefixes : List (List ℕ)) (text : List ℕ) → begins_double text ≡ false →
    begins_double (set_apart prefixes text) ≡ false
kept-double prefixes text e = either (list_any (starts_with nat_eq text) prefixes)
  where
    either : (b : Bool) → begins_double (cond b (codes "gen_" ++ text) text) ≡ false
    either true = refl
    either false = e

pub stem_not_double : (prefixes : List (List ℕ)) (characters : List ℕ) →
    begins_double (stem_of prefixes characters) ≡ false
unfolding stem_of
stem_not_double prefixes characters =
    let cs = after_numerics characters in
    kept-double prefixes (or_unnamed (without_last_separators (ascii_of cs)))
    (unnamed-double (without_last_separators (ascii_of cs))
    (without-double (ascii_of cs) (ap begins_double (ascii_of-body cs)
    ∙ without_repeated_underscores-double (body cs))))
