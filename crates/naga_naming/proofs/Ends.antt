-- How texts end: in digits, in `_` and digits, or in neither.
use Rattle.std.proofs.Common.{◌≡◌, ◌≢◌, ℕ, Bool, true, false, not, ◌&&◌, ◌||◌, ◌==◌, List, []}
use Rattle.std.proofs.Common.{◌∷◌, ◌++◌, codes, refl, sym, ap, ◌∙◌, arith, append_assoc}
use Rattle.std.specs.List.{list_all}
use Rattle.std.specs.Char.{is_ascii_digit}
use Rattle.std.specs.Str.{bytes_eq}
use Rattle.std.specs.Cmp.Lexicographic.{bytes_decides}
use Rattle.std.proofs.lemmas.List.Folds.{list_all-append}
use Rattle.std.proofs.lemmas.Bool.Decides.{nat_tests}
use Rattle.std.proofs.lemmas.Bool.{and_parts, and_from, true≢false}
use Rattle.std.proofs.Math.Bool.{and-true, and-false, or-true}
use Rattle.naga_keywords.specs.Plain.{has_plain_end}
use Rattle.naga_naming.specs.Label.{ends_separated}
use Rattle.naga_naming.specs.Naming.{ends_in_digit, has_bad_end, is_numbered}
use Rattle.naga_naming.proofs.Label.{get_or-last, ends_separated-push, is_text}

-- ---- the last character
-- the text ends in a character that passes
ends_by : (ℕ → Bool) → List ℕ → Bool
ends_by p [] = false
ends_by p (c ∷ []) = p c
ends_by p (c ∷ d ∷ cs) = ends_by p (d ∷ cs)

ends_by-append : (p : ℕ → Bool) (xs : List ℕ) (y : ℕ) (ys : List ℕ) →
    ends_by p (xs ++ y ∷ ys) ≡ ends_by p (y ∷ ys)
unfolding ends_by
ends_by-append p [] y ys = refl
ends_by-append p (x ∷ []) y ys = refl
ends_by-append p (x ∷ z ∷ xs) y ys = ends_by-append p (z ∷ xs) y ys

ends_by-all : (p : ℕ → Bool) (text : List ℕ) → is_text text ≡ true → list_all p text ≡ true →
    ends_by p text ≡ true
unfolding ends_by is_text
ends_by-all p [] some all = absurd (cc)
ends_by-all p (c ∷ []) some all = (and_parts (p c) true all).0
ends_by-all p (c ∷ d ∷ cs) some all = ends_by-all p (d ∷ cs) refl (and_parts (p c) (list_all p (d ∷ cs)) all).1

ends_by-last : (text : List ℕ) → ends_in_digit text ≡ ends_by is_ascii_digit text
unfolding ends_by
ends_by-last [] = refl
ends_by-last (c ∷ []) = refl
ends_by-last (c ∷ d ∷ text) = ap is_ascii_digit (get_or-last c d text) ∙ ends_by-last (d ∷ text)

pub separator_no_digit : (text : List ℕ) → ends_in_digit (text ++ 95 ∷ []) ≡ false
unfolding ends_by
separator_no_digit text = ends_by-last (text ++ 95 ∷ []) ∙ ends_by-append is_ascii_digit text 95 []

ends_in_digits : (front : List ℕ) (d : ℕ) (ds : List ℕ) → list_all is_ascii_digit (d ∷ ds) ≡ true →
    ends_in_digit (front ++ d ∷ ds) ≡ true
unfolding is_text
ends_in_digits front d ds all =
    ends_by-last (front ++ d ∷ ds) ∙ ends_by-append is_ascii_digit front d ds
    ∙ ends_by-all is_ascii_digit (d ∷ ds) refl all

-- ---- digits after a text that ends in none
digit_no_separator : (d : ℕ) → is_ascii_digit d ≡ true → (d == 95) ≡ false
digit_no_separator d e = grind (arith, nat_tests)

digit_no_letter : (d : ℕ) → is_ascii_digit d ≡ true → (d == 101) ≡ false
digit_no_letter d e = grind (arith, nat_tests)

-- what ends in no digit has more than digits
others_too : (c : ℕ) (cs ds : List ℕ) → ends_by is_ascii_digit (c ∷ cs) ≡ false →
    list_all is_ascii_digit (c ∷ cs ++ ds) ≡ false
unfolding is_text
others_too c cs ds none =
    list_all-append is_ascii_digit (c ∷ cs) ds
    ∙ ap (λ b. b && list_all is_ascii_digit ds) (by (list_all is_ascii_digit (c ∷ cs)) refl)
  where
    by : (b : Bool) → list_all is_ascii_digit (c ∷ cs) ≡ b → b ≡ false
    by true all = absurd (true≢false (sym (ends_by-all is_ascii_digit (c ∷ cs) refl all) ∙ none))
    by false all = refl

digits_are_plain : (ds : List ℕ) → list_all is_ascii_digit ds ≡ true → has_plain_end ds ≡ true
digits_are_plain [] all = refl
digits_are_plain (d ∷ ds) all =
    let parts = and_parts (is_ascii_digit d) (list_all is_ascii_digit ds) all in
    and_from _ _ (ap (λ b. not (b && list_all is_ascii_digit ds)) (digit_no_separator d parts.0))
    (digits_are_plain ds parts.1)

-- digits come after a `_`, or they don't
plain_by_front : (front ds : List ℕ) → list_all is_ascii_digit ds ≡ true →
    ends_by is_ascii_digit front ≡ false → has_plain_end (front ++ ds) ≡ not (ends_separated front)
unfolding ends_by
plain_by_front [] ds all none = digits_are_plain ds all
plain_by_front (c ∷ []) ds all none =
    (λ i. not (c == 95 && all i) && digits_are_plain ds all i)
    ∙ and-true (not (c == 95 && true)) ∙ ap not (and-true (c == 95))
plain_by_front (c ∷ d ∷ cs) ds all none =
    ap (λ b. not (c == 95 && b) && has_plain_end (d ∷ cs ++ ds)) (others_too d cs ds none)
    ∙ ap (λ b. not b && has_plain_end (d ∷ cs ++ ds)) (and-false (c == 95))
    ∙ plain_by_front (d ∷ cs) ds all none

-- they come after `_e` alone, or they don't
numbered_by_front : (front ds : List ℕ) → list_all is_ascii_digit ds ≡ true →
    ends_by is_ascii_digit front ≡ false → is_numbered (front ++ ds) ≡ bytes_eq front (codes "_e")
unfolding ends_by
numbered_by_front [] [] all none = refl
numbered_by_front [] (d ∷ []) all none = refl
numbered_by_front [] (d ∷ e ∷ ds) all none =
    ap (λ b. b && (e == 101 && list_all is_ascii_digit ds))
    (digit_no_separator d (and_parts (is_ascii_digit d) (list_all is_ascii_digit (e ∷ ds)) all).0)
numbered_by_front (c ∷ []) [] all none = sym (and-false (c == 95))
numbered_by_front (c ∷ []) (d ∷ ds) all none =
    ap (λ b. c == 95 && (b && list_all is_ascii_digit ds))
    (digit_no_letter d (and_parts (is_ascii_digit d) (list_all is_ascii_digit ds) all).0)
numbered_by_front (c ∷ d ∷ []) ds all none = ap (λ b. c == 95 && (d == 101 && b)) all
numbered_by_front (c ∷ d ∷ e ∷ cs) ds all none =
    ap (λ b. c == 95 && (d == 101 && b)) (others_too e cs ds none)

-- ---- ends that no first name keeps
bad_by : (keeps : Bool) (stem : List ℕ) → ends_in_digit stem ≡ true →
    (not (has_plain_end stem) || is_numbered stem) ≡ true → has_bad_end keeps stem ≡ true
bad_by keeps stem digit other =
    ap (λ b. b && (not keeps || (not (has_plain_end stem) || is_numbered stem))) digit
    ∙ ap (λ b. not keeps || b) other ∙ or-true (not keeps)

-- that of a later name
pub later_is_bad : (keeps : Bool) (stem : List ℕ) (d : ℕ) (ds : List ℕ) →
    list_all is_ascii_digit (d ∷ ds) ≡ true → has_bad_end keeps (stem ++ 95 ∷ d ∷ ds) ≡ true
unfolding ends_by
later_is_bad keeps stem d ds all =
    ap (has_bad_end keeps) (sym (append_assoc stem (95 ∷ []) (d ∷ ds)))
    ∙ bad_by keeps (front ++ d ∷ ds) (ends_in_digits front d ds all)
    (ap (λ b. not b || is_numbered (front ++ d ∷ ds))
    (plain_by_front front (d ∷ ds) all (ends_by-append is_ascii_digit stem 95 [])
    ∙ ap not (ends_separated-push stem 95)))
  where
    front : List ℕ
    front = stem ++ 95 ∷ []

-- that of an expression's name
pub numbered_is_bad : (keeps : Bool) (d : ℕ) (ds : List ℕ) → list_all is_ascii_digit (d ∷ ds) ≡ true →
    has_bad_end keeps (codes "_e" ++ d ∷ ds) ≡ true
numbered_is_bad keeps d ds all =
    bad_by keeps (codes "_e" ++ d ∷ ds) (ends_in_digits (codes "_e") d ds all)
    (ap (λ b. not (has_plain_end (codes "_e" ++ d ∷ ds)) || b) all
    ∙ or-true (not (has_plain_end (codes "_e" ++ d ∷ ds))))

-- and no others, where digits are kept
pub kept_by_front : (front ds : List ℕ) → list_all is_ascii_digit ds ≡ true → ends_in_digit front ≡ false →
    (not (has_plain_end (front ++ ds)) || is_numbered (front ++ ds)) ≡
    (ends_separated front || bytes_eq front (codes "_e"))
kept_by_front front ds all none =
    let no_digit = sym (ends_by-last front) ∙ none in
    (λ i. not (plain_by_front front ds all no_digit i) || numbered_by_front front ds all no_digit i)
    ∙ ap (λ b. b || bytes_eq front (codes "_e")) (not_not (ends_separated front))
  where
    not_not : (b : Bool) → not (not b) ≡ b
    not_not true = refl
    not_not false = refl

pub kept_end : (front ds : List ℕ) → list_all is_ascii_digit ds ≡ true → ends_in_digit front ≡ false →
    ends_separated front ≡ false → front ≢ codes "_e" → has_bad_end true (front ++ ds) ≡ false
kept_end front ds all none apart unnumbered =
    ap (λ b. ends_in_digit (front ++ ds) && b)
    (kept_by_front front ds all none ∙ (λ i. apart i || differs (bytes_eq front (codes "_e")) refl i))
    ∙ and-false (ends_in_digit (front ++ ds))
  where
    differs : (b : Bool) → bytes_eq front (codes "_e") ≡ b → bytes_eq front (codes "_e") ≡ false
    differs true e = absurd (unnumbered ((bytes_decides front (codes "_e")).0 e))
    differs false e = e
