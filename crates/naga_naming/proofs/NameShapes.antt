-- What every name looks like, and that a name tells its stem and its number.
use Rattle.std.proofs.Common.{◌≡◌, ◌≢◌, ℕ, ◌+◌, Bool, true, false, not, ◌&&◌, ◌||◌, ◌==◌, cond, List, []}
use Rattle.std.proofs.Common.{◌∷◌, ◌++◌, get_or, drop, codes, refl, sym, ap, ◌∙◌, arith}
use Rattle.std.proofs.Common.{append_assoc, append-nil, All}
use Rattle.std.specs.List.{list_all, starts_with}
use Rattle.std.specs.Bool.{nat_eq}
use Rattle.std.specs.Prelude.{◌⊎◌}
use mathlib.Core.Logic.{inl, inr}
use Rattle.std.specs.Char.{is_ascii_digit, to_ascii_lowercase}
use Rattle.std.specs.Fmt.{decimal}
use Rattle.std.specs.FinSet as set
use Rattle.std.specs.Str.{bytes_eq, chars}
use Rattle.std.specs.Cmp.Lexicographic.{slice_cmp, nat_list_cmp_total, bytes_decides}
use Rattle.std.specs.Ordering.{nat_cmp, eq_by_cmp}
use Rattle.std.proofs.lemmas.List.Folds.{list_all-append, list_any_none}
use Rattle.std.proofs.lemmas.List.Sums.{sum_by-append, sum_by-cons}
use Rattle.std.proofs.lemmas.Bool.Decides.{nat_tests}
use Rattle.std.proofs.lemmas.Map.Text.{is_eq-slice_cmp}
use Rattle.std.proofs.lemmas.Bool.{and_parts, and_from, true≢false, or_parts}
use Rattle.std.proofs.Math.Bool.{and-false}
use Rattle.naga_naming.proofs.Ends.{separator_no_digit, later_is_bad, numbered_is_bad, kept_end}
use Rattle.naga_naming.proofs.Label.{ends_separated-push, is_text, is_text-decimal}
use Rattle.naga_naming.proofs.Label.{is_text-digits_of, all_digits-digits_of, all_digits-decimal}
use Rattle.naga_naming.proofs.Stems.{stem_is_word, stem_ends, begins_double, stem_not_double}
use Rattle.naga_naming.proofs.Numerals.{numeral_injective}
use Rattle.naga_naming.specs.Label.{ends_separated, after_numerics, ascii_of}
use Rattle.naga_naming.specs.Label.{without_last_separators, or_unnamed, set_apart, stem_of}
use Rattle.naga_keywords.specs.Plain.{is_identifier_char, is_word, is_identifier}
use Rattle.naga_keywords.specs.Plain.{is_empty_or_separated, HasPlainEnds, IsPlain}
use Rattle.naga_keywords.specs.Words.{in_lower_case}
use Rattle.naga_naming.specs.Naming.{Names, label_stem, is_taken, ends_in_digit, has_bad_end}
use Rattle.naga_naming.specs.Naming.{first_name}
use Rattle.naga_naming.specs.Naming.{later_name, name_of_stem, labels_with_stem, name_after, digits_of}

-- ---- the last `_`
abbrev has_none : List ℕ → Bool
has_none text = list_all (λ c. not (c == 95)) text

has_none-not : (xs ys : List ℕ) → has_none (xs ++ 95 ∷ ys) ≡ false
has_none-not xs ys = list_all-append (λ c. not (c == 95)) xs (95 ∷ ys) ∙ and-false (has_none xs)

split_last : (a b c d : List ℕ) → has_none b ≡ true → has_none d ≡ true → a ++ 95 ∷ b ≡ c ++ 95 ∷ d → (a ≡ c) × (b ≡ d)
split_last [] b [] d nb nd e = (refl, ap (drop 1) e)
split_last [] b (x ∷ c) d nb nd e = absurd (true≢false (sym nb ∙ ap (λ t. has_none (drop 1 t)) e ∙ has_none-not c d))
split_last (x ∷ a) b [] d nb nd e =
    absurd (true≢false (sym nd ∙ ap (λ t. has_none (drop 1 t)) (sym e) ∙ has_none-not a b))
split_last (x ∷ a) b (y ∷ c) d nb nd e =
    let rest = split_last a b c d nb nd (ap (drop 1) e) in
    ((λ i. ap (λ t. get_or t 0 0) e i ∷ rest.0 i), rest.1)

digits_have_none : (ds : List ℕ) → list_all is_ascii_digit ds ≡ true → has_none ds ≡ true
digits_have_none [] e = refl
digits_have_none (d ∷ ds) e =
    let parts = and_parts (is_ascii_digit d) (list_all is_ascii_digit ds) e in
    and_from _ _ (one d parts.0) (digits_have_none ds parts.1)
  where
    one : (d : ℕ) → is_ascii_digit d ≡ true → not (d == 95) ≡ true
    one d e = grind (arith, nat_tests)

number_has_none : (n : ℕ) → has_none (digits_of n) ≡ true
number_has_none n = digits_have_none (digits_of n) (all_digits-digits_of n)

-- ---- a name by its stem and the uses before it
module _ (names : Names) (stem : List ℕ) where
  abbrev FirstCases : Type 0
  FirstCases = (first_name names stem ≡ stem ++ 95 ∷ [])
      ⊎ ((first_name names stem ≡ stem) × (has_bad_end names.keeps_digits stem ≡ false)
      × (is_taken names stem ≡ false))

  first_cases : FirstCases
  first_cases = either (has_bad_end names.keeps_digits stem || is_taken names stem) refl
    where
      either : (b : Bool) → (has_bad_end names.keeps_digits stem || is_taken names stem) ≡ b →
          (cond b (stem ++ codes "_") stem ≡ stem ++ 95 ∷ []) ⊎
          ((cond b (stem ++ codes "_") stem ≡ stem) × (has_bad_end names.keeps_digits stem ≡ false) ×
          (is_taken names stem ≡ false))
      either true e = inl refl
      either false e =
          let parts = or_parts (has_bad_end names.keeps_digits stem) (is_taken names stem) e in
          inr (refl, parts.0, parts.1)

  later_is : (n : ℕ) → later_name stem n ≡ stem ++ 95 ∷ digits_of n
  later_is n = append_assoc stem (95 ∷ []) (digits_of n)

  abbrev NameCases : ℕ → Type 0
  NameCases n = ((n ≡ 0) × (name_of_stem names stem n ≡ first_name names stem))
      ⊎ (name_of_stem names stem n ≡ stem ++ 95 ∷ digits_of n)

  name_cases : (n : ℕ) → NameCases n
  name_cases n = either (n == 0) refl
    where
      none : (n == 0) ≡ true → n ≡ 0
      none e = grind (arith, nat_tests)

      either : (b : Bool) → (n == 0) ≡ b →
          ((n ≡ 0) × (cond b (first_name names stem) (later_name stem n) ≡ first_name names stem)) ⊎
          (cond b (first_name names stem) (later_name stem n) ≡ stem ++ 95 ∷ digits_of n)
      either true e = inl (none e, refl)
      either false e = inr (later_is n)

  -- what ends badly is no first name
  first_ends : (name : List ℕ) → has_bad_end names.keeps_digits name ≡ true → first_name names stem ≡ name → ⊥
  first_ends name bad is = either first_cases
    where
      either : FirstCases → ⊥
      either (inl e) = true≢false (sym (and_parts (ends_in_digit name) _ bad).0
          ∙ ap ends_in_digit (sym is ∙ e) ∙ separator_no_digit stem)
      either (inr e) = true≢false (sym bad ∙ ap (has_bad_end names.keeps_digits) (sym is ∙ e.0) ∙ e.1)

  -- so a later name is none
  first_no_later : (c : List ℕ) (n : ℕ) → first_name names stem ≡ c ++ 95 ∷ digits_of n → ⊥
  unfolding is_text
  first_no_later c n = by (digits_of n) (is_text-digits_of n) (all_digits-digits_of n)
    where
      by : (ds : List ℕ) → is_text ds ≡ true → list_all is_ascii_digit ds ≡ true →
          first_name names stem ≡ c ++ 95 ∷ ds → ⊥
      by [] some all is = absurd (cc)
      by (d ∷ ds) some all is = first_ends (c ++ 95 ∷ d ∷ ds) (later_is_bad names.keeps_digits c d ds all) is

  -- ---- a name is a word
  only_more : (more : List ℕ) → is_word stem ≡ true → list_all is_identifier_char more ≡ true →
      is_word (stem ++ more) ≡ true
  only_more more word all = grown stem word
    where
      grown : (stem : List ℕ) → is_word stem ≡ true → is_word (stem ++ more) ≡ true
      grown [] e = absurd (cc)
      grown (c ∷ cs) e =
          let parts = and_parts (list_all is_identifier_char (c ∷ cs)) (not (is_ascii_digit c)) e in
          and_from _ _ (list_all-append is_identifier_char (c ∷ cs) more ∙ and_from _ _ parts.0 all) parts.1

  digits_are_only : (ds : List ℕ) → list_all is_ascii_digit ds ≡ true → list_all is_identifier_char ds ≡ true
  digits_are_only [] e = refl
  digits_are_only (d ∷ ds) e =
      let parts = and_parts (is_ascii_digit d) (list_all is_ascii_digit ds) e in
      and_from _ _ (one d parts.0) (digits_are_only ds parts.1)
    where
      one : (d : ℕ) → is_ascii_digit d ≡ true → is_identifier_char d ≡ true
      one d e = grind (arith, nat_tests)

  word_of_stem : is_word stem ≡ true → (n : ℕ) → is_word (name_of_stem names stem n) ≡ true
  word_of_stem word n = either (name_cases n)
    where
      first : FirstCases → is_word (first_name names stem) ≡ true
      first (inl is) = ap is_word is ∙ only_more (95 ∷ []) word refl
      first (inr is) = ap is_word is.0 ∙ word

      either : NameCases n → is_word (name_of_stem names stem n) ≡ true
      either (inl is) = ap is_word is.1 ∙ first first_cases
      either (inr is) = ap is_word is ∙ only_more (95 ∷ digits_of n) word
          (digits_are_only (digits_of n) (all_digits-digits_of n))

  -- ---- a name is none of these words
  module _ (taken : List ℕ → Bool) (plain : (front digits : List ℕ) →
      list_all is_ascii_digit digits ≡ true → taken (front ++ 95 ∷ digits) ≡ false)
      (kept : is_taken names stem ≡ false → taken stem ≡ false) where
    free_of_stem : (n : ℕ) → taken (name_of_stem names stem n) ≡ false
    free_of_stem n = either (name_cases n)
      where
        first : FirstCases → taken (first_name names stem) ≡ false
        first (inl is) = ap taken is ∙ plain stem [] refl
        first (inr is) = ap taken is.0 ∙ kept is.2

        either : NameCases n → taken (name_of_stem names stem n) ≡ false
        either (inl is) = ap taken is.1 ∙ first first_cases
        either (inr is) = ap taken is ∙ plain stem (digits_of n) (all_digits-digits_of n)

  -- ---- no name is `_e` and digits
  numbered_of_stem : is_word stem ≡ true → (n d : ℕ) (ds : List ℕ) → list_all is_ascii_digit (d ∷ ds) ≡ true →
      name_of_stem names stem n ≡ codes "_e" ++ (d ∷ ds) → ⊥
  unfolding is_text
  numbered_of_stem word n d ds all is = either (name_cases n)
    where
      nothing : stem ≡ [] → ⊥
      nothing e = true≢false (sym word ∙ ap is_word e)

      either : NameCases n → ⊥
      either (inl first) =
          first_ends (codes "_e" ++ d ∷ ds) (numbered_is_bad names.keeps_digits d ds all) (sym first.1 ∙ is)
      either (inr later) = nothing (split_last stem (digits_of n) [] (101 ∷ d ∷ ds) (number_has_none n)
          (digits_have_none (d ∷ ds) all) (sym later ∙ is)).0

-- ---- a name tells its stem and its number, where digits are kept or not on either side
module _ (names others : Names) (b c : List ℕ) (m n : ℕ) (b_ends : ends_separated b ≡ false)
    (c_ends : ends_separated c ≡ false) where
  both_first : FirstCases names b → FirstCases others c → first_name names b ≡ first_name others c → b ≡ c
  both_first (inl x) (inl y) e = (split_last b [] c [] refl refl (sym x ∙ e ∙ y)).0
  both_first (inl x) (inr y) e =
      absurd (true≢false (sym (ends_separated-push b 95) ∙ ap ends_separated (sym x ∙ e ∙ y.0)
      ∙ c_ends))
  both_first (inr x) (inl y) e =
      absurd (true≢false (sym (ends_separated-push c 95) ∙ ap ends_separated (sym y ∙ sym e ∙ x.0)
      ∙ b_ends))
  both_first (inr x) (inr y) e = sym x.0 ∙ e ∙ y.0

  both : NameCases names b m → NameCases others c n → name_of_stem names b m ≡ name_of_stem others c n →
      (b ≡ c) × (m ≡ n)
  both (inl x) (inl y) e =
      (both_first (first_cases names b) (first_cases others c) (sym x.1 ∙ e ∙ y.1), x.0 ∙ sym y.0)
  both (inl x) (inr y) e = absurd (first_no_later names b c n (sym x.1 ∙ e ∙ y))
  both (inr x) (inl y) e = absurd (first_no_later others c b m (sym y.1 ∙ sym e ∙ x))
  both (inr x) (inr y) e =
      let parts = split_last b (digits_of m) c (digits_of n) (number_has_none m) (number_has_none n) (sym x ∙ e ∙ y) in
      (parts.0, numeral_injective m n parts.1)

  pub same_stem_and_number : name_of_stem names b m ≡ name_of_stem others c n → (b ≡ c) × (m ≡ n)
  same_stem_and_number e = both (name_cases names b m) (name_cases others c n) e

-- ---- the laws, over the labels that were named before
-- a name is a word: ASCII letters, digits and `_`, at least one of them, and no digit first
pub name_after_is_word : (start : Names) (earlier : List (List ℕ)) (label : List ℕ) →
    is_word (name_after start earlier label) ≡ true
name_after_is_word start earlier label = word_of_stem start (label_stem start label)
    (stem_is_word start.reserved_prefixes (chars label)) (labels_with_stem start earlier (label_stem start label))

free_of_three : (start : Names) (word : List ℕ) → is_taken start word ≡ false →
    (set.contains start.keywords word ≡ false) ×
    (set.contains start.builtin_identifiers word ≡ false) ×
    (set.contains start.caseless_keywords (in_lower_case word) ≡ false)
free_of_three start word e =
    let outer = or_parts (set.contains start.keywords word || set.contains start.builtin_identifiers word)
    (set.contains start.caseless_keywords (in_lower_case word)) e in
    let inner = or_parts (set.contains start.keywords word) (set.contains start.builtin_identifiers word) outer.0 in
    (inner.0, inner.1, outer.1)

-- a word that does not begin with `__`, with more after it, where it does not end in `_`
identifier_more : (stem more : List ℕ) → is_word stem ≡ true → ends_separated stem ≡ false → begins_double stem
    ≡ false → is_word (stem ++ more) ≡ true → is_identifier (stem ++ more) ≡ true
identifier_more [] more some ends single word = absurd (cc)
identifier_more (c ∷ []) more some ends single word =
    and_from _ _ word (ap (λ b. not (b && is_empty_or_separated more)) ends)
identifier_more (c ∷ d ∷ cs) more some ends single word = and_from _ _ word (ap not single)

identifier_of_stem : (names : Names) (stem : List ℕ) (n : ℕ) → is_word stem ≡ true → ends_separated stem
    ≡ false → begins_double stem ≡ false → is_identifier (name_of_stem names stem n) ≡ true
identifier_of_stem names stem n some ends single = either (name_cases names stem n) (word_of_stem names stem some n)
  where
    plain : is_word stem ≡ true → is_identifier stem ≡ true
    plain word = ap is_identifier (sym (append-nil stem)) ∙ identifier_more stem [] some ends single
        (ap is_word (append-nil stem) ∙ word)

    first : FirstCases names stem → is_word (first_name names stem) ≡ true →
        is_identifier (first_name names stem) ≡ true
    first (inl is) word = ap is_identifier is ∙ identifier_more stem (95 ∷ []) some ends single
        (ap is_word (sym is) ∙ word)
    first (inr is) word = ap is_identifier is.0 ∙ plain some

    either : NameCases names stem n → is_word (name_of_stem names stem n) ≡ true →
        is_identifier (name_of_stem names stem n) ≡ true
    either (inl is) word = ap is_identifier is.1 ∙ first (first_cases names stem) (ap is_word (sym is.1) ∙ word)
    either (inr is) word = ap is_identifier is ∙ identifier_more stem (95 ∷ digits_of n) some ends single
        (ap is_word (sym is) ∙ word)

-- a name is an identifier: a word that does not begin with `__`, and is not `_`
pub name_after_is_identifier : (start : Names) (earlier : List (List ℕ)) (label : List ℕ) →
    is_identifier (name_after start earlier label) ≡ true
name_after_is_identifier start earlier label =
    identifier_of_stem start (label_stem start label)
    (labels_with_stem start earlier (label_stem start label))
    (stem_is_word start.reserved_prefixes (chars label))
    (stem_ends start.reserved_prefixes (chars label))
    (stem_not_double start.reserved_prefixes (chars label))

-- ---- the prefixes of WGSL's implementations
abbrev naga : List ℕ → Bool
naga text = starts_with nat_eq text (codes "_naga")

naga_parted : (stem more : List ℕ) → is_word stem ≡ true → naga (stem ++ 95 ∷ more) ≡ naga stem
naga_parted [] more some = absurd (cc)
naga_parted (a ∷ []) more some = refl
naga_parted (a ∷ b ∷ []) more some = refl
naga_parted (a ∷ b ∷ c ∷ []) more some = refl
naga_parted (a ∷ b ∷ c ∷ d ∷ []) more some = refl
naga_parted (a ∷ b ∷ c ∷ d ∷ e ∷ rest) more some = refl

stem_no_naga : (prefixes : List (List ℕ)) (characters : List ℕ) → prefixes ≡ codes "__" ∷ codes "_naga" ∷ [] →
    naga (stem_of prefixes characters) ≡ false
unfolding stem_of
stem_no_naga prefixes characters is =
    ap (λ ps. naga (set_apart ps text)) is ∙ either (starts_with nat_eq text (codes "__") || (naga text || false)) refl
  where
    text : List ℕ
    text = or_unnamed (without_last_separators (ascii_of (after_numerics characters)))

    either : (b : Bool) → (starts_with nat_eq text (codes "__") || (naga text || false)) ≡ b →
        naga (cond b (codes "gen_" ++ text) text) ≡ false
    either true e = refl
    either false e =
        (or_parts (naga text) false (or_parts (starts_with nat_eq text (codes "__")) (naga text || false) e).1).0

naga_of_stem : (names : Names) (stem : List ℕ) (n : ℕ) → is_word stem ≡ true → naga stem ≡ false →
    naga (name_of_stem names stem n) ≡ false
naga_of_stem names stem n some off = either (name_cases names stem n)
  where
    first : FirstCases names stem → naga (first_name names stem) ≡ false
    first (inl is) = ap naga is ∙ naga_parted stem [] some ∙ off
    first (inr is) = ap naga is.0 ∙ off

    either : NameCases names stem n → naga (name_of_stem names stem n) ≡ false
    either (inl is) = ap naga is.1 ∙ first (first_cases names stem)
    either (inr is) = ap naga is ∙ naga_parted stem (digits_of n) some ∙ off

-- under the prefixes `__` and `_naga` no name begins with `_naga`
pub name_after_no_naga : (start : Names) (earlier : List (List ℕ)) (label : List ℕ) →
    start.reserved_prefixes ≡ codes "__" ∷ codes "_naga" ∷ [] →
    starts_with nat_eq (name_after start earlier label) (codes "_naga") ≡ false
name_after_no_naga start earlier label prefixes =
    naga_of_stem start (label_stem start label)
    (labels_with_stem start earlier (label_stem start label))
    (stem_is_word start.reserved_prefixes (chars label))
    (stem_no_naga start.reserved_prefixes (chars label) prefixes)

-- no name is a word of the sets
pub name_after_no_keyword : (start : Names) (earlier : List (List ℕ)) (label : List ℕ) →
    HasPlainEnds start.keywords → set.contains start.keywords (name_after start earlier label) ≡ false
name_after_no_keyword start earlier label plain =
    free_of_stem start (label_stem start label) (set.contains start.keywords) plain.no_end
    (λ e. (free_of_three start (label_stem start label) e).0)
    (labels_with_stem start earlier (label_stem start label))

pub name_after_no_builtin : (start : Names) (earlier : List (List ℕ)) (label : List ℕ) →
    HasPlainEnds start.builtin_identifiers →
    set.contains start.builtin_identifiers (name_after start earlier label) ≡ false
name_after_no_builtin start earlier label plain =
    let stem = label_stem start label in
    free_of_stem start stem (set.contains start.builtin_identifiers) plain.no_end
    (λ e. (free_of_three start stem e).1) (labels_with_stem start earlier stem)

pub name_after_no_caseless : (start : Names) (earlier : List (List ℕ)) (label : List ℕ) →
    HasPlainEnds start.caseless_keywords →
    set.contains start.caseless_keywords (in_lower_case (name_after start earlier label)) ≡ false
name_after_no_caseless start earlier label plain =
    let stem = label_stem start label in
    free_of_stem start stem (λ word. set.contains start.caseless_keywords (in_lower_case word))
    (λ front digits all. ap (set.contains start.caseless_keywords) (lowered_end front digits)
    ∙ plain.no_end (in_lower_case front) (in_lower_case digits) (lowered_digits digits all))
    (λ e. (free_of_three start stem e).2) (labels_with_stem start earlier stem)
  where
    lowered_end : (front digits : List ℕ) → in_lower_case (front ++ 95 ∷ digits) ≡ in_lower_case front ++ 95
        ∷ in_lower_case digits
    lowered_end [] digits = refl
    lowered_end (c ∷ front) digits = ap (λ t. to_ascii_lowercase c ∷ t) (lowered_end front digits)

    lowered_digits : (digits : List ℕ) → list_all is_ascii_digit digits ≡ true →
        list_all is_ascii_digit (in_lower_case digits) ≡ true
    lowered_digits [] e = refl
    lowered_digits (d ∷ digits) e =
        let parts = and_parts (is_ascii_digit d) (list_all is_ascii_digit digits) e in
        and_from _ _ (one d parts.0) (lowered_digits digits parts.1)
      where
        one : (d : ℕ) → is_ascii_digit d ≡ true → is_ascii_digit (to_ascii_lowercase d) ≡ true
        one d e = grind (arith, nat_tests)

-- a set of plain words has plain ends
pub plain_ends : (words : List (List ℕ)) → All IsPlain words → HasPlainEnds (set.from_list words)
plain_ends words all = record {
  no_end = λ front digits digit.
      set.contains-from_list nat_list_cmp_total words (front ++ 95 ∷ digits)
      ∙ list_any_none (eq_by_cmp (slice_cmp nat_cmp) (front ++ 95 ∷ digits)) words
      (λ k d lt. other (front ++ 95 ∷ digits) (get_or words k d)
      (λ same. (all k d lt).no_end front digits digit (sym same)));
}
  where
    other : (q word : List ℕ) → (q ≡ word → ⊥) → eq_by_cmp (slice_cmp nat_cmp) q word ≡ false
    other q word apart = is_eq-slice_cmp q word ∙ either (bytes_eq q word) refl
      where
        either : (b : Bool) → bytes_eq q word ≡ b → b ≡ false
        either true e = absurd (apart ((bytes_decides q word).0 e))
        either false e = refl

-- no name is `_e` and digits after it, so none is `_e` and a number
pub name_after_no_digits : (start : Names) (earlier : List (List ℕ)) (label : List ℕ) (d : ℕ) (ds : List ℕ) →
    list_all is_ascii_digit (d ∷ ds) ≡ true → name_after start earlier label ≡ codes "_e" ++ (d ∷ ds) → ⊥
name_after_no_digits start earlier label d ds all is =
    numbered_of_stem start (label_stem start label)
    (stem_is_word start.reserved_prefixes (chars label))
    (labels_with_stem start earlier (label_stem start label)) d ds all is

pub name_after_not_numbered : (start : Names) (earlier : List (List ℕ)) (label : List ℕ) (h : ℕ) →
    name_after start earlier label ≡ codes "_e" ++ decimal h → ⊥
unfolding is_text
name_after_not_numbered start earlier label h is = by (decimal h) (is_text-decimal h) (all_digits-decimal h) is
  where
    by : (ds : List ℕ) → is_text ds ≡ true → list_all is_ascii_digit ds ≡ true →
        name_after start earlier label ≡ codes "_e" ++ ds → ⊥
    by [] some all is = absurd cc
    by (d ∷ ds) some all is = name_after_no_digits start earlier label d ds all is

-- ---- no name comes twice
module _ (start : Names) where
  pub counted_more : (first : List (List ℕ)) (a : List ℕ) (rest : List (List ℕ)) (stem : List ℕ) →
      label_stem start a ≡ stem → labels_with_stem start (first ++ a ∷ rest) stem ≡
      labels_with_stem start first stem + (1 + labels_with_stem start rest stem)
  counted_more first a rest stem same =
      sum_by-append (λ l. cond (bytes_eq (label_stem start l) stem) 1 0) first (a ∷ rest)
      ∙ ap (λ n. labels_with_stem start first stem + n)
      (sum_by-cons (λ l. cond (bytes_eq (label_stem start l) stem) 1 0) a rest
      ∙ ap (λ b. cond b 1 0 + labels_with_stem start rest stem) ((bytes_decides (label_stem start a) stem).1 same))

-- labels at two indices have different names, even where digits are kept from the second on, or no longer
pub names_differ_by : (start : Names) (keeps : Bool) (first : List (List ℕ)) (a : List ℕ)
    (middle : List (List ℕ)) (b : List ℕ) →
    name_after start first a ≡ name_after (record start { keeps_digits = keeps }) (first ++ a ∷ middle) b → ⊥
names_differ_by start keeps first a middle b is =
    let stem_a : List ℕ = label_stem start a in
    let stem_b : List ℕ = label_stem start b in
    let m : ℕ = labels_with_stem start first stem_a in
    let n : ℕ = labels_with_stem start (first ++ a ∷ middle) stem_b in
    let same = same_stem_and_number start (record start { keeps_digits = keeps }) stem_a stem_b m n
    (stem_ends start.reserved_prefixes (chars a))
    (stem_ends start.reserved_prefixes (chars b)) is in
    let more : n ≡ labels_with_stem start first stem_b + (1 + labels_with_stem start middle stem_b) =
    counted_more start first a middle stem_b same.0 in
    let less : m ≡ labels_with_stem start first stem_b = ap (labels_with_stem start first) same.0 in
    let equal : m ≡ n = same.1 in
    absurd (omega (arith, more, less, equal))

pub names_differ : (start : Names) (first : List (List ℕ)) (a : List ℕ) (middle : List (List ℕ)) (b : List ℕ) →
    name_after start first a ≡ name_after start (first ++ a ∷ middle) b → ⊥
names_differ start = names_differ_by start start.keeps_digits

-- digits that may be kept are
pub first_keeps : (start : Names) (front ds : List ℕ) → start.keeps_digits ≡ true →
    list_all is_ascii_digit ds ≡ true → ends_in_digit front ≡ false → ends_separated front ≡ false →
    front ≢ codes "_e" → is_taken start (front ++ ds) ≡ false → first_name start (front ++ ds) ≡ front ++ ds
first_keeps start front ds keeps all none apart unnumbered free =
    (λ i. cond (has_bad_end (keeps i) (front ++ ds) || free i) ((front ++ ds) ++ codes "_") (front ++ ds))
    ∙ ap (λ b. cond (b || false) ((front ++ ds) ++ codes "_") (front ++ ds))
    (kept_end front ds all none apart unnumbered)
