-- The rule gives the texts that it is to give. Each label is a list of characters.
use Rattle.std.proofs.Common.{◌≡◌, ℕ, Bool, true, false, cond, ◌||◌, List, [], ◌∷◌, ◌++◌, codes}
use Rattle.std.proofs.Common.{ap, refl, ◌∙◌}
use Rattle.std.specs.FinSet as set
use Rattle.std.specs.Fmt.{digits}
use Rattle.std.specs.Str.{chars}
use Rattle.std.specs.Cmp.Lexicographic.{slice_cmp}
use Rattle.std.specs.Ordering.{nat_cmp}
use Rattle.std.proofs.Math.Bool.{or-false}
use Rattle.ucd_category.proofs.Computing.{ucd_category}
use Rattle.naga_keywords.specs.Words.{Words, in_lower_case}
use Rattle.naga_naming.specs.Label.{stem_of, is_numeric, hexadecimal, ascii_of}
use Rattle.naga_naming.specs.Naming.{Names, has_bad_end, is_taken, label_stem, name_after, no_names}
use Rattle.naga_naming.specs.Reset.{member_names}

marks_are_separators : stem_of [] (codes "a:b<c>") ≡ codes "a_b_c"
unfolding stem_of ascii_of hexadecimal digits is_numeric ucd_category
marks_are_separators = refl

numerics_are_dropped : stem_of [] (codes "1___x") ≡ codes "_x"
unfolding stem_of ascii_of hexadecimal digits is_numeric ucd_category
numerics_are_dropped = refl

superscript_two_is_dropped : stem_of [] (178 ∷ codes "y") ≡ codes "y"
unfolding stem_of ascii_of hexadecimal digits is_numeric ucd_category
superscript_two_is_dropped = refl

superscript_two_inside : stem_of [] (codes "x" ++ 178 ∷ []) ≡ codes "x_u00b2"
unfolding stem_of ascii_of hexadecimal digits is_numeric ucd_category
superscript_two_inside = refl

accented_letter : stem_of [] (233 ∷ []) ≡ codes "u00e9"
unfolding stem_of ascii_of hexadecimal digits is_numeric ucd_category
accented_letter = refl

five_digits : stem_of [] (0x1F600 ∷ []) ≡ codes "u1f600"
unfolding stem_of ascii_of hexadecimal digits is_numeric ucd_category
five_digits = refl

two_foreign : stem_of [] (0x3B1 ∷ 0x3B2 ∷ []) ≡ codes "u03b1_u03b2"
unfolding stem_of ascii_of hexadecimal digits is_numeric ucd_category
two_foreign = refl

nothing_left : stem_of [] (codes "9_") ≡ codes "unnamed"
unfolding stem_of ascii_of hexadecimal digits is_numeric ucd_category
nothing_left = refl

prefix_after_squeezing : stem_of (codes "__" ∷ codes "_naga" ∷ []) (codes "__naga_x") ≡ codes "gen__naga_x"
unfolding stem_of ascii_of hexadecimal digits is_numeric ucd_category
prefix_after_squeezing = refl

separator_and_mark : stem_of (codes "__" ∷ codes "_naga" ∷ []) (codes "_:x") ≡ codes "_x"
unfolding stem_of ascii_of hexadecimal digits is_numeric ucd_category
separator_and_mark = refl

-- ---- digits at the end
-- a `Namer` that keeps off no word
abbrev keeping : Bool → Names
keeping keeps = record no_names { keeps_digits = keeps }

-- the first name of a stem goes by its end alone then
by_end : (keeps : Bool) (label : List ℕ) →
    let stem = label_stem no_names label in
    name_after (keeping keeps) [] label ≡ cond (has_bad_end keeps stem) (stem ++ codes "_") stem
by_end keeps label =
    ap (λ b. cond b (stem ++ codes "_") stem)
    (ap (λ b. has_bad_end keeps stem || b) free ∙ or-false (has_bad_end keeps stem))
  where
    stem : List ℕ
    stem = label_stem no_names label

    free : is_taken no_names stem ≡ false
    free = λ i. set.contains-empty (slice_cmp nat_cmp) stem i || set.contains-empty (slice_cmp nat_cmp) stem i ||
        set.contains-empty (slice_cmp nat_cmp) (in_lower_case stem) i

digits_stay : name_after (keeping true) [] (codes "pass2") ≡ codes "pass2"
unfolding stem_of ascii_of hexadecimal digits is_numeric ucd_category chars
digits_stay = by_end true (codes "pass2")

a_later_name : name_after (keeping true) (codes "pass2" ∷ []) (codes "pass2") ≡ codes "pass2_1"
unfolding stem_of ascii_of hexadecimal digits is_numeric ucd_category chars
a_later_name = refl

digits_after_a_separator : name_after (keeping true) [] (codes "pass_2") ≡ codes "pass_2_"
unfolding stem_of ascii_of hexadecimal digits is_numeric ucd_category chars
digits_after_a_separator = by_end true (codes "pass_2")

digits_of_an_expression : name_after (keeping true) [] (codes "_e5") ≡ codes "_e5_"
unfolding stem_of ascii_of hexadecimal digits is_numeric ucd_category chars
digits_of_an_expression = by_end true (codes "_e5")

zeros_of_none : name_after (keeping true) [] (codes "_e05") ≡ codes "_e05_"
unfolding stem_of ascii_of hexadecimal digits is_numeric ucd_category chars
zeros_of_none = by_end true (codes "_e05")

digits_after_letters : name_after (keeping true) [] (codes "a_b2") ≡ codes "a_b2"
unfolding stem_of ascii_of hexadecimal digits is_numeric ucd_category chars
digits_after_letters = by_end true (codes "a_b2")

digits_after_more : name_after (keeping true) [] (codes "x_e5") ≡ codes "x_e5"
unfolding stem_of ascii_of hexadecimal digits is_numeric ucd_category chars
digits_after_more = by_end true (codes "x_e5")

digits_not_kept : name_after (keeping false) [] (codes "x2") ≡ codes "x2_"
unfolding stem_of ascii_of hexadecimal digits is_numeric ucd_category chars
digits_not_kept = by_end false (codes "x2")

no_digits : name_after (keeping false) [] (codes "x2y") ≡ codes "x2y"
unfolding stem_of ascii_of hexadecimal digits is_numeric ucd_category chars
no_digits = by_end false (codes "x2y")

-- members go by the same rule, and keep off no builtin word
a_member : (words : Words) → let names = record (keeping true) { builtin_identifiers = words } in
    name_after (member_names names) [] (codes "vec2") ≡ codes "vec2"
unfolding stem_of ascii_of hexadecimal digits is_numeric ucd_category chars
a_member words = by_end true (codes "vec2")

a_member_without : (words : Words) → let names = record (keeping false) { builtin_identifiers = words } in
    name_after (member_names names) [] (codes "vec2") ≡ codes "vec2_"
unfolding stem_of ascii_of hexadecimal digits is_numeric ucd_category chars
a_member_without words = by_end false (codes "vec2")
