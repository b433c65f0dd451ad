-- The names that a `Namer` gives.
--
-- Throughout, n are names, and p their parts as a pair.
use Rattle.std.specs.Prelude.{◌≡◌, ℕ, suc, ◌+◌, ◌-◌, ◌^◌, ◌<◌, ◌≤◌, Some, None, Bool, false, not}
use Rattle.std.specs.Prelude.{◌||◌, ◌&&◌, ◌==◌, if◌then◌else◌, List, [], ◌∷◌, ◌++◌, length, codes}
use Rattle.std.specs.Prelude.{slice_index, count_by, unwrap_or, refl, string_bytes}
use Rattle.std.specs.List.{list_all}
use Rattle.std.specs.Option.{option_map_or}
use Rattle.std.specs.declared.option.Option.{Option}
use Rattle.std.specs.declared.string.String.{String}
use Rattle.std.specs.Char.{is_ascii_digit}
use Rattle.std.specs.Coded.{Coded, code_by, coded×, coded_bool, coded_list, coded_ℕ}
use Rattle.std.specs.Cmp.Lexicographic.{slice_cmp}
use Rattle.std.specs.FinMap as map
use Rattle.std.specs.Fmt.{digits_onto}
use Rattle.std.specs.FinSet as set
use Rattle.std.specs.Ordering.{nat_cmp}
use Rattle.std.specs.Str.{bytes_eq, chars}
use Rattle.naga_naming.specs.Label.{stem_of}
use Rattle.naga_keywords.specs.Plain.{has_plain_end}
use Rattle.naga_keywords.specs.Words.{Words, in_lower_case}

-- how often each stem was used; a stem that was never used isn't there
abbrev pub Uses : Type 0
Uses = map.FinMap (slice_cmp nat_cmp) ℕ

abbrev pub uses_of : Uses → List ℕ → ℕ
uses_of uses stem = unwrap_or (map.get uses stem) 0

abbrev pub words_code : Coded Words
words_code = set.code (coded_list coded_ℕ)

abbrev pub uses_code : Coded Uses
uses_code = map.code (coded_list coded_ℕ) coded_ℕ

-- what a `Namer` goes by: its three sets of words, the prefixes that it keeps off, whether names
-- keep the digits that their stems end in, and its uses
pub record Names : Type 0 where
  pub keywords : Words
  pub builtin_identifiers : Words
  -- with their ASCII letters in lower case
  pub caseless_keywords : Words
  pub reserved_prefixes : List (List ℕ)
  pub keeps_digits : Bool
  pub uses : Uses

abbrev pub names_code : Coded Names
names_code =
    let prefixes_code = coded_list (coded_list coded_ℕ) in
    let rest_code = coded× prefixes_code (coded× coded_bool uses_code) in
    code_by (Words × (Words × (Words × (List (List ℕ) × (Bool × Uses)))))
    (coded× words_code (coded× words_code (coded× words_code rest_code)))
    (λ n.
    let rest : List (List ℕ) × (Bool × Uses) = (n.reserved_prefixes, (n.keeps_digits, n.uses)) in
    (n.keywords, (n.builtin_identifiers, (n.caseless_keywords, rest))))
    (λ p. record {
      keywords = p.0;
      builtin_identifiers = p.1.0;
      caseless_keywords = p.1.1.0;
      reserved_prefixes = p.1.1.1.0;
      keeps_digits = p.1.1.1.1.0;
      uses = p.1.1.1.1.1;
    })
    (λ _. refl)

-- no words, no prefixes, no uses, and no digits kept
abbrev pub no_names : Names
no_names =
    record {
      keywords = set.empty;
      builtin_identifiers = set.empty;
      caseless_keywords = set.empty;
      reserved_prefixes = [];
      keeps_digits = false;
      uses = map.empty;
    }

-- these words and prefixes, whether digits are kept, and no uses
abbrev pub new_names : (keywords builtins caseless : Words) → (prefixes : List (List ℕ)) →
    (keeps_digits : Bool) → Names
new_names keywords builtins caseless prefixes keeps_digits =
    record {
      keywords = keywords;
      builtin_identifiers = builtins;
      caseless_keywords = caseless;
      reserved_prefixes = prefixes;
      keeps_digits = keeps_digits;
      uses = map.empty;
    }

-- the label, or the fallback where there is none
abbrev pub label_or : {Y : Type 0} → Option (String Y) → List ℕ → List ℕ
label_or label fallback = option_map_or string_bytes label fallback

-- the stem of a label that has these bytes
abbrev pub label_stem : Names → List ℕ → List ℕ
label_stem names label = stem_of names.reserved_prefixes (chars label)

-- the word is in one of the three sets
abbrev pub is_taken : Names → List ℕ → Bool
is_taken names word =
    set.contains names.keywords word || set.contains names.builtin_identifiers word ||
    set.contains names.caseless_keywords (in_lower_case word)

abbrev pub ends_in_digit : List ℕ → Bool
ends_in_digit text = is_ascii_digit (slice_index text (length text - 1))

-- `_e`, and nothing or digits alone after it
abbrev pub is_numbered : List ℕ → Bool
is_numbered [] = false
is_numbered (c ∷ []) = false
is_numbered (c ∷ d ∷ cs) = c == 95 && (d == 101 && list_all is_ascii_digit cs)

-- The stem ends in digits that its first name may not end in. Where digits are not kept, these are
-- any. Where they are, these are the ones after a `_`, as a later name has them, and the ones after
-- `_e` alone, as the name of an expression has them.
abbrev pub has_bad_end : (keeps_digits : Bool) → (stem : List ℕ) → Bool
has_bad_end keeps_digits stem =
    ends_in_digit stem && (not keeps_digits || (not (has_plain_end stem) || is_numbered stem))

-- the first name of a stem has a `_` after it where the stem has such an end or is in one of the sets
abbrev pub first_name : Names → List ℕ → List ℕ
first_name names stem =
    if has_bad_end names.keeps_digits stem || is_taken names stem then stem ++ codes "_" else stem

-- a number in decimal, however great it is: it has no more digits than it counts, and one
abbrev pub digits_of : ℕ → List ℕ
digits_of n = digits_onto (suc n) 10 false n []

-- a later one has `_` and the number of earlier uses after it
abbrev pub later_name : List ℕ → ℕ → List ℕ
later_name stem uses = stem ++ codes "_" ++ digits_of uses

-- the name of a stem that was used so often before
abbrev pub name_of_stem : Names → List ℕ → ℕ → List ℕ
name_of_stem names stem uses = if uses == 0 then first_name names stem else later_name stem uses

-- the name of a label, by the uses of its stem so far
unfoldable pub name_of : Names → List ℕ → List ℕ
name_of names label =
    let stem = label_stem names label in name_of_stem names stem (uses_of names.uses stem)

-- one more use of the stem, and nothing else
abbrev pub with_use_of_stem : Names → List ℕ → Names
with_use_of_stem names stem =
    record names { uses = map.insert names.uses stem (uses_of names.uses stem + 1) }

-- one more use of the label's stem
unfoldable pub with_use : Names → List ℕ → Names
with_use names label = with_use_of_stem names (label_stem names label)

-- a stem that was used before has got its next name and one more use; any other one has got none
abbrev pub GivesLaterName : Uses → List ℕ → Option (List ℕ) → Uses → Type 0
GivesLaterName before stem None after = (uses_of before stem ≡ 0) × (after ≡ before)
GivesLaterName before stem (Some name) after =
    let uses = uses_of before stem in
    (0 < uses) × (uses < 2 ^ 32) × (name ≡ later_name stem uses)
    × (after ≡ map.insert before stem (uses + 1))

-- the stem has been used so often that there is no next name: its counter is at the greatest `u32`
abbrev pub IsFull : Names → List ℕ → Type 0
IsFull names label = uses_of names.uses (label_stem names label) ≡ 2 ^ 32

-- how many of these labels have this stem
abbrev pub labels_with_stem : Names → List (List ℕ) → List ℕ → ℕ
labels_with_stem names labels stem =
    count_by (λ label. bytes_eq (label_stem names label) stem) labels

-- the name of a label after these earlier ones
abbrev pub name_after : Names → List (List ℕ) → List ℕ → List ℕ
name_after names earlier label =
    let stem = label_stem names label in
    name_of_stem names stem (labels_with_stem names earlier stem)

-- the uses so far are those of these labels, and none of them are more than can be counted
pub record HasNamed (names : Names) (labels : List (List ℕ)) : Type 0 where
  pub uses_are : (stem : List ℕ) → uses_of names.uses stem ≡ labels_with_stem names labels stem
  pub few : (stem : List ℕ) → labels_with_stem names labels stem ≤ 2 ^ 32
