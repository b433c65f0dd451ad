-- What holds of every name, after whatever was named before.
--
-- Throughout, t is the handle of a type ty, n and k are indexes of its members, i and j those of
-- items; a and b are labels, items or members, and h is the handle of an expression.
use Rattle.std.specs.Prelude.{◌≡◌, ◌≢◌, ℕ, ◌<◌, map, List, [], ◌∷◌, nat_eq, ◌++◌, take, Bool}
use Rattle.std.specs.Prelude.{true, false, ◌||◌, if◌then◌else◌, codes, slice_get, Some}
use Rattle.std.specs.List.{list_all, starts_with}
use Rattle.std.specs.Char.{is_ascii_digit}
use Rattle.std.specs.FinSet as set
use Rattle.naga_keywords.specs.Plain.{is_identifier, HasPlainEnds}
use Rattle.naga_keywords.specs.Words.{in_lower_case}
use Rattle.naga_naming.specs.Label.{ends_separated}
use Rattle.naga_naming.specs.Naming.{Names, uses_of, name_of, name_of_stem, name_after}
use Rattle.naga_naming.specs.Naming.{HasNamed, ends_in_digit, first_name, is_taken}
use Rattle.naga_naming.specs.Keys.{NameMap}
use Rattle.naga_naming.specs.Reset.{LabelledItem, is_member, members_of, member_label, member_names}
use Rattle.naga_naming.specs.Reset.{item_name, labelled_items, HasNamedItems}
use Rattle.naga_ir.specs.declared.module.Module.{Module}
use Rattle.naga_ir.specs.declared.types.StructMember.{StructMember}
use Rattle.naga_ir.specs.declared.types.Type_.{Type_}
use Rattle.naga_keywords.specs.declared.keywords.TheConstants.{RESERVED}
use Rattle.naga_naming.specs.declared.key.NameKey.TheVariants as key

-- a name has ASCII letters, digits and `_` alone, begins
-- with no digit and not with `__`, and is not `_`
abbrev pub NamesAreIdentifiers : Type 0
NamesAreIdentifiers =
    (start : Names) (earlier : List (List ℕ)) (label : List ℕ) →
    is_identifier (name_after start earlier label) ≡ true

-- where identifiers keep off the prefixes `__` and `_naga`,
-- no name begins with `_naga`; none ever begins with `__`
abbrev pub NamesKeepOffNaga : Type 0
NamesKeepOffNaga =
    (start : Names) (earlier : List (List ℕ)) (label : List ℕ) →
    start.reserved_prefixes ≡ codes "__" ∷ codes "_naga" ∷ [] →
    starts_with nat_eq (name_after start earlier label) (codes "_naga") ≡ false

-- where no word of a set ends in `_`, or in `_` and digits, no name is in the set
abbrev pub NamesAreNoKeywords : Type 0
NamesAreNoKeywords =
    (start : Names) (earlier : List (List ℕ)) (label : List ℕ) → HasPlainEnds start.keywords →
    set.contains start.keywords (name_after start earlier label) ≡ false

abbrev pub NamesAreNoBuiltins : Type 0
NamesAreNoBuiltins =
    (start : Names) (earlier : List (List ℕ)) (label : List ℕ) →
    HasPlainEnds start.builtin_identifiers →
    set.contains start.builtin_identifiers (name_after start earlier label) ≡ false

-- and none is a caseless word in any case
abbrev pub NamesAreNoCaselessKeywords : Type 0
NamesAreNoCaselessKeywords =
    (start : Names) (earlier : List (List ℕ)) (label : List ℕ) →
    HasPlainEnds start.caseless_keywords →
    set.contains start.caseless_keywords (in_lower_case (name_after start earlier label)) ≡ false

-- no name is `_e` and digits after it, `_e05` as little as `_e5`
abbrev pub NamesAreNotNumbered : Type 0
NamesAreNotNumbered =
    (start : Names) (earlier : List (List ℕ)) (label : List ℕ) (d : ℕ) (ds : List ℕ) →
    list_all is_ascii_digit (d ∷ ds) ≡ true →
    name_after start earlier label ≡ codes "_e" ++ (d ∷ ds) → ⊥

-- labels at two indices have different names
abbrev pub NamesDiffer : Type 0
NamesDiffer =
    (start : Names) (first : List (List ℕ)) (a : List ℕ) (middle : List (List ℕ)) (b : List ℕ) →
    name_after start first a ≡ name_after start (first ++ a ∷ middle) b → ⊥

-- and so have they where digits are kept from some label on, or are no longer
abbrev pub NamesDifferAcrossSettings : Type 0
NamesDifferAcrossSettings =
    (start : Names) (keeps : Bool) (first : List (List ℕ)) (a : List ℕ)
    (middle : List (List ℕ)) (b : List ℕ) →
    let later = record start { keeps_digits = keeps } in
    name_after start first a ≡ name_after later (first ++ a ∷ middle) b → ⊥

-- ---- digits at the end
-- Where digits are not kept, the first name of a stem has a `_` after it where the stem ends in one
-- or is taken, as in naga.
abbrev pub DigitsAreSetApart : Type 0
DigitsAreSetApart =
    (start : Names) (stem : List ℕ) → start.keeps_digits ≡ false →
    first_name start stem
    ≡ (if ends_in_digit stem || is_taken start stem then stem ++ codes "_" else stem)

-- Where they are kept, a stem that is not taken is its own first name, unless the digits at its end
-- come after a `_` or after `_e` alone.
abbrev pub DigitsAreKept : Type 0
DigitsAreKept =
    (start : Names) (front digits : List ℕ) → start.keeps_digits ≡ true →
    list_all is_ascii_digit digits ≡ true → ends_in_digit front ≡ false →
    ends_separated front ≡ false → front ≢ codes "_e" →
    is_taken start (front ++ digits) ≡ false → first_name start (front ++ digits) ≡ front ++ digits

-- after a `reset` each item has in the map the name that it has after the items before it
abbrev pub ItemsAreNamed : Type 0
ItemsAreNamed =
    (start : Names) (before now : NameMap) (module_ : Module) (names : Names) →
    HasNamedItems start before (labelled_items start module_) names now →
    (i : ℕ) (item : LabelledItem) → slice_get (labelled_items start module_) i ≡ Some item →
    now item.0 ≡ Some (item_name start (take i (labelled_items start module_)) item)

-- and items outside structs with one name are one item
abbrev pub ItemsAreDistinguished : Type 0
ItemsAreDistinguished =
    (start : Names) (before now : NameMap) (module_ : Module) (names : Names) →
    HasNamedItems start before (labelled_items start module_) names now →
    (i j : ℕ) (a b : LabelledItem) → slice_get (labelled_items start module_) i ≡ Some a →
    slice_get (labelled_items start module_) j ≡ Some b → is_member a.0 ≡ false →
    is_member b.0 ≡ false → now a.0 ≡ now b.0 → i ≡ j

-- ---- members of structs
-- after a `reset` a member has the name that its label has after those of the members before it
-- alone, where builtin words are free
abbrev pub MembersAreNamed : Type 0
MembersAreNamed =
    (start : Names) (before now : NameMap) (module_ : Module) (names : Names) →
    HasNamedItems start before (labelled_items start module_) names now →
    (t : ℕ) (ty : Type_) → slice_get module_.types t ≡ Some ty → (n : ℕ) (member : StructMember) →
    slice_get (members_of ty.inner) n ≡ Some member →
    let earlier = map member_label (take n (members_of ty.inner)) in
    now (key.StructMember t n)
    ≡ Some (name_after (member_names start) earlier (member_label member))

-- members of one struct that have one name are one member
abbrev pub MembersAreDistinguished : Type 0
MembersAreDistinguished =
    (start : Names) (before now : NameMap) (module_ : Module) (names : Names) →
    HasNamedItems start before (labelled_items start module_) names now →
    (t : ℕ) (ty : Type_) → slice_get module_.types t ≡ Some ty → (n k : ℕ) (a b : StructMember) →
    slice_get (members_of ty.inner) n ≡ Some a → slice_get (members_of ty.inner) k ≡ Some b →
    now (key.StructMember t n) ≡ now (key.StructMember t k) → n ≡ k

-- where names keep off the reserved words of WGSL, no member has such a word for a name
abbrev pub MembersAreNotReserved : Type 0
MembersAreNotReserved =
    (start : Names) (before now : NameMap) (module_ : Module) (names : Names) →
    HasNamedItems start before (labelled_items start module_) names now →
    start.keywords ≡ set.from_list (map (λ word. word.now) RESERVED.now) →
    (t : ℕ) (ty : Type_) → slice_get module_.types t ≡ Some ty → (n : ℕ) (member : StructMember) →
    slice_get (members_of ty.inner) n ≡ Some member →
    (name : List ℕ) → now (key.StructMember t n) ≡ Some name →
    set.contains start.keywords name ≡ false

-- ---- what was given so far
-- one of these labels, which were named one after another, got this identifier
pub record WasAssigned (start : Names) (labels : List (List ℕ)) (word : List ℕ) : Type 0 where
  pub index : ℕ
  pub label : List ℕ
  pub there : slice_get labels index ≡ Some label
  pub is : word ≡ name_after start (take index labels) label

-- a stem that was used n times gave its first form and the numbers below n
pub record FollowsFromUses (names : Names) (word : List ℕ) : Type 0 where
  pub stem : List ℕ
  pub number : ℕ
  pub used : number < uses_of names.uses stem
  pub is : word ≡ name_of_stem names stem number

-- the identifiers given so far are those that the uses tell
abbrev pub AssignedNamesFollow : Type 0
AssignedNamesFollow =
    (names : Names) (labels : List (List ℕ)) → HasNamed names labels → (word : List ℕ) →
    (WasAssigned names labels word → FollowsFromUses names word)
    × (FollowsFromUses names word → WasAssigned names labels word)

-- and the next one is none of them
abbrev pub AssignedNamesAreNew : Type 0
AssignedNamesAreNew =
    (names : Names) (labels : List (List ℕ)) → HasNamed names labels → (label : List ℕ) →
    WasAssigned names labels (name_of names label) → ⊥
