-- What a JSON value says, as serde's forms have it: Some of what contracts see in the value that is read, or None.
-- docs/JSON.md tells these forms under "Forms".
use Rattle.std.specs.Prelude.{◌≡◌, ℕ, List, [], ◌∷◌, Bool, true, false, cond, ◌&&◌, ◌||◌}
use Rattle.std.specs.Prelude.{Option, Some, None, option_map, Result, Ok, Err, ⊤}
use Rattle.std.specs.Prelude.{codes, ◌+◌, ◌==◌}
use Rattle.std.specs.Option.{is_some}
use Rattle.std.specs.Borrow.{Bor}
use Prim.Native.String.{String}
use Rattle.std.specs.Str.{bytes_eq}
use Rattle.json.specs.Json.{Json, null, boolean, number, string, array, object, Items, no_items, item}
use Rattle.json.specs.Json.{Members, no_members, member}
use Rattle.json.specs.Find.{get, is_null, as_bool, as_array, as_object}
use Rattle.naga_json.specs.declared.error.ReadError.{ReadError}
use Rattle.naga_json.specs.declared.error.ReadError.TheVariants.{OutOfMemory, NoJson, Misfit}

infixl 10 ◌>>=◌
abbrev pub ◌>>=◌ : {A B : Type 0} → Option A → (A → Option B) → Option B
None >>= f = None
(Some x) >>= f = f x

-- ---- what a reader returned

-- an error that tells of the JSON, and not of memory
abbrev pub IsRefusal : ReadError → Type 0
IsRefusal OutOfMemory = ⊥
IsRefusal (NoJson l c) = ⊤
IsRefusal (Misfit p w) = ⊤

-- An Ok is what is said, as `view` sees it. An error that is not of memory comes only where nothing is said.
abbrev pub Gives : {X Y : Type 0} → (X → Y) → Option Y → Result X ReadError → Type 0
Gives view said (Ok x) = said ≡ Some (view x)
Gives view said (Err e) = IsRefusal e → said ≡ None

-- what was read, seen from the value around it: its error may want memory
abbrev pub IsStep : {X : Type 0} → Result X ReadError → Result X ReadError → Type 0
IsStep read (Ok x) = read ≡ Ok x
IsStep (Ok x) (Err e) = ⊥
IsStep (Err e) (Err f) = IsRefusal f → IsRefusal e

-- where a type is seen as it is
abbrev pub same : {X : Type 0} → X → X
same x = x

abbrev pub unseen : {X : Type 0} → X → ⊤
unseen x = tt

-- ---- members

abbrev pub or_absent : {Y : Type 0} → (Json → Option Y) → Option Y → Option Json → Option Y
or_absent said absent None = absent
or_absent said absent (Some j) = said j

abbrev pub is_object : Json → Bool
is_object null = false
is_object (boolean b) = false
is_object (number s) = false
is_object (string s) = false
is_object (array js) = false
is_object (object ms) = true

-- what the member of this name says; it must be there
abbrev pub member_said : {Y : Type 0} → (Json → Option Y) → List ℕ → Json → Option Y
member_said said name j = get name j >>= said

-- what the member of this name says, or what its absence stands for
abbrev pub member_or : {Y : Type 0} → Y → (Json → Option Y) → List ℕ → Json → Option Y
member_or absent said name j = cond (is_object j) (or_absent said (Some absent) (get name j)) None

-- the texts of names
abbrev pub texts : List (Bor (List ℕ)) → List (List ℕ)
texts [] = []
texts (n ∷ ns) = n.now ∷ texts ns

abbrev pub among : List (List ℕ) → List ℕ → Bool
among [] name = false
among (n ∷ ns) name = bytes_eq n name || among ns name

abbrev pub members_among : List (List ℕ) → List (List ℕ) → Members → Bool
members_among names let_be no_members = true
members_among names let_be (member k j ms) =
    (among names k || among let_be k) && members_among names let_be ms

-- an object with no other members than these, where those of the second list are let be
abbrev pub only_beside : List (List ℕ) → List (List ℕ) → Json → Option ⊤
only_beside names let_be null = None
only_beside names let_be (boolean b) = None
only_beside names let_be (number s) = None
only_beside names let_be (string s) = None
only_beside names let_be (array js) = None
only_beside names let_be (object ms) = cond (members_among names let_be ms) (Some tt) None

abbrev pub only : List (List ℕ) → Json → Option ⊤
only names j = only_beside names [] j

-- the same, of names in quotes, as the forms of the types tell them
abbrev pub codes_of : List String → List (List ℕ)
codes_of [] = []
codes_of (n ∷ ns) = codes n ∷ codes_of ns

abbrev pub members : List String → Json → Option ⊤
members names j = only (codes_of names) j

abbrev pub members_beside : List String → List String → Json → Option ⊤
members_beside names let_be j = only_beside (codes_of names) (codes_of let_be) j

-- whether one of these members is there
abbrev pub any_found : List (List ℕ) → Json → Bool
any_found [] j = false
any_found (n ∷ ns) j = is_some (get n j) || any_found ns j

abbrev pub field : {Y : Type 0} → String → (Json → Option Y) → Json → Option Y
field name said j = member_said said (codes name) j

abbrev pub field_or : {Y : Type 0} → String → Y → (Json → Option Y) → Json → Option Y
field_or name absent said j = member_or absent said (codes name) j

-- ---- lists and options

abbrev pub items_said : {Y : Type 0} → (Json → Option Y) → Items → Option (List Y)
items_said said no_items = Some []
items_said said (item j js) = said j >>= λ x. items_said said js >>= λ xs. Some (x ∷ xs)

abbrev pub list_said : {Y : Type 0} → (Json → Option Y) → Json → Option (List Y)
list_said said null = None
list_said said (boolean b) = None
list_said said (number s) = None
list_said said (string s) = None
list_said said (array js) = items_said said js
list_said said (object ms) = None

-- null is None
abbrev pub option_said : {Y : Type 0} → (Json → Option Y) → Json → Option (Option Y)
option_said said j = cond (is_null j) (Some None) (option_map Some (said j))

-- a member that is an option, or a truth value
abbrev pub option_field : {Y : Type 0} → String → (Json → Option Y) → Json → Option (Option Y)
option_field name said j = field_or name None (option_said said) j

abbrev pub truth_field : String → Json → Option Bool
truth_field name j = field_or name false as_bool j

-- ---- tuples

abbrev pub items_count : Items → ℕ
items_count no_items = 0
items_count (item j js) = items_count js + 1

-- a list of this many items
abbrev pub tuple_said : {Y : Type 0} → ℕ → (Json → Option Y) → Json → Option (List Y)
tuple_said n said j = as_array j >>= λ js. cond (items_count js == n) (items_said said js) None

-- ---- enums

-- a table of names
abbrev pub Table : Type 0 → Type 0
Table N = List (List ℕ × N)

infix 68 ◌⇒◌
abbrev pub ◌⇒◌ : {N : Type 0} → String → N → List ℕ × N
name ⇒ n = (codes name, n)

abbrev pub all_named : List ℕ → Members → Bool
all_named name no_members = true
all_named name (member k j ms) = bytes_eq k name && all_named name ms

abbrev pub last_member : Members → Option (List ℕ × Json)
last_member no_members = None
last_member (member k j no_members) = Some (k, j)
last_member (member k j (member l i ms)) = last_member (member l i ms)

abbrev pub has_members : Members → Bool
has_members ms = is_some (last_member ms)

-- an object without members, or with one of these at least
abbrev pub known : List (List ℕ) → Json → Option ⊤
known names j = as_object j >>= λ ms. cond (has_members ms) (cond (any_found names j) (Some tt) None) (Some tt)

abbrev pub members_known : List String → Json → Option ⊤
members_known names j = known (codes_of names) j

-- a name that comes twice is one member, and the last counts
abbrev pub only_member : Members → Option (List ℕ × Json)
only_member ms = last_member ms >>= λ m. cond (all_named m.0 ms) (Some m) None

-- the name of a variant and its payload; a name alone has null for it
abbrev pub variant_of : Json → Option (List ℕ × Json)
variant_of null = None
variant_of (boolean b) = None
variant_of (number s) = None
variant_of (string s) = Some (s, null)
variant_of (array js) = None
variant_of (object ms) = only_member ms

-- what the first row of this name has
abbrev pub entry_of : {N : Type 0} → Table N → List ℕ → Option N
entry_of [] name = None
entry_of (e ∷ es) name = cond (bytes_eq e.0 name) (Some e.1) (entry_of es name)

-- no payload
abbrev pub unit_said : {Y : Type 0} → Y → Json → Option Y
unit_said y j = cond (is_null j) (Some y) None

-- a variant by a table of names, with what each says by its payload
abbrev pub variant_said : {N Y : Type 0} → Table N → (N → Json → Option Y) → Json → Option Y
variant_said table payload_said j =
    variant_of j >>= λ v. entry_of table v.0 >>= λ n. payload_said n v.1

-- a word of a table
abbrev pub word_said : {Y : Type 0} → Table Y → Json → Option Y
word_said table j = variant_said table unit_said j

-- the rows of a table of the code
abbrev pub rows : {N : Type 0} → List (Bor (List ℕ) × N) → Table N
rows [] = []
rows (e ∷ es) = (e.0.now, e.1) ∷ rows es
