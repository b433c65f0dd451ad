-- Types are equal where what contracts see of them is, and lists of types and of pairs are as their values say.
use Rattle.std.proofs.Common.{◌≡◌, ◌≢◌, ℕ, ◌+◌, Bool, true, false, cond, not, ◌&&◌, ◌||◌, List, [], ◌∷◌}
use Rattle.std.proofs.Common.{◌++◌, map, length, Option, Some, None, refl, ap, sym, ◌∙◌, arith, inl, inr}
use Rattle.std.proofs.Common.{string_bytes, String, option_map, nat_eq, length-append}
use Rattle.std.proofs.lemmas.Bool.{cases_Bool}
use Rattle.std.specs.Option.{option_eq, is_some}
use Rattle.std.specs.List.{list_any, position_or_len}
use Rattle.std.specs.Cmp.Lexicographic.{pointwise}
use Rattle.std.specs.Map.{lookup}
use Rattle.std.specs.Prelude.{string_eq, Result, Ok, Err}
use Rattle.indexmap.specs.IndexMap.{insert_entry}
use Rattle.indexmap.specs.IndexSet.{insert_key}
use Rattle.json.specs.Find.{as_array}
use Rattle.json.specs.Json.{Json, Items, item}
use Rattle.json.specs.Value.{items_view}
use Rattle.json.specs.declared.value.Value.{Value}
use Rattle.naga_ir.specs.contracts.types.StructMemberPartialEq.TheImpl as member_eq
use Rattle.naga_ir.specs.contracts.types.TypeInnerPartialEq.TheImpl as inner_eq
use Rattle.naga_ir.specs.contracts.types.Type_PartialEq.TheImpl as type_eq
use Rattle.naga_ir.specs.declared.types.PredeclaredType.{PredeclaredType}
use Rattle.naga_ir.specs.declared.types.StructMember.{StructMember}
use Rattle.naga_ir.specs.declared.types.TypeInner.{TypeInner}
use Rattle.naga_ir.specs.declared.types.TypeInner.TheVariants.{Struct}
use Rattle.naga_ir.specs.declared.types.Type_.{Type_}
use Rattle.naga_json.specs.Said.{Gives, IsStep}
use Rattle.naga_json.specs.Seen.{seen_inner, seen_member, seen_type}
use Rattle.naga_json.specs.TypeLists.{has_key, is_empty_object, pair_said, pairs_after}
use Rattle.naga_json.specs.TypeLists.{predeclared_types_said, same_inner, same_member}
use Rattle.naga_json.specs.TypeLists.{same_name, same_type, types_after, types_said}
use Rattle.naga_json.specs.declared.error.ReadError.{ReadError}
use Rattle.naga_json.specs.Types.{type_said}

-- ---- equal where they are seen as equal

names_seen : {A : Type 0} (m n : Option (String A)) → option_eq string_eq m n
    ≡ same_name (option_map string_bytes m) (option_map string_bytes n)
names_seen None None = refl
names_seen None (Some b) = refl
names_seen (Some a) None = refl
names_seen (Some a) (Some b) = refl

and_true : (b : Bool) → (b && true) ≡ b
and_true true = refl
and_true false = refl

member_seen : (m n : StructMember) → member_eq.eq-value.it m n ≡ same_member (seen_member m) (seen_member n)
member_seen m n = rw (names_seen m.name n.name, and_true (nat_eq m.ty n.ty)) refl

members_seen : (ms ns : List StructMember) → pointwise member_eq.eq-value.it ms ns
    ≡ pointwise same_member (map seen_member ms) (map seen_member ns)
members_seen [] [] = refl
members_seen [] (n ∷ ns) = refl
members_seen (m ∷ ms) [] = refl
members_seen (m ∷ ms) (n ∷ ns) = rw (member_seen m n, members_seen ms ns) refl

inner_seen : (a b : TypeInner) → inner_eq.eq-value.it a b ≡ same_inner (seen_inner a) (seen_inner b)
inner_seen (Struct ms s) (Struct ns t) = rw (members_seen ms.items ns.items) refl
inner_seen a (Struct ns t) = refl
inner_seen a b = refl

pub type_seen : (a b : Type_) → type_eq.eq-value.it a b ≡ same_type (seen_type a) (seen_type b)
type_seen a b =
    ap (λ x. x && inner_eq.eq-value.it a.inner b.inner) (names_seen a.name b.name)
    ∙ ap (λ x. same_name (option_map string_bytes a.name) (option_map string_bytes b.name) && x)
    (inner_seen a.inner b.inner)

-- ---- lists

module _ {A B : Type 0} (eq : A → A → Bool) (same : B → B → Bool) (seen : A → B)
    (so : (a b : A) → eq a b ≡ same (seen a) (seen b)) where
  pub any_seen : (a : A) (xs : List A) → list_any (eq a) xs ≡ list_any (same (seen a)) (map seen xs)
  any_seen a [] = refl
  any_seen a (x ∷ xs) = rw (so a x, any_seen a xs) refl

  pub place_seen : (a : A) (xs : List A) → position_or_len (eq a) xs ≡ position_or_len (same (seen a)) (map seen xs)
  place_seen a [] = refl
  place_seen a (x ∷ xs) = rw (so a x, place_seen a xs) refl

pub map_push : {A B : Type 0} (f : A → B) (xs : List A) (x : A) → map f (xs ++ x ∷ []) ≡ map f xs ++ f x ∷ []
map_push f [] y = refl
map_push f (x ∷ xs) y = ap (λ zs. f x ∷ zs) (map_push f xs y)

module _ {A B : Type 0} (eq : A → A → Bool) (same : B → B → Bool) (seen : A → B)
    (so : (a b : A) → eq a b ≡ same (seen a) (seen b)) where
  pub key_seen : (xs : List A) (a : A) → map seen (insert_key eq xs a) ≡ insert_key same (map seen xs) (seen a)
  key_seen xs a =
      let any = any_seen eq same seen so a xs in
      elim (cases_Bool (list_any (same (seen a)) (map seen xs))) [
        | inl found ↦ rw (found, any ∙ found) refl
        | inr missing ↦ rw (missing, any ∙ missing) (map_push seen xs a)
      ]

-- an item that is found past the end is not there, and one that is found elsewhere is
past_first : (b : Bool) (m n : ℕ) → cond (not b) (1 + m) 0 ≡ n + 1 → (b ≡ false) × (m ≡ n)
past_first true m n e = absurd (omega (arith, e))
past_first false m n e = (refl, omega (arith, e))

pub past_end : {A : Type 0} (test : A → Bool) (xs : List A) → position_or_len test xs ≡ length xs → list_any test xs ≡ false
past_end test [] e = refl
past_end test (x ∷ xs) e =
    let first = past_first (test x) (position_or_len test xs) (length xs) (e ∙ omega arith) in
    rw (first.0, past_end test xs first.1) refl

or_false : (a b : Bool) → (a || b) ≡ false → (a ≡ false) × (b ≡ false)
or_false true b e = let wrong : true ≡ false = e in absurd (cc)
or_false false b e = (refl, e)

all_past : {A : Type 0} (test : A → Bool) (xs : List A) → list_any test xs ≡ false → position_or_len test xs ≡ length xs
all_past test [] e = refl
all_past test (x ∷ xs) e =
    let each = or_false (test x) (list_any test xs) e in
    rw (each.0, all_past test xs each.1) (omega arith)

pub elsewhere : {A : Type 0} (test : A → Bool) (xs : List A) → position_or_len test xs ≢ length xs → list_any test xs ≡ true
elsewhere test xs e = elim (cases_Bool (list_any test xs)) [
  | inl passes ↦ passes
  | inr fails ↦ absurd (e (all_past test xs fails))
]

pub key_new : {A : Type 0} (eq : A → A → Bool) (ks : List A) (k : A) → list_any (eq k) ks ≡ false →
    insert_key eq ks k ≡ ks ++ k ∷ []
key_new eq ks k none = rw none refl

pub pushed : {A : Type 0} (xs : List A) (x : A) → length (xs ++ x ∷ []) ≡ length xs + 1
pushed xs x = omega (arith, length-append xs (x ∷ []))

-- ---- what was refused

pub refused : {X Y : Type 0} (view : X → Y) (said : Option Y) (e : ReadError) (r : Result X ReadError) → said ≡ None →
    IsStep (Err e) r → Gives view said r
refused view said e (Ok x) none step = absurd (cc step)
refused view said e (Err f) none step = λ refusal. none

-- ---- the types of a module

pub no_types : (j : Json) (js : Items) → as_array j ≡ Some js → types_after [] js ≡ None → types_said j ≡ None
unfolding types_said
no_types j js e f = rw (e, f) refl

module _ (read : List Type_) (j : Json) (js : Items) (t : Type_) (is : type_said j ≡ Some (seen_type t)) where
  -- one more type, which equals none before it
  pub type_read : (new : List Type_) → list_any (type_eq.eq-value.it t) read ≡ false → new ≡ read ++ t ∷ [] →
      types_after (map seen_type new) js ≡ types_after (map seen_type read) (item j js)
  type_read new none grown =
      let other : list_any (same_type (seen_type t)) (map seen_type read) ≡ false =
      sym (any_seen type_eq.eq-value.it same_type seen_type type_seen t read) ∙ none in
      let back : types_after (map seen_type read) (item j js) ≡ types_after (map seen_type read ++ seen_type t ∷ []) js =
      rw (is, other) refl in
      ap (λ ts. types_after (map seen_type ts) js) grown
      ∙ (ap (λ ts. types_after ts js) (map_push seen_type read t) ∙ sym back)

  -- one more that equals one before it
  pub type_doubled : list_any (type_eq.eq-value.it t) read ≡ true → types_after (map seen_type read) (item j js) ≡ None
  type_doubled some =
      let same : list_any (same_type (seen_type t)) (map seen_type read) ≡ true =
      sym (any_seen type_eq.eq-value.it same_type seen_type type_seen t read) ∙ some in
      rw (is, same) refl

-- ---- pairs

module _ {K V : Type 0} (eq : K → K → Bool) (k : K) where
  found_first : (b : Bool) (e : K × V) (es : List (K × V)) → is_some (lookup (eq k) es) ≡ list_any (λ p. eq k p.0) es →
      is_some (cond b (Some e.1) (lookup (eq k) es)) ≡ (b || list_any (λ p. eq k p.0) es)
  found_first true e es rest = refl
  found_first false e es rest = rest

  pub key_found : (es : List (K × V)) → is_some (lookup (eq k) es) ≡ list_any (λ p. eq k p.0) es
  key_found [] = refl
  key_found (e ∷ es) = found_first (eq k e.0) e es (key_found es)

module _ {K V : Type 0} (eq : K → K → Bool) (k : K) (v : V) where
  pub key_added : (es : List (K × V)) → list_any (λ p. eq k p.0) es ≡ false → insert_entry eq es k v ≡ es ++ (k, v) ∷ []
  key_added [] none = refl
  key_added (e ∷ es) none =
      let each = or_false (eq k e.0) (list_any (λ p. eq k p.0) es) none in
      rw each.0 (ap (λ zs. e ∷ zs) (key_added es each.1))

-- a list of another length is no pair
pub other_pair : {A : Type 0} (j : Json) (vs : List (Value A)) → as_array j ≡ Some (items_view vs) →
    nat_eq (length vs) 2 ≡ false → pair_said j ≡ None
other_pair j [] e f = rw e refl
other_pair j (x ∷ []) e f = rw e refl
other_pair j (x ∷ y ∷ []) e f = let wrong : true ≡ false = f in absurd (cc)
other_pair j (x ∷ y ∷ z ∷ zs) e f = rw e refl

pub no_pairs : (j : Json) (js : Items) → is_empty_object j ≡ false → as_array j ≡ Some js → pairs_after [] js ≡ None →
    predeclared_types_said j ≡ None
unfolding predeclared_types_said
no_pairs j js e f g = rw (e, f, g) refl

module _ (before : List (PredeclaredType × ℕ)) (j : Json) (js : Items) (k : PredeclaredType) (v : ℕ)
    (is : pair_said j ≡ Some (k, v)) where
  -- one more pair, of a key that none before it has
  pub pair_read : (new : List (PredeclaredType × ℕ)) → has_key k before ≡ false → new ≡ before ++ (k, v) ∷ [] →
      pairs_after new js ≡ pairs_after before (item j js)
  pair_read new none grown =
      let back : pairs_after before (item j js) ≡ pairs_after (before ++ (k, v) ∷ []) js = rw (is, none) refl in
      ap (λ ps. pairs_after ps js) grown ∙ sym back

  -- one more of a key that one before it has
  pub pair_doubled : has_key k before ≡ true → pairs_after before (item j js) ≡ None
  pair_doubled some = rw (is, some) refl
