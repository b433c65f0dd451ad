-- The names of a list of items: where they stand, that none comes twice, and what a map has of
-- them.
use Rattle.std.proofs.Common.{◌≡◌, ℕ, ◌+◌, ◌<◌, zero, suc, string_bytes, List, [], ◌∷◌, ◌++◌, map}
use Rattle.std.proofs.Common.{take, Some, None, false, cond, refl, ap, sym, subst, ◌∙◌, arith}
use Rattle.std.proofs.Common.{codes, append_assoc, append-nil, slice_get}
use Rattle.std.specs.Prelude.{◌⊎◌}
use mathlib.Core.Logic.{inl, inr}
use Rattle.std.specs.List.{AllByRecursion, IsDistinct, scan, flat_map, enumerate_from}
use Rattle.std.specs.Map.{keys_of, lookup}
use Rattle.std.specs.Option.{option_or}
use Rattle.std.proofs.lemmas.Map.Made.{update_all_distinct}
use Rattle.std.proofs.lemmas.Option.{none-some, same_Some}
use Rattle.naga_ir.specs.declared.module.Module.{Module}
use Rattle.naga_ir.specs.declared.module.Function.{Function}
use Rattle.naga_ir.specs.declared.module.FunctionArgument.{FunctionArgument}
use Rattle.naga_ir.specs.declared.module.Constant.{Constant}
use Rattle.naga_ir.specs.declared.module.EntryPoint.{EntryPoint}
use Rattle.naga_ir.specs.declared.module.Override.{Override}
use Rattle.naga_ir.specs.declared.module.GlobalVariable.{GlobalVariable}
use Rattle.naga_ir.specs.declared.module.LocalVariable.{LocalVariable}
use Rattle.naga_ir.specs.declared.types.Type_.{Type_}
use Rattle.naga_naming.specs.declared.key.NameKey.{NameKey}
use Rattle.naga_naming.specs.declared.key.NameKey.TheVariants as key
use Rattle.naga_naming.specs.Naming.{Names, name_after, label_or}
use Rattle.naga_naming.specs.Keys.{NameMap, same_key}
use Rattle.naga_naming.specs.Reset.{LabelledItem, is_member, item_name, labels_of, named_items}
use Rattle.naga_naming.specs.Reset.{members_of, labelled_members, labelled_type, type_label}
use Rattle.naga_naming.specs.Reset.{labelled_types, labelled_argument, labelled_arguments}
use Rattle.naga_naming.specs.Reset.{labelled_locals, labelled_function, labelled_functions}
use Rattle.naga_naming.specs.Reset.{labelled_entry_arguments, labelled_entry_locals}
use Rattle.naga_naming.specs.Reset.{labelled_entry_point, labelled_entry_points, labelled_global}
use Rattle.naga_naming.specs.Reset.{labelled_globals, labelled_declarations, value_label, type_name}
use Rattle.naga_naming.specs.Reset.{labelled_constants, labelled_overrides, labelled_values}
use Rattle.naga_naming.specs.Reset.{labelled_items, PutsInto, HasNamedItems}
use Rattle.naga_naming.proofs.Reset.{labels_of-around, item_name-outside}
use Rattle.naga_naming.proofs.Keys.{same_key_laws, AreApart, single, items_apart}
use Rattle.naga_naming.proofs.NameShapes.{names_differ}

-- ---- the name of the item at an index
abbrev named_from : Names → List LabelledItem → List LabelledItem → List (NameKey × List ℕ)
named_from start earlier items = scan (λ earlier item. earlier ++ item ∷ [])
    (λ earlier item. (item.0, item_name start earlier item)) earlier items

-- ---- no name comes twice
split_one : (xs : List LabelledItem) (j : ℕ) (y : LabelledItem) → slice_get xs j ≡ Some y →
    (rest : List LabelledItem) × (xs ≡ take j xs ++ y ∷ rest)
split_one [] j y e = absurd (none-some y e)
split_one (x ∷ xs) zero y e = (xs, ap (λ z. z ∷ xs) (same_Some x y e))
split_one (x ∷ xs) (suc j) y e = let rest = split_one xs j y e in (rest.0, ap (λ t. x ∷ t) rest.1)

record Split (xs : List LabelledItem) (i j : ℕ) (x y : LabelledItem) : Type 0 where
  middle : List LabelledItem
  rest : List LabelledItem
  all : xs ≡ (take i xs ++ x ∷ middle) ++ y ∷ rest
  before : take j xs ≡ take i xs ++ x ∷ middle

split_two : (xs : List LabelledItem) (i j : ℕ) (x y : LabelledItem) → i < j → slice_get xs i ≡ Some x →
    slice_get xs j ≡ Some y → Split xs i j x y
split_two [] i j x y lt ex ey = absurd (none-some x ex)
split_two (z ∷ xs) zero zero x y lt ex ey = absurd (omega (arith, lt))
split_two (z ∷ xs) zero (suc j) x y lt ex ey =
    let after = split_one xs j y ey in
    let same = same_Some z x ex in
    record { middle = take j xs; rest = after.0; all = λ k. same k ∷ after.1 k; before = λ k. same k ∷ take j xs }
split_two (z ∷ xs) (suc i) zero x y lt ex ey = absurd (omega (arith, lt))
split_two (z ∷ xs) (suc i) (suc j) x y lt ex ey =
    let inner = split_two xs i j x y (omega (arith, lt)) ex ey in
    record {
      middle = inner.middle;
      rest = inner.rest;
      all = ap (λ t. z ∷ t) inner.all;
      before = ap (λ t. z ∷ t) inner.before;
    }

-- two indices are one, or one is below the other
pub order : (i j : ℕ) → (i ≡ j) ⊎ ((i < j) ⊎ (j < i))
order zero zero = inl refl
order zero (suc j) = inr (inl (omega arith))
order (suc i) zero = inr (inr (omega arith))
order (suc i) (suc j) = next (order i j)
  where
    next : (i ≡ j) ⊎ ((i < j) ⊎ (j < i)) → (suc i ≡ suc j) ⊎ ((suc i < suc j) ⊎ (suc j < suc i))
    next (inl e) = inl (ap suc e)
    next (inr (inl lt)) = inr (inl (omega (arith, lt)))
    next (inr (inr lt)) = inr (inr (omega (arith, lt)))

module _ (start : Names) (items : List LabelledItem) where
  -- items at two indices have different names
  pub item_names_differ : (i j : ℕ) (x y : LabelledItem) → i < j → slice_get items i ≡ Some x →
      slice_get items j ≡ Some y → is_member x.0 ≡ false → is_member y.0 ≡ false →
      name_after start (labels_of (take i items)) x.1 ≡ name_after start (labels_of (take j items))
      y.1 → ⊥
  item_names_differ i j x y lt ex ey out_x out_y same =
      let parts = split_two items i j x y lt ex ey in
      let front : List (List ℕ) = labels_of (take i items) in
      let before : labels_of (take j items) ≡ front ++ x.1 ∷ labels_of parts.middle = ap labels_of parts.before
      ∙ labels_of-around (take i items) x parts.middle out_x in
      names_differ start front x.1 (labels_of parts.middle) y.1
      (same ∙ ap (λ labels. name_after start labels y.1) before)

  -- two indices with one name are one
  pub item_names_tell : (i j : ℕ) (x y : LabelledItem) → slice_get items i ≡ Some x →
      slice_get items j ≡ Some y → is_member x.0 ≡ false → is_member y.0 ≡ false →
      name_after start (labels_of (take i items)) x.1 ≡ name_after start (labels_of (take j items))
      y.1 → i ≡ j
  item_names_tell i j x y ex ey out_x out_y same = either (order i j)
    where
      either : (i ≡ j) ⊎ ((i < j) ⊎ (j < i)) → i ≡ j
      either (inl e) = e
      either (inr (inl lt)) = absurd (item_names_differ i j x y lt ex ey out_x out_y same)
      either (inr (inr lt)) = absurd (item_names_differ j i y x lt ey ex out_y out_x (sym same))

-- ---- what a map has of the names that were put into it
apart_from : (start : Names) (k : NameKey) (earlier items : List LabelledItem) →
    AllByRecursion (λ y. same_key k y.0 ≡ false) items →
    AllByRecursion (λ y. same_key k y ≡ false) (keys_of (named_from start earlier items))
apart_from start k earlier [] all = tt
apart_from start k earlier (x ∷ items) all = (all.0, apart_from start k (earlier ++ x ∷ []) items all.1)

keys_distinct : (start : Names) (earlier items : List LabelledItem) → AreApart items →
    IsDistinct same_key (keys_of (named_from start earlier items))
unfolding IsDistinct
keys_distinct start earlier [] apart = tt
keys_distinct start earlier (x ∷ items) apart =
    (apart_from start x.0 (earlier ++ x ∷ []) items apart.0, keys_distinct start (earlier ++ x ∷ []) items apart.1)

at_index : (P : LabelledItem → Type 0) (xs : List LabelledItem) (i : ℕ) (y : LabelledItem) →
    AllByRecursion P xs → slice_get xs i ≡ Some y → P y
at_index P [] i y all e = absurd (none-some y e)
at_index P (x ∷ xs) zero y all e = subst P (same_Some x y e) all.0
at_index P (x ∷ xs) (suc i) y all e = at_index P xs i y all.1 e

found : (start : Names) (earlier items : List LabelledItem) (i : ℕ) (item : LabelledItem) →
    AreApart items → slice_get items i ≡ Some item →
    lookup (same_key item.0) (named_from start earlier items) ≡
    Some (item_name start (earlier ++ take i items) item)
found start earlier [] i item apart e = absurd (none-some item e)
found start earlier (x ∷ items) zero item apart e =
    let same = same_Some x item e in
    let yes = ap (same_key item.0) (ap (λ (y : LabelledItem). y.0) same) ∙ same_key_laws.refl item.0 in
    ap (λ b. cond b (Some (item_name start earlier x))
    (lookup (same_key item.0) (named_from start (earlier ++ x ∷ []) items))) yes
    ∙ (λ j. Some (item_name start (sym (append-nil earlier) j) (same j)))
found start earlier (x ∷ items) (suc i) item apart e =
    let other = same_key_laws.symm item.0 x.0 ∙ at_index (λ y. same_key x.0 y.0 ≡ false) items i item apart.0 e in
    ap (λ b. cond b (Some (item_name start earlier x))
    (lookup (same_key item.0) (named_from start (earlier ++ x ∷ []) items))) other
    ∙ found start (earlier ++ x ∷ []) items i item apart.1 e
    ∙ ap (λ items. Some (item_name start items item)) (append_assoc earlier (x ∷ []) (take i items))

absent : (start : Names) (k : NameKey) (earlier items : List LabelledItem) →
    AllByRecursion (λ y. same_key k y.0 ≡ false) items → lookup (same_key k) (named_from start earlier items) ≡ None
absent start k earlier [] all = refl
absent start k earlier (x ∷ items) all =
    ap (λ b. cond b (Some (item_name start earlier x))
    (lookup (same_key k) (named_from start (earlier ++ x ∷ []) items))) all.0
    ∙ absent start k (earlier ++ x ∷ []) items all.1

-- among the names of some items, an item's key has its name, and a key that no item has none
pub name_found : (start : Names) (items : List LabelledItem) (i : ℕ) (item : LabelledItem) →
    AreApart items → slice_get items i ≡ Some item →
    lookup (same_key item.0) (named_items start items) ≡ Some (item_name start (take i items) item)
name_found start items i item apart e = found start [] items i item apart e

pub name_absent : (start : Names) (items : List LabelledItem) (k : NameKey) →
    AllByRecursion (λ y. same_key k y.0 ≡ false) items → lookup (same_key k) (named_items start items) ≡ None
name_absent start items k none = absent start k [] items none

-- the name of the item at an index is in the map
pub item_put : (start : Names) (before now : NameMap) (items : List LabelledItem) →
    PutsInto before (named_items start items) now → AreApart items → (i : ℕ) (item : LabelledItem) →
    slice_get items i ≡ Some item → now item.0 ≡ Some (item_name start (take i items) item)
item_put start before now items put apart i item e =
    put.finds item.0
    ∙ update_all_distinct same_key_laws same_key (λ x y. refl) before (named_items start items) item.0
    (keys_distinct start [] items apart)
    ∙ ap (λ o. option_or o (before item.0)) (name_found start items i item apart e)

-- of an item outside structs, the name after the labels before it
pub put_at : (start : Names) (before now : NameMap) (items : List LabelledItem) →
    PutsInto before (named_items start items) now → AreApart items → (i : ℕ) (item : LabelledItem) →
    slice_get items i ≡ Some item → is_member item.0 ≡ false →
    now item.0 ≡ Some (name_after start (labels_of (take i items)) item.1)
put_at start before now items put apart i item e outside = item_put start before now items put apart i item e
    ∙ ap Some (item_name-outside start (take i items) item.0 item.1 outside)

-- ---- where an item stands
-- the item is one of these
pub record IsAmong (items : List LabelledItem) (item : LabelledItem) : Type 0 where
  pub index : ℕ
  pub there : slice_get items index ≡ Some item

-- the item stands among these, and is no member of a struct
pub record Stands (items : List LabelledItem) (item : LabelledItem) : Type 0 where
  pub index : ℕ
  pub there : slice_get items index ≡ Some item
  pub outside : is_member item.0 ≡ false

among : {items : List LabelledItem} {item : LabelledItem} → Stands items item → IsAmong items item
among s = record { index = s.index; there = s.there }

standing : {items others : List LabelledItem} {item : LabelledItem} → Stands others item → IsAmong items item →
    Stands items item
standing s a = record { index = a.index; there = a.there; outside = s.outside }

pub first_among : (item : LabelledItem) (items : List LabelledItem) → IsAmong (item ∷ items) item
first_among item items = record { index = 0; there = refl }

pub index_left : (xs ys : List LabelledItem) (i : ℕ) (item : LabelledItem) → slice_get xs i ≡ Some item →
    slice_get (xs ++ ys) i ≡ Some item
index_left [] ys i item e = absurd (none-some item e)
index_left (x ∷ xs) ys zero item e = e
index_left (x ∷ xs) ys (suc i) item e = index_left xs ys i item e

pub among_left : (xs ys : List LabelledItem) (item : LabelledItem) → IsAmong xs item → IsAmong (xs ++ ys) item
among_left xs ys item s = record { index = s.index; there = index_left xs ys s.index item s.there }

pub among_right : (xs ys : List LabelledItem) (item : LabelledItem) → IsAmong ys item → IsAmong (xs ++ ys) item
among_right [] ys item s = s
among_right (x ∷ xs) ys item s = let inner = among_right xs ys item s in
    record { index = suc inner.index; there = inner.there }

pub among_sections : {X : Type 0} (section : ℕ → X → List LabelledItem) (n i : ℕ) (xs : List X)
    (x : X) (item : LabelledItem) → slice_get xs i ≡ Some x → IsAmong (section (n + i) x) item →
    IsAmong (flat_map (λ p. section p.0 p.1) (enumerate_from n xs)) item
among_sections section n i [] x item e s = absurd (none-some x e)
among_sections section n zero (y ∷ xs) x item e s =
    let here : n + zero ≡ n = omega arith in
    among_left (section n y) (flat_map (λ p. section p.0 p.1) (enumerate_from (n + 1) xs)) item
    (subst (λ z. IsAmong (section n z) item) (sym (same_Some y x e))
    (subst (λ m. IsAmong (section m x) item) here s))
among_sections section n (suc i) (y ∷ xs) x item e s =
    let next : n + suc i ≡ n + 1 + i = omega arith in
    among_right (section n y) (flat_map (λ p. section p.0 p.1) (enumerate_from (n + 1) xs)) item
    (among_sections section (n + 1) i xs x item e (subst (λ m. IsAmong (section m x) item) next s))

pub among_entries : {X : Type 0} (entry : ℕ → X → LabelledItem) (i : ℕ) (xs : List X) (x : X) → slice_get xs i
    ≡ Some x → IsAmong (map (λ p. entry p.0 p.1) (enumerate_from 0 xs)) (entry i x)
among_entries entry i xs x e =
    let same : 0 + i ≡ i = omega arith in
    subst (λ items. IsAmong items (entry i x)) (single (λ p. entry p.0 p.1) (enumerate_from 0 xs))
    (among_sections (λ n x. entry n x ∷ []) 0 i xs x (entry i x) e
    (subst (λ n. IsAmong (entry n x ∷ []) (entry i x)) (sym same) (first_among (entry i x) [])))

pub stands_first : (item : LabelledItem) (items : List LabelledItem) → is_member item.0 ≡ false →
    Stands (item ∷ items) item
stands_first item items outside = record { index = 0; there = refl; outside = outside }

pub stands_left : (xs ys : List LabelledItem) (item : LabelledItem) → Stands xs item → Stands (xs ++ ys) item
stands_left xs ys item s = standing s (among_left xs ys item (among s))

pub stands_right : (xs ys : List LabelledItem) (item : LabelledItem) → Stands ys item → Stands (xs ++ ys) item
stands_right xs ys item s = standing s (among_right xs ys item (among s))

pub stands_in_section : {X : Type 0} (section : ℕ → X → List LabelledItem) (n i : ℕ) (xs : List X)
    (x : X) (item : LabelledItem) → slice_get xs i ≡ Some x → Stands (section (n + i) x) item →
    Stands (flat_map (λ p. section p.0 p.1) (enumerate_from n xs)) item
stands_in_section section n i xs x item e s = standing s (among_sections section n i xs x item e (among s))

pub stands_in_entries : {X : Type 0} (entry : ℕ → X → LabelledItem) (i : ℕ) (xs : List X) (x : X) →
    slice_get xs i ≡ Some x → is_member (entry i x).0 ≡ false →
    Stands (map (λ p. entry p.0 p.1) (enumerate_from 0 xs)) (entry i x)
stands_in_entries entry i xs x e outside = let a = among_entries entry i xs x e in
    record { index = a.index; there = a.there; outside = outside }

-- ---- the items of a module, each where its list has it
pub type_among_types : (start : Names) («module» : Module) (t : ℕ) (ty : Type_) →
    slice_get «module».types t ≡ Some ty →
    Stands (labelled_types «module».entry_points.items «module».types) (
      key.Type_ t,
      type_label «module».entry_points.items t ty,
    )
type_among_types start m t ty e =
    let same : t ≡ 0 + t = omega arith in
    stands_in_section (labelled_type m.entry_points.items) 0 t m.types ty
    (key.Type_ t, type_label m.entry_points.items t ty) e
    (subst (λ n. Stands (labelled_type m.entry_points.items n ty) (
      key.Type_ t,
      type_label m.entry_points.items t ty,
    )) same
    (stands_first (key.Type_ t, type_label m.entry_points.items t ty)
    (labelled_members t (members_of ty.inner)) refl))

module _ (start : Names) («module» : Module) where
  abbrev the_values : List LabelledItem
  the_values = labelled_values (type_name start «module») «module»

  abbrev the_types : List LabelledItem
  the_types = labelled_types «module».entry_points.items «module».types

  abbrev the_entry_points : List LabelledItem
  the_entry_points = labelled_entry_points «module».entry_points.items

  abbrev the_functions : List LabelledItem
  the_functions = labelled_functions «module».types «module».functions

  abbrev the_globals : List LabelledItem
  the_globals = labelled_globals «module».types «module».global_variables

  -- what is declared beside the values
  declared : (item : LabelledItem) → Stands (labelled_declarations «module») item →
      Stands (labelled_items start «module») item
  declared item s = stands_left (labelled_declarations «module») the_values item s

  pub type_stands : (t : ℕ) (ty : Type_) → slice_get «module».types t ≡ Some ty →
      Stands (labelled_items start «module») (key.Type_ t, type_label «module».entry_points.items t ty)
  type_stands t ty e =
      declared (key.Type_ t, type_label «module».entry_points.items t ty)
      (stands_left the_types (the_entry_points ++ (the_functions ++ the_globals))
      (key.Type_ t, type_label «module».entry_points.items t ty) (type_among_types start «module» t ty e))

  in_entry_point : (n : ℕ) (entry_point : EntryPoint) (item : LabelledItem) →
      slice_get «module».entry_points.items n ≡ Some entry_point →
      Stands (labelled_entry_point n entry_point) item → Stands (labelled_items start «module») item
  in_entry_point n entry_point item e s =
      let same : n ≡ 0 + n = omega arith in
      declared item (stands_right the_types (the_entry_points ++ (the_functions ++ the_globals)) item
      (stands_left the_entry_points (the_functions ++ the_globals) item
      (stands_in_section labelled_entry_point 0 n «module».entry_points.items entry_point item e
      (subst (λ k. Stands (labelled_entry_point k entry_point) item) same s))))

  pub entry_point_stands : (n : ℕ) (entry_point : EntryPoint) →
      slice_get «module».entry_points.items n ≡ Some entry_point →
      Stands (labelled_items start «module») (key.EntryPoint n, string_bytes entry_point.name)
  entry_point_stands n entry_point e =
      in_entry_point n entry_point (key.EntryPoint n, string_bytes entry_point.name) e (stands_first _ _ refl)

  pub entry_argument_stands : (n : ℕ) (entry_point : EntryPoint) (a : ℕ)
      (argument : FunctionArgument) → slice_get «module».entry_points.items n ≡ Some entry_point →
      slice_get entry_point.function.arguments.items a ≡ Some argument →
      Stands (labelled_items start «module») (
        key.EntryPointArgument n a,
        label_or argument.name (codes "param"),
      )
  entry_argument_stands n entry_point a argument e f =
      let item : LabelledItem = (key.EntryPointArgument n a, label_or argument.name (codes "param")) in
      let arguments = labelled_entry_arguments n entry_point.function.arguments.items in
      let locals = labelled_entry_locals n entry_point.function.local_variables in
      in_entry_point n entry_point item e (stands_right ((key.EntryPoint n, string_bytes entry_point.name) ∷ [])
      (arguments ++ locals) item
      (stands_left arguments locals item
      (stands_in_entries
      (λ k (b : FunctionArgument). (
        key.EntryPointArgument n k,
        label_or b.name (codes "param"),
      )) a entry_point.function.arguments.items argument f
      refl)))

  pub entry_local_stands : (n : ℕ) (entry_point : EntryPoint) (l : ℕ) (local : LocalVariable) →
      slice_get «module».entry_points.items n ≡ Some entry_point →
      slice_get entry_point.function.local_variables l ≡ Some local →
      Stands (labelled_items start «module») (
        key.EntryPointLocal n l,
        label_or local.name (codes "local"),
      )
  entry_local_stands n entry_point l local e f =
      let item : LabelledItem = (key.EntryPointLocal n l, label_or local.name (codes "local")) in
      let arguments = labelled_entry_arguments n entry_point.function.arguments.items in
      let locals = labelled_entry_locals n entry_point.function.local_variables in
      in_entry_point n entry_point item e (stands_right ((key.EntryPoint n, string_bytes entry_point.name) ∷ [])
      (arguments ++ locals) item
      (stands_right arguments locals item
      (stands_in_entries
      (λ k (v : LocalVariable). (key.EntryPointLocal n k, label_or v.name (codes "local"))) l
      entry_point.function.local_variables local f refl)))

  in_function : (h : ℕ) (function : Function) (item : LabelledItem) →
      slice_get «module».functions h ≡ Some function →
      Stands (labelled_function «module».types h function) item →
      Stands (labelled_items start «module») item
  in_function h function item e s =
      let same : h ≡ 0 + h = omega arith in
      declared item (stands_right the_types (the_entry_points ++ (the_functions ++ the_globals)) item
      (stands_right the_entry_points (the_functions ++ the_globals) item
      (stands_left the_functions the_globals item
      (stands_in_section (labelled_function «module».types) 0 h «module».functions function item e
      (subst (λ n. Stands (labelled_function «module».types n function) item) same s)))))

  pub function_stands : (h : ℕ) (function : Function) →
      slice_get «module».functions h ≡ Some function →
      Stands (labelled_items start «module») (
        key.Function h,
        label_or function.name (codes "function"),
      )
  function_stands h function e = in_function h function (
    key.Function h,
    label_or function.name (codes "function"),
  ) e (stands_first _ _ refl)

  in_argument : (h : ℕ) (function : Function) (n : ℕ) (argument : FunctionArgument)
      (item : LabelledItem) → slice_get «module».functions h ≡ Some function →
      slice_get function.arguments.items n ≡ Some argument →
      Stands (labelled_argument «module».types h n argument) item →
      Stands (labelled_items start «module») item
  in_argument h function n argument item e a s =
      let same : n ≡ 0 + n = omega arith in
      let arguments = labelled_arguments «module».types h function.arguments.items in
      let locals = labelled_locals h function.local_variables in
      in_function h function item e
      (stands_right ((key.Function h, label_or function.name (codes "function")) ∷ []) (arguments ++ locals) item
      (stands_left arguments locals item
      (stands_in_section (labelled_argument «module».types h) 0 n function.arguments.items argument item a
      (subst (λ k. Stands (labelled_argument «module».types h k argument) item) same s))))

  pub argument_stands : (h : ℕ) (function : Function) (n : ℕ) (argument : FunctionArgument) →
      slice_get «module».functions h ≡ Some function →
      slice_get function.arguments.items n ≡ Some argument →
      Stands (labelled_items start «module») (
        key.FunctionArgument h n,
        label_or argument.name (codes "param"),
      )
  argument_stands h function n argument e a =
      in_argument h function n argument (key.FunctionArgument h n, label_or argument.name (codes "param")) e a
      (stands_first _ _ refl)

  pub local_stands : (h : ℕ) (function : Function) (l : ℕ) (local : LocalVariable) →
      slice_get «module».functions h ≡ Some function →
      slice_get function.local_variables l ≡ Some local →
      Stands (labelled_items start «module») (
        key.FunctionLocal h l,
        label_or local.name (codes "local"),
      )
  local_stands h function l local e f =
      let item : LabelledItem = (key.FunctionLocal h l, label_or local.name (codes "local")) in
      let arguments = labelled_arguments «module».types h function.arguments.items in
      let locals = labelled_locals h function.local_variables in
      in_function h function item e
      (stands_right ((key.Function h, label_or function.name (codes "function")) ∷ []) (arguments ++ locals) item
      (stands_right arguments locals item
      (stands_in_entries (λ k (v : LocalVariable).
      (key.FunctionLocal h k, label_or v.name (codes "local"))) l function.local_variables local f refl)))

  in_global : (g : ℕ) (global : GlobalVariable) (item : LabelledItem) →
      slice_get «module».global_variables g ≡ Some global →
      Stands (labelled_global «module».types g global) item →
      Stands (labelled_items start «module») item
  in_global g global item e s =
      let same : g ≡ 0 + g = omega arith in
      declared item (stands_right the_types (the_entry_points ++ (the_functions ++ the_globals)) item
      (stands_right the_entry_points (the_functions ++ the_globals) item
      (stands_right the_functions the_globals item
      (stands_in_section (labelled_global «module».types) 0 g «module».global_variables global item e
      (subst (λ k. Stands (labelled_global «module».types k global) item) same s)))))

  pub global_stands : (g : ℕ) (global : GlobalVariable) →
      slice_get «module».global_variables g ≡ Some global →
      Stands (labelled_items start «module») (
        key.GlobalVariable g,
        label_or global.name (codes "global"),
      )
  global_stands g global e = in_global g global (key.GlobalVariable g, label_or global.name (codes "global")) e
      (stands_first _ _ refl)

  pub constant_stands : (c : ℕ) (constant : Constant) →
      slice_get «module».constants c ≡ Some constant →
      Stands (labelled_items start «module») (
        key.Constant c,
        value_label (type_name start «module») (codes "const_") constant.name constant.ty,
      )
  constant_stands c constant e =
      let item : LabelledItem =
      (key.Constant c, value_label (type_name start «module») (codes "const_") constant.name constant.ty) in
      stands_right (labelled_declarations «module») the_values item
      (stands_left (labelled_constants (type_name start «module») «module».constants)
      (labelled_overrides (type_name start «module») «module».overrides) item
      (stands_in_entries (λ k (v : Constant).
      (key.Constant k, value_label (type_name start «module») (codes "const_") v.name v.ty)) c
      «module».constants constant e refl))

  pub override_stands : (o : ℕ) (value : Override) → slice_get «module».overrides o ≡ Some value →
      Stands (labelled_items start «module») (
        key.Override o,
        value_label (type_name start «module») (codes "override_") value.name value.ty,
      )
  override_stands o value e =
      let item : LabelledItem =
      (key.Override o, value_label (type_name start «module») (codes "override_") value.name value.ty) in
      stands_right (labelled_declarations «module») the_values item
      (stands_right (labelled_constants (type_name start «module») «module».constants)
      (labelled_overrides (type_name start «module») «module».overrides) item
      (stands_in_entries (λ k (v : Override).
      (key.Override k, value_label (type_name start «module») (codes "override_") v.name v.ty)) o
      «module».overrides value e refl))

-- ---- after a `reset`
module _ (start : Names) (before : NameMap) («module» : Module) (names : Names) (now : NameMap)
    (has : HasNamedItems start before (labelled_items start «module») names now) where
  -- each item has its name in the map
  pub named_there : (item : LabelledItem) (s : Stands (labelled_items start «module») item) →
      now item.0 ≡ Some (name_after start (labels_of (take s.index (labelled_items start «module»))) item.1)
  named_there item s = put_at start before now (labelled_items start «module») has.put
      (items_apart start «module») s.index item s.there s.outside

  -- items with one name are one item
  pub names_tell : (a b : LabelledItem) → Stands (labelled_items start «module») a →
      Stands (labelled_items start «module») b → now a.0 ≡ now b.0 → a ≡ b
  names_tell a b s t same =
      let one = same_Some _ _ (sym (named_there a s) ∙ same ∙ named_there b t) in
      let index = item_names_tell start (labelled_items start «module») s.index t.index a b s.there t.there
      s.outside t.outside one in
      same_Some a b (sym s.there ∙ ap (slice_get (labelled_items start «module»)) index ∙ t.there)

  pub type_named : (t : ℕ) (ty : Type_) → slice_get «module».types t ≡ Some ty → (name : List ℕ)
      × (now (key.Type_ t) ≡ Some name)
  type_named t ty e = (
    _,
    named_there (key.Type_ t, type_label «module».entry_points.items t ty)
        (type_stands start «module» t ty e),
  )

  -- the same by indices
  pub named_at : (i : ℕ) (item : LabelledItem) → slice_get (labelled_items start «module») i ≡ Some item →
      now item.0 ≡ Some (item_name start (take i (labelled_items start «module»)) item)
  named_at i item e = item_put start before now (labelled_items start «module») has.put
      (items_apart start «module») i item e

  pub distinguished_at : (i j : ℕ) (a b : LabelledItem) →
      slice_get (labelled_items start «module») i ≡ Some a →
      slice_get (labelled_items start «module») j ≡ Some b → is_member a.0 ≡ false →
      is_member b.0 ≡ false → now a.0 ≡ now b.0 → i ≡ j
  distinguished_at i j a b ea eb out_a out_b same =
      let items = labelled_items start «module» in
      let a_is = put_at start before now items has.put (items_apart start «module») i a ea out_a in
      let b_is = put_at start before now items has.put (items_apart start «module») j b eb out_b in
      item_names_tell start items i j a b ea eb out_a out_b (same_Some _ _ (sym a_is ∙ same ∙ b_is))
