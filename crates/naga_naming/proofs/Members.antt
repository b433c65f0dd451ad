-- The members of one struct, which are named by themselves, among the items of their module, and
-- their names after a `reset`.
use Rattle.std.proofs.Common.{◌≡◌, ℕ, ◌<◌, ◌≤◌, suc, true, false, cond, ◌&&◌, List, [], ◌∷◌}
use Rattle.std.proofs.Common.{◌++◌, length, take, drop, refl, sym, ap, subst, ◌∙◌, append_assoc}
use Rattle.std.proofs.Common.{arith, zero, ◌+◌, map, Some, ◌-◌, ◌^◌, slice_get, get_or, append-nil}
use Rattle.std.proofs.Common.{unwrap_or}
use Rattle.std.specs.List.{flat_map, scan, fold, enumerate_from}
use Rattle.std.specs.Map.{update, update_all}
use Rattle.std.proofs.Math.Seq.{drop-append_seam}
use Rattle.std.proofs.lemmas.List.{length-append, map-append, take-append-drop, take_more}
use Rattle.std.proofs.lemmas.List.{length-take-le, length-map, take-append-le}
use borrow.Author.Tests.{lt-ltb}
use Rattle.std.proofs.lemmas.List.Folds.{list_all-append}
use Rattle.std.proofs.lemmas.List.Sums.{count_by-le-length, fold-append}
use Rattle.std.proofs.lemmas.Map.{update_all_push}
use Rattle.std.specs.Str.{bytes_eq}
use Rattle.naga_ir.specs.declared.types.StructMember.{StructMember}
use Rattle.naga_naming.specs.declared.error.NamerError.{NamerError}
use Rattle.naga_naming.specs.declared.error.NamerError.TheVariants.{Full, KeyFull, Memory}
use Rattle.naga_naming.specs.declared.key.NameKey.{NameKey}
use Rattle.naga_naming.specs.declared.key.NameKey.TheVariants as key
use Rattle.std.specs.FinMap as finite
use Rattle.std.specs.FinSet as set
use Rattle.naga_keywords.specs.Words.{Words}
use Rattle.naga_naming.specs.Naming.{name_after, Uses, Names, label_stem, labels_with_stem, HasNamed}
use Rattle.naga_naming.specs.Naming.{IsFull}
use Rattle.naga_naming.specs.Keys.{NameMap, same_key}
use Rattle.naga_naming.specs.Reset.{LabelledItem, labelled_items, labels_of, named_items, PutsInto}
use Rattle.naga_naming.specs.Reset.{item_name, key_fits, keys_fit, HasNamedItems, NamesItems}
use Rattle.naga_naming.specs.Reset.{member_label, labelled_members, member_names, members_of}
use Rattle.naga_naming.specs.Reset.{labelled_type, labelled_types, labelled_entry_points}
use Rattle.naga_naming.specs.Reset.{labelled_functions, labelled_globals, labelled_declarations}
use Rattle.naga_naming.specs.Reset.{labelled_values, type_label, type_name}
use Rattle.naga_naming.specs.Refusal.{IsRefusalOf, IsRefusalOfItems, RefusesItems}
use Rattle.naga_naming.specs.Members.{PutsName, PutsNoName, named_members, HasNamedMembers}
use Rattle.naga_naming.specs.Members.{IsRefusalOfMembers, RefusesMembers}
use Rattle.naga_naming.proofs.Keys.{items_apart}
use Rattle.naga_naming.proofs.Naming.{name_of-after}
use Rattle.naga_naming.proofs.Reset.{labels_of-append, scan-push, not_below, or_not_this, items_left}
use Rattle.naga_naming.proofs.Reset.{items_at, entries_grown}
use Rattle.std.specs.Prelude.{◌⊎◌}
use mathlib.Core.Logic.{inl, inr}
use Rattle.std.proofs.lemmas.List.FromFn.{length-enumerate_from}
use Rattle.std.proofs.lemmas.Option.{slice_get_within, none-some}
use Rattle.naga_ir.specs.declared.module.Module.{Module}
use Rattle.naga_ir.specs.declared.types.Type_.{Type_}
use Rattle.naga_keywords.specs.declared.keywords.TheConstants.{RESERVED}
use Rattle.naga_keywords.specs.Plain.{HasPlainEnds}
use Rattle.naga_naming.proofs.NamedItems.{index_left, item_put, order}
use Rattle.naga_naming.proofs.NameShapes.{name_after_no_keyword, plain_ends, names_differ}
use Rattle.naga_keywords.proofs.Plains.{words_are}

abbrev named_from : Names → List LabelledItem → List LabelledItem → List (NameKey × List ℕ)
named_from start earlier items = scan (λ earlier item. earlier ++ item ∷ [])
    (λ earlier item. (item.0, item_name start earlier item)) earlier items

abbrev alone_from : Names → List (List ℕ) → List LabelledItem → List (NameKey × List ℕ)
alone_from start earlier items = scan (λ earlier item. earlier ++ item.1 ∷ [])
    (λ earlier item. (item.0, name_after start earlier item.1)) earlier items

abbrev members_from : ℕ → ℕ → List StructMember → List LabelledItem
members_from t n members = map (λ p. (key.StructMember t p.0, member_label p.1)) (enumerate_from n members)

-- the last ones of some items
pub last_are : (xs ys : List LabelledItem) (n : ℕ) → length ys ≡ n → drop (length (xs ++ ys) - n) (xs ++ ys) ≡ ys
last_are xs ys n is =
    let here : length (xs ++ ys) - n ≡ length xs = omega (arith, length-append xs ys, is) in
    ap (λ k. drop k (xs ++ ys)) here ∙ drop-append_seam xs ys

-- a member is named after the members before it
pub member_name : (start : Names) (t : ℕ) (earlier done : List LabelledItem) (n : ℕ)
    (label : List ℕ) → length done ≡ n →
    item_name start (earlier ++ done) (key.StructMember t n, label) ≡ name_after
    (member_names start) (map (λ item. item.1) done) label
member_name start t earlier done n label is =
    ap (λ items. name_after (member_names start) (map (λ item. item.1) items) label) (last_are earlier done n is)

module _ (start : Names) (t : ℕ) (earlier : List LabelledItem) where
  named_beside : (done : List LabelledItem) (n : ℕ) (members : List StructMember) →
      length done ≡ n → named_from start (earlier ++ done) (members_from t n members) ≡ alone_from
      (member_names start) (map (λ item. item.1) done) (members_from t n members)
  named_beside done n [] is = refl
  named_beside done n (m ∷ members) is =
      let item : LabelledItem = (key.StructMember t n, member_label m) in
      let long : length (done ++ item ∷ []) ≡ n + 1 = omega (arith, length-append done (item ∷ []), is) in
      let rest = named_beside (done ++ item ∷ []) (n + 1) members long in
      λ i. (key.StructMember t n, member_name start t earlier done n (member_label m) is i)
      ∷ (ap (λ items. named_from start items (members_from t (n + 1) members))
      (append_assoc earlier done (item ∷ [])) ∙ rest
      ∙ ap (λ labels. alone_from (member_names start) labels (members_from t (n + 1) members))
      (map-append (λ (item : LabelledItem). item.1) done (item ∷ []))) i

  scan-append : (before : List LabelledItem) (xs ys : List LabelledItem) → named_from start before (xs ++ ys)
      ≡ named_from start before xs ++ named_from start (before ++ xs) ys
  scan-append before [] ys = ap (λ items. named_from start items ys) (sym (append-nil before))
  scan-append before (x ∷ xs) ys =
      ap (λ pairs. (x.0, item_name start before x) ∷ pairs)
      (scan-append (before ++ x ∷ []) xs ys
      ∙ ap (λ items. named_from start (before ++ x ∷ []) xs ++ named_from start items ys)
      (append_assoc before (x ∷ []) xs))

  pub named_items_members : (members : List StructMember) →
      named_items start (earlier ++ labelled_members t members) ≡ named_items start earlier ++ named_members
      (member_names start) t members
  named_items_members members =
      scan-append [] earlier (labelled_members t members)
      ∙ ap (λ pairs. named_items start earlier ++ pairs)
      (ap (λ items. named_from start items (labelled_members t members)) (sym (append-nil earlier))
      ∙ named_beside [] 0 members refl)

pub own_labels : (t n : ℕ) (members : List StructMember) → map (λ item. item.1) (members_from t n members)
    ≡ map member_label members
own_labels t n [] = refl
own_labels t n (m ∷ members) = ap (λ labels. member_label m ∷ labels) (own_labels t (n + 1) members)

-- members have no labels outside their struct
pub no_labels : (t n : ℕ) (members : List StructMember) → labels_of (members_from t n members) ≡ []
no_labels t n [] = refl
no_labels t n (m ∷ members) = no_labels t (n + 1) members

same_labels : (earlier : List LabelledItem) (t : ℕ) (members : List StructMember) →
    labels_of (earlier ++ labelled_members t members) ≡ labels_of earlier
same_labels earlier t members = labels_of-append earlier (labelled_members t members)
    ∙ ap (λ labels. labels_of earlier ++ labels) (no_labels t 0 members) ∙ append-nil (labels_of earlier)

-- more pairs that are put into a map
puts_more : (first before now : NameMap) (xs ys : List (NameKey × List ℕ)) → PutsInto first xs before →
    PutsInto before ys now → PutsInto first (xs ++ ys) now
puts_more first before now xs ys one two = record {
  finds = λ q.
      two.finds q
      ∙ ap (λ f. update_all same_key f ys q) (λ i k. one.finds k i)
      ∙ sym (ap (λ f. f q) (fold-append (λ f p. update same_key f p.0 (Some p.1)) first xs ys));
}

module _ (old : Names) (before now : NameMap) (t : ℕ) (members : List StructMember) where
  puts_members : (start : Names) (first : NameMap) (earlier : List LabelledItem)
      (some : List StructMember) → HasNamedItems start first earlier old before →
      PutsInto before (named_members (member_names old) t some) now →
      PutsInto first (named_items start (earlier ++ labelled_members t some)) now
  puts_members start first earlier some has put =
      subst (λ pairs. PutsInto first pairs now)
      (ap (λ names. named_items start earlier ++ named_members (member_names names) t some) has.words
      ∙ sym (named_items_members start t earlier some))
      (puts_more first before now (named_items start earlier) (named_members (member_names old) t some) has.put put)

  pub members_named : (inner : Names) → HasNamedMembers (member_names old) before t members inner now →
      NamesItems old before (labelled_members t members) old now
  members_named inner named = record {
    more = λ start first earlier has. record {
      words = has.words;
      labels = subst (HasNamed old) (sym (same_labels earlier t members)) has.labels;
      keys = list_all-append (λ item. key_fits item.0) earlier (labelled_members t members)
          ∙ (λ i. has.keys i && named.keys i);
      put = puts_members start first earlier members has named.put;
    };
  }

  pub members_refused : (error : NamerError) → RefusesMembers (member_names old) before t members now error →
      RefusesItems old before (labelled_members t members) now error
  members_refused error refused = record {
    some = λ start first earlier has. record {
      named = earlier ++ labelled_members t (take refused.count members);
      left = members_from t (0 + length (take refused.count members)) (drop refused.count members);
      all =
          ap (λ all. earlier ++ all)
          (ap (labelled_members t) (sym (take-append-drop refused.count members))
          ∙ entries_grown (λ n (m : StructMember). (key.StructMember t n, member_label m)) 0
          (take refused.count members) (drop refused.count members))
          ∙ sym (append_assoc earlier (labelled_members t (take refused.count members))
          (members_from t (0 + length (take refused.count members)) (drop refused.count members)));
      put = puts_members start first earlier (take refused.count members) has refused.put;
    };
    why = λ start first earlier has. reason start earlier error refused.why;
  }
    where
      reason : (start : Names) (earlier : List LabelledItem) (error : NamerError) →
          IsRefusalOfMembers (labelled_members t members) error →
          IsRefusalOfItems start (earlier ++ labelled_members t members) error
      reason start earlier Full never = absurd never
      reason start earlier KeyFull why = list_all-append (λ item. key_fits item.0) earlier
          (labelled_members t members) ∙ or_not_this (keys_fit earlier) (keys_fit (labelled_members t members)) why
      reason start earlier (Memory e) why = tt

-- ---- one member more
module _ (start : Names) (before : NameMap) (t : ℕ) where
  -- none so far
  pub no_members : (names : Names) → HasNamed names [] → HasNamedMembers start before t [] names before
  no_members names none = record { labels = none; keys = refl; put = record { finds = λ q. refl } }

  pushed : (members : List StructMember) (m : StructMember) → labelled_members t (members ++ m ∷ [])
      ≡ labelled_members t members ++ (key.StructMember t (length members), member_label m) ∷ []
  pushed members m =
      let same : 0 + length members ≡ length members = omega arith in
      entries_grown (λ n (m : StructMember). (key.StructMember t n, member_label m)) 0 members (m ∷ [])
      ∙ ap (λ n. labelled_members t members ++ (key.StructMember t n, member_label m) ∷ []) same

  labels_folded : (earlier : List (List ℕ)) (items : List LabelledItem) →
      fold (λ labels item. labels ++ item.1 ∷ []) earlier items ≡ earlier ++ map (λ item. item.1) items
  labels_folded earlier [] = sym (append-nil earlier)
  labels_folded earlier (x ∷ items) = labels_folded (earlier ++ x.1 ∷ []) items
      ∙ append_assoc earlier (x.1 ∷ []) (map (λ item. item.1) items)

  named_members-push : (members : List StructMember) (m : StructMember) →
      named_members start t (members ++ m ∷ []) ≡ named_members start t members ++ (
        key.StructMember t (length members),
        name_after start (map member_label members) (member_label m),
      ) ∷ []
  named_members-push members m =
      ap (alone_from start []) (pushed members m)
      ∙ scan-push (λ earlier item. earlier ++ item.1 ∷ [])
      (λ earlier item. (item.0, name_after start earlier item.1)) []
      (labelled_members t members) (key.StructMember t (length members), member_label m)
      ∙ ap (λ labels. named_members start t members ++ (
        key.StructMember t (length members),
        name_after start labels (member_label m),
      ) ∷ [])
      (labels_folded [] (labelled_members t members) ∙ own_labels t 0 members)

  pub member_more : (members : List StructMember) (names new : Names) (between now : NameMap)
      (m : StructMember) → names ≡ record start { uses = names.uses } → length members < 2 ^ 32 →
      HasNamedMembers start before t members names between →
      PutsName names between (key.StructMember t (length members)) (member_label m) new now →
      HasNamedMembers start before t (members ++ m ∷ []) new now
  member_more members names new between now m words small has puts = record {
    labels = subst (HasNamed new) (sym (map-append member_label members (m ∷ [])))
        (puts.history (map member_label members) has.labels);
    keys =
        ap keys_fit (pushed members m)
        ∙ list_all-append (λ item. key_fits item.0) (labelled_members t members)
        ((key.StructMember t (length members), member_label m) ∷ [])
        ∙ (λ i. has.keys i && (lt-ltb (length members) (2 ^ 32) small i && true));
    put = record {
      finds = λ q.
          puts.put q
          ∙ ap (λ name. cond (same_key (key.StructMember t (length members)) q) (Some name)
          (between q))
          (name_of-after names (map member_label members) (member_label m) has.labels
          ∙ ap (λ n. name_after n (map member_label members) (member_label m)) words)
          ∙ update_all_push same_key before between (named_members start t members) (
            key.StructMember t (length members),
            name_after start (map member_label members) (member_label m),
          ) q (has.put.finds q)
          ∙ sym (ap (λ pairs. update_all same_key before pairs q) (named_members-push members m));
    };
  }

  -- the same of the member at i
  pub member_more_at : (all : List StructMember) (i : ℕ) (names new : Names) (between now : NameMap)
      (m : StructMember) → i < length all → m ≡ get_or all i m →
      names ≡ record start { uses = names.uses } → i < 2 ^ 32 →
      HasNamedMembers start before t (take i all) names between → (n : ℕ) (label : List ℕ) → n ≡ i →
      label ≡ member_label m → PutsName names between (key.StructMember t n) label new now →
      HasNamedMembers start before t (take (i + 1) all) new now
  member_more_at all i names new between now m lt is words small has n label n_is label_is puts =
      let long : length (take i all) ≡ i = omega (arith, length-take-le i all (omega (arith, lt))) in
      let short : length (take i all) < 2 ^ 32 = omega (arith, small, long) in
      subst (λ members. HasNamedMembers start before t members new now)
      (sym (take_more all i m lt ∙ ap (λ y. take i all ++ y ∷ []) (sym is)))
      (member_more (take i all) names new between now m words short has
      (subst (λ k. PutsName names between (key.StructMember t k) (member_label m) new now)
      (n_is ∙ sym long)
      (subst (λ label. PutsName names between (key.StructMember t n) label new now) label_is
      puts)))

  -- ---- why one is refused
  no_full : (members : List StructMember) (names : Names) (label : List ℕ) → length members < 2 ^ 32 →
      HasNamed names (map member_label members) → IsFull names label → ⊥
  no_full members names label small has full =
      let stem : List ℕ = label_stem names label in
      let used : labels_with_stem names (map member_label members) stem ≡ 2 ^ 32 = sym (has.uses_are stem) ∙ full in
      let few : labels_with_stem names (map member_label members) stem ≤ length
      (map member_label members) =
      count_by-le-length (λ label. bytes_eq (label_stem names label) stem)
      (map member_label members) in
      let long : length (map member_label members) ≡ length members = length-map members member_label in
      omega (arith, used, few, long, small)

  pub member_refused : (all : List StructMember) (i : ℕ) (names : Names) (between now : NameMap)
      (label : List ℕ) (error : NamerError) → i < length all → i < 2 ^ 32 →
      HasNamedMembers start before t (take i all) names between →
      PutsNoName names between label now error → RefusesMembers start before t all now error
  member_refused all i names between now label error lt small has none = record {
    count = i;
    put = record { finds = λ q. none.kept q ∙ has.put.finds q };
    why = reason error none.why;
  }
    where
      long : length (take i all) < 2 ^ 32
      long = omega (arith, small, length-take-le i all (omega (arith, lt)))

      reason : (error : NamerError) → IsRefusalOf names label error → IsRefusalOfMembers (labelled_members t all) error
      reason Full full = no_full (take i all) names label long has.labels full
      reason KeyFull never = absurd never
      reason (Memory e) why = tt

  pub member_key_refused : (all : List StructMember) (i : ℕ) (names : Names) (between : NameMap)
      (m : StructMember) → i < length all → m ≡ get_or all i m →
      (i < 2 ^ 32 → ⊥) → HasNamedMembers start before t (take i all) names between →
      RefusesMembers start before t all between KeyFull
  member_key_refused all i names between m lt is past has = record {
    count = i;
    put = has.put;
    why =
        ap keys_fit (items_at (members_from t)
        (λ n (m : StructMember). (key.StructMember t n, member_label m) ∷ [])
        (entries_grown (λ n (m : StructMember). (key.StructMember t n, member_label m)))
        (λ n m. refl) all i m lt is)
        ∙ list_all-append (λ item. key_fits item.0) (labelled_members t (take i all))
        ((key.StructMember t i, member_label m) ∷ items_left (members_from t)
        (λ n (m : StructMember). (key.StructMember t n, member_label m) ∷ [])
        (entries_grown (λ n (m : StructMember). (key.StructMember t n, member_label m)))
        (λ n m. refl) all i m lt is)
        ∙ or_not_this (keys_fit (labelled_members t (take i all)))
        _ (ap (λ b. b && keys_fit
        (items_left (members_from t)
        (λ n (m : StructMember). (key.StructMember t n, member_label m) ∷ [])
        (entries_grown (λ n (m : StructMember). (key.StructMember t n, member_label m)))
        (λ n m. refl) all i m lt is)) (not_below i (2 ^ 32) past));
  }

-- ---- the words while the members are named, and afterwards
pub within : (inside old : Names) (uses : Uses) (words : Words) → inside ≡ old → uses ≡ finite.empty →
    words ≡ set.empty → record inside { uses = uses; builtin_identifiers = words } ≡ member_names old
within inside old uses words same none no_words =
    λ i. record (same i) { uses = none i; builtin_identifiers = no_words i }

pub outside_again : (inside old last new : Names) (uses : Uses) (words within : Words) →
    inside ≡ old → last ≡ new → new ≡ record inside {
      uses = new.uses;
      builtin_identifiers =
          within;
    } → uses ≡ inside.uses → words ≡ inside.builtin_identifiers →
    record last { uses = uses; builtin_identifiers = words } ≡ old
outside_again inside old last new uses words within same last_is kept uses_are words_are =
    (λ i. record ((last_is ∙ kept) i) { uses = uses_are i; builtin_identifiers = words_are i }) ∙ same

-- Their names after a `reset`.

pub reserved_plain : HasPlainEnds (set.from_list (map (λ word. word.now) RESERVED.now))
reserved_plain = plain_ends (map (λ word. word.now) RESERVED.now) (words_are (map (λ word. word.now) RESERVED.now) refl)

-- the item stands among these, directly after those
pub record StandsAfter (items : List LabelledItem) (item : LabelledItem) (done : List LabelledItem) : Type 0 where
  pub index : ℕ
  pub there : slice_get items index ≡ Some item
  pub front : List LabelledItem
  pub before : take index items ≡ front ++ done

after_left : (xs ys : List LabelledItem) (item : LabelledItem) (done : List LabelledItem) →
    StandsAfter xs item done → StandsAfter (xs ++ ys) item done
after_left xs ys item done s =
    let le : s.index ≤ length xs = omega (arith, slice_get_within xs s.index item s.there) in
    record {
      index = s.index;
      there = index_left xs ys s.index item s.there;
      front = s.front;
      before = take-append-le s.index xs ys le ∙ s.before;
    }

after_right : (xs ys : List LabelledItem) (item : LabelledItem) (done : List LabelledItem) →
    StandsAfter ys item done → StandsAfter (xs ++ ys) item done
after_right [] ys item done s = s
after_right (x ∷ xs) ys item done s =
    let inner = after_right xs ys item done s in
    record {
      index = suc inner.index;
      there = inner.there;
      front = x ∷ inner.front;
      before = ap (λ items. x ∷ items) inner.before;
    }

after_sections : {X : Type 0} (section : ℕ → X → List LabelledItem) (n i : ℕ) (xs : List X) (x : X)
    (item : LabelledItem) (done : List LabelledItem) → slice_get xs i ≡ Some x →
    StandsAfter (section (n + i) x) item done →
    StandsAfter (flat_map (λ p. section p.0 p.1) (enumerate_from n xs)) item done
after_sections section n i [] x item done e s = absurd (none-some x e)
after_sections section n zero (y ∷ xs) x item done e s =
    let here : n + zero ≡ n = omega arith in
    after_left (section n y) (flat_map (λ p. section p.0 p.1) (enumerate_from (n + 1) xs)) item done
    (subst (λ z. StandsAfter (section n z) item done) (sym (ap (λ o. unwrap_or o y) e))
    (subst (λ m. StandsAfter (section m x) item done) here s))
after_sections section n (suc i) (y ∷ xs) x item done e s =
    let next : n + suc i ≡ n + 1 + i = omega arith in
    after_right (section n y) (flat_map (λ p. section p.0 p.1) (enumerate_from (n + 1) xs)) item
    done (after_sections section (n + 1) i xs x item done e
    (subst (λ m. StandsAfter (section m x) item done) next s))

module _ {X : Type 0} (entry : ℕ → X → LabelledItem) where
  entry_at : (n i : ℕ) (xs : List X) (x : X) → slice_get xs i ≡ Some x →
      slice_get (map (λ p. entry p.0 p.1) (enumerate_from n xs)) i ≡ Some (entry (n + i) x)
  entry_at n i [] x e = absurd (none-some x e)
  entry_at n zero (y ∷ xs) x e =
      let same : n ≡ n + zero = omega arith in
      let is : y ≡ x = ap (λ o. unwrap_or o y) e in
      λ j. Some (entry (same j) (is j))
  entry_at n (suc i) (y ∷ xs) x e = let same : n + 1 + i ≡ n + suc i = omega arith in entry_at (n + 1) i xs x e
      ∙ ap (λ k. Some (entry k x)) same

  entries_taken : (n i : ℕ) (xs : List X) → take i (map (λ p. entry p.0 p.1) (enumerate_from n xs))
      ≡ map (λ p. entry p.0 p.1) (enumerate_from n (take i xs))
  entries_taken n zero xs = refl
  entries_taken n (suc i) [] = refl
  entries_taken n (suc i) (x ∷ xs) = ap (λ items. entry n x ∷ items) (entries_taken (n + 1) i xs)

-- where a member stands in its module
module _ (start : Names) («module» : Module) (t : ℕ) (ty : Type_)
    (found : slice_get «module».types t ≡ Some ty) (n : ℕ) (member : StructMember)
    (there : slice_get (members_of ty.inner) n ≡ Some member) where
  abbrev done : List LabelledItem
  done = labelled_members t (take n (members_of ty.inner))

  abbrev item : LabelledItem
  item = (key.StructMember t n, member_label member)

  in_type : StandsAfter (labelled_type «module».entry_points.items t ty) item done
  in_type =
      let same : 0 + n ≡ n = omega arith in
      record {
        index = suc n;
        there = entry_at (λ n (m : StructMember). (key.StructMember t n, member_label m)) 0 n
            (members_of ty.inner) member there ∙ ap (λ k. Some (key.StructMember t k, member_label member)) same;
        front = (key.Type_ t, type_label «module».entry_points.items t ty) ∷ [];
        before = ap (λ items. (key.Type_ t, type_label «module».entry_points.items t ty) ∷ items)
            (entries_taken (λ n (m : StructMember). (key.StructMember t n, member_label m)) 0 n
            (members_of ty.inner));
      }

  pub in_module : StandsAfter (labelled_items start «module») item done
  in_module =
      let m = «module» in
      let same : t ≡ 0 + t = omega arith in
      let others = labelled_entry_points m.entry_points.items
      ++ (labelled_functions m.types m.functions ++ labelled_globals m.types m.global_variables) in
      after_left (labelled_declarations m) (labelled_values (type_name start m) m) item done
      (after_left (labelled_types m.entry_points.items m.types) others item done
      (after_sections (labelled_type m.entry_points.items) 0 t m.types ty item done found
      (subst (λ k. StandsAfter (labelled_type m.entry_points.items k ty) item done) same in_type)))

  long : length (take n (members_of ty.inner)) ≡ n
  long = let le : n ≤ length (members_of ty.inner) = omega
      (arith, slice_get_within (members_of ty.inner) n member there) in
      omega (arith, length-take-le n (members_of ty.inner) le)

  module _ (before now : NameMap) (put : PutsInto before (named_items start (labelled_items start «module»)) now) where
    pub member_put : now (key.StructMember t n)
        ≡ Some (name_after (member_names start) (map member_label (take n (members_of ty.inner))) (member_label member))
    member_put =
        let done_long : length done ≡ n =
        length-map (enumerate_from 0 (take n (members_of ty.inner)))
        (λ p. (key.StructMember t p.0, member_label p.1))
        ∙ length-enumerate_from 0 (take n (members_of ty.inner)) ∙ long in
        item_put start before now (labelled_items start «module») put (items_apart start «module»)
        in_module.index item in_module.there
        ∙ ap (λ items. Some (item_name start items item)) in_module.before
        ∙ ap Some (member_name start t in_module.front done n (member_label member) done_long)
        ∙ ap (λ labels. Some (name_after (member_names start) labels (member_label member)))
        (own_labels t 0 (take n (members_of ty.inner)))

  module _ (before now : NameMap) (names : Names)
      (has : HasNamedItems start before (labelled_items start «module») names now) where
    pub member_named : now (key.StructMember t n)
        ≡ Some (name_after (member_names start) (map member_label (take n (members_of ty.inner))) (member_label member))
    member_named = member_put before now has.put

    pub member_not_reserved : start.keywords ≡ set.from_list (map (λ word. word.now) RESERVED.now) →
        (name : List ℕ) → now (key.StructMember t n) ≡ Some name → set.contains start.keywords name ≡ false
    member_not_reserved reserved name is =
        let same : name_after (member_names start) (map member_label (take n (members_of ty.inner)))
        (member_label member) ≡ name = ap (λ o. unwrap_or o name) (sym member_named ∙ is) in
        ap (set.contains start.keywords) (sym same)
        ∙ name_after_no_keyword (member_names start) (map member_label (take n (members_of ty.inner)))
        (member_label member) (subst HasPlainEnds (sym reserved) reserved_plain)

-- ---- no two members of one struct have one name
module _ (start : Names) where
  split_before : (xs : List StructMember) (n k : ℕ) (x : StructMember) → n < k → slice_get xs n ≡ Some x →
      (middle : List StructMember) × (take k xs ≡ take n xs ++ x ∷ middle)
  split_before [] n k x lt e = absurd (none-some x e)
  split_before (y ∷ xs) zero zero x lt e = absurd (omega (arith, lt))
  split_before (y ∷ xs) zero (suc k) x lt e = (take k xs, ap (λ z. z ∷ take k xs) (ap (λ o. unwrap_or o y) e))
  split_before (y ∷ xs) (suc n) zero x lt e = absurd (omega (arith, lt))
  split_before (y ∷ xs) (suc n) (suc k) x lt e = let inner = split_before xs n k x (omega (arith, lt)) e in
      (inner.0, ap (λ t. y ∷ t) inner.1)

  member_name_at : List StructMember → ℕ → StructMember → List ℕ
  member_name_at members n member = name_after (member_names start) (map member_label (take n members))
      (member_label member)

  members_differ : (members : List StructMember) (n k : ℕ) (a b : StructMember) → n < k →
      slice_get members n ≡ Some a → slice_get members k ≡ Some b →
      member_name_at members n a ≡ member_name_at members k b → ⊥
  unfolding member_name_at
  members_differ members n k a b lt there_a there_b same =
      let parts = split_before members n k a lt there_a in
      let first : List (List ℕ) = map member_label (take n members) in
      let middle : List (List ℕ) = map member_label parts.0 in
      let before : map member_label (take k members) ≡ first ++ member_label a ∷ middle =
      ap (map member_label) parts.1 ∙ map-append member_label (take n members) (a ∷ parts.0) in
      names_differ (member_names start) first (member_label a) middle (member_label b)
      (same ∙ ap (λ labels. name_after (member_names start) labels (member_label b)) before)

module _ (start : Names) («module» : Module) (before now : NameMap)
    (put : PutsInto before (named_items start (labelled_items start «module»)) now) where
  pub put_members_distinguished : (t : ℕ) (ty : Type_) → slice_get «module».types t ≡ Some ty →
      (n k : ℕ) (a b : StructMember) → slice_get (members_of ty.inner) n ≡ Some a →
      slice_get (members_of ty.inner) k ≡ Some b →
      now (key.StructMember t n) ≡ now (key.StructMember t k) → n ≡ k
  unfolding member_name_at
  put_members_distinguished t ty found n k a b there_a there_b same = either (order n k)
    where
      members : List StructMember
      members = members_of ty.inner

      one : member_name_at start members n a ≡ member_name_at start members k b
      one = ap (λ o. unwrap_or o (member_name_at start members n a))
          (sym (member_put start «module» t ty found n a there_a before now put) ∙ same
          ∙ member_put start «module» t ty found k b there_b before now put)

      either : (n ≡ k) ⊎ ((n < k) ⊎ (k < n)) → n ≡ k
      either (inl e) = e
      either (inr (inl lt)) = absurd (members_differ start members n k a b lt there_a there_b one)
      either (inr (inr lt)) = absurd (members_differ start members k n b a lt there_b there_a (sym one))

module _ (start : Names) («module» : Module) (before now : NameMap) (names : Names)
    (has : HasNamedItems start before (labelled_items start «module») names now) where
  pub members_distinguished : (t : ℕ) (ty : Type_) → slice_get «module».types t ≡ Some ty →
      (n k : ℕ) (a b : StructMember) → slice_get (members_of ty.inner) n ≡ Some a →
      slice_get (members_of ty.inner) k ≡ Some b →
      now (key.StructMember t n) ≡ now (key.StructMember t k) → n ≡ k
  members_distinguished = put_members_distinguished start «module» before now has.put
