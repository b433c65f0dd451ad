-- Names given to one item after another.
use Rattle.std.proofs.Common.{◌≡◌, ℕ, ◌<◌, ◌≤◌, Bool, true, false, cond, ◌&&◌, List, [], ◌∷◌, ◌++◌}
use Rattle.std.proofs.Common.{length, take, drop, refl, sym, ap, subst, ◌∙◌, append_assoc, arith}
use Rattle.std.proofs.Common.{nat_lt, ◌+◌, map, Option, Some, None, add-zero, ◌^◌, get_or, Bor}
use Rattle.std.proofs.Common.{append-nil, unwrap_or, String, HashMap, string_bytes, IfErr, IsErrAnd}
use borrow.Author.Tests.{ltb-true}
use Rattle.std.specs.List.{scan, fold, enumerate_from}
use Rattle.std.specs.declared.result.Result.{Result}
use Rattle.std.specs.declared.result.Result.TheVariants.{Ok, Err}
use Rattle.std.proofs.lemmas.Grind.{flat_map-append}
use Rattle.std.proofs.lemmas.List.{map-append, take-append-drop, take_more, length-take-le}
use Rattle.naga_ir.specs.declared.module.EntryPoint.{EntryPoint}
use Rattle.std.specs.Map.{update, update_all}
use Rattle.std.specs.HashMap as hash
use Rattle.std.specs.Option.{option_map, option_or}
use Rattle.std.specs.FinMap as finite
use Rattle.naga_keywords.specs.Words.{Words}
use Rattle.naga_naming.specs.declared.key.NameKey.{NameKey}
use Rattle.naga_naming.specs.declared.key.NameKey.TheVariants as key
use Rattle.naga_naming.specs.Naming.{name_after, Uses, Names, label_stem, with_use, labels_with_stem}
use Rattle.naga_naming.specs.Naming.{HasNamed, new_names}
use Rattle.naga_naming.specs.Keys.{NameMap, same_key, names_in}
use Rattle.naga_naming.specs.Reset.{LabelledItem, labels_of, named_items, output_label, output_word}
use Rattle.naga_naming.specs.Reset.{returns, is_member, item_name, key_fits, keys_fit, HasNamedItems}
use Rattle.naga_naming.specs.Reset.{type_names_in, PutsBeginning, NamesItems}
use Rattle.naga_naming.specs.Members.{PutsName, PutsNoName}
use Rattle.naga_naming.specs.Refusal.{IsRefusalOf, SomeNameIsFull, IsRefusalOfItems, RefusesItems}
use Rattle.naga_naming.specs.declared.error.NamerError.{NamerError}
use Rattle.naga_naming.specs.declared.error.NamerError.TheVariants.{Full, KeyFull, Memory}
use Rattle.std.proofs.lemmas.List.Folds.{list_all-append}
use Rattle.naga_naming.proofs.NameShapes.{counted_more}
use Rattle.naga_naming.proofs.Naming.{name_of-after}

pub labels_of-append : (xs ys : List LabelledItem) → labels_of (xs ++ ys) ≡ labels_of xs ++ labels_of ys
labels_of-append xs ys = flat_map-append (λ (item : LabelledItem). cond (is_member item.0) [] (item.1 ∷ [])) xs ys

-- the labels around an item that is no member of a struct
pub labels_of-around : (items : List LabelledItem) (item : LabelledItem)
    (others : List LabelledItem) → is_member item.0 ≡ false →
    labels_of (items ++ item ∷ others) ≡ labels_of items ++ item.1 ∷ labels_of others
labels_of-around items item others outside =
    labels_of-append items (item ∷ others)
    ∙ ap (λ b. labels_of items ++ (cond b [] (item.1 ∷ []) ++ labels_of others)) outside

-- its name is that of its label after these labels
pub item_name-outside : (start : Names) (earlier : List LabelledItem) (key : NameKey)
    (label : List ℕ) → is_member key ≡ false →
    item_name start earlier (key, label) ≡ name_after start (labels_of earlier) label
item_name-outside start earlier (key.StructMember t n) label outside = absurd (cc)
item_name-outside start earlier other label outside = refl

pub scan-push : {S X Y : Type 0} (next : S → X → S) (out : S → X → Y) (a : S) (xs : List X) (x : X) →
    scan next out a (xs ++ x ∷ []) ≡ scan next out a xs ++ out (fold next a xs) x ∷ []
scan-push next out a [] x = refl
scan-push next out a (y ∷ xs) x = ap (λ ys. out a y ∷ ys) (scan-push next out (next a y) xs x)

fold-push : {S X : Type 0} (next : S → X → S) (a : S) (xs : List X) (x : X) → fold next a (xs ++ x ∷ [])
    ≡ next (fold next a xs) x
fold-push next a [] x = refl
fold-push next a (y ∷ xs) x = fold-push next (next a y) xs x

pub items_folded : (earlier items : List LabelledItem) →
    fold (λ earlier item. earlier ++ item ∷ []) earlier items ≡ earlier ++ items
items_folded earlier [] = sym (append-nil earlier)
items_folded earlier (x ∷ items) = items_folded (earlier ++ x ∷ []) items ∙ append_assoc earlier (x ∷ []) items

named_items-push : (start : Names) (items : List LabelledItem) (item : LabelledItem) →
    named_items start (items ++ item ∷ []) ≡ named_items start items ++ (item.0, item_name start items item) ∷ []
named_items-push start items item =
    scan-push (λ earlier item. earlier ++ item ∷ [])
    (λ earlier item. (item.0, item_name start earlier item)) [] items item
    ∙ ap (λ earlier. named_items start items ++ (item.0, item_name start earlier item) ∷ []) (items_folded [] items)

-- one more use leaves the words and the prefixes
with_use-words : (old start : Names) (label : List ℕ) → old ≡ record start { uses = old.uses } →
    with_use old label ≡ record start { uses = (with_use old label).uses }
unfolding with_use
with_use-words old start label same = ap (λ (n : Names). record n { uses = (with_use old label).uses }) same

pub used_words : (old new : Names) (label : List ℕ) → new ≡ with_use old label → new ≡ record old { uses = new.uses }
used_words old new label used = subst (λ n. n ≡ record old { uses = n.uses }) (sym used)
    (with_use-words old old label refl)

module _ where
  -- one more item, after whatever was named before
  pub names_one : (old : Names) (before now : NameMap) (key : NameKey) (label : List ℕ)
      (new : Names) → key_fits key ≡ true → is_member key ≡ false →
      PutsName old before key label new now → NamesItems old before ((key, label) ∷ []) new now
  names_one old before now key label new fits outside puts = record {
    more = λ start first earlier has. record {
      words = subst (λ n. n ≡ record start { uses = n.uses }) (sym puts.used)
          (with_use-words old start label has.words);
      labels = subst (HasNamed new) (sym (labels_of-around earlier (key, label) [] outside))
          (puts.history (labels_of earlier) has.labels);
      keys = list_all-append (λ item. key_fits item.0) earlier ((key, label) ∷ [])
          ∙ (λ i. has.keys i && (fits i && true));
      put = record {
        finds = λ q.
            puts.put q
            ∙ (λ i. cond (same_key key q)
            (Some ((name_of-after old (labels_of earlier) label has.labels
            ∙ ap (λ n. name_after n (labels_of earlier) label) has.words
            ∙ sym (item_name-outside start earlier key label outside)) i)) (has.put.finds q i))
            ∙ sym (ap (λ pairs. update_all same_key first pairs q) (named_items-push start earlier (key, label))
            ∙ ap (λ f. f q) (fold-push (λ f p. update same_key f p.0 (Some p.1)) first
            (named_items start earlier) (key, item_name start earlier (key, label))));
      };
    };
  }

  -- a `Namer` that begins
  pub begins : (start : Names) (before : NameMap) → HasNamed start [] → HasNamedItems start before [] start before
  begins start before none = record { words = refl; labels = none; keys = refl; put = record { finds = λ q. refl } }

-- these words and prefixes, with no uses
pub starts : (keywords builtins caseless : Words) (keeps_digits : Bool) (uses : Uses)
    (prefixes assigned : List (Bor (List ℕ))) → uses ≡ finite.empty → prefixes ≡ assigned →
    record {
      keywords = keywords;
      builtin_identifiers = builtins;
      caseless_keywords = caseless;
      reserved_prefixes = map (λ p. p.now) prefixes;
      keeps_digits = keeps_digits;
      uses = uses;
    } ≡ new_names keywords builtins caseless (map (λ p. p.now) assigned) keeps_digits
starts keywords builtins caseless keeps_digits uses prefixes assigned none same =
    λ i. record {
      keywords = keywords;
      builtin_identifiers = builtins;
      caseless_keywords = caseless;
      reserved_prefixes = map (λ p. p.now) (same i);
      keeps_digits = keeps_digits;
      uses = none i;
    }

-- ---- why items are refused
pub if_err : {T E : Type 0} (r : Result T E) (e : E) (P : E → Type 0) → IsErrAnd r (λ y. y ≡ e) → P e → IfErr r P
if_err (Ok x) e P is p = tt
if_err (Err y) e P is p = subst P (sym is) p

pub if_err_more : {T E : Type 0} (r : Result T E) (P Q : E → Type 0) → IfErr r P → ((e : E) → P e → Q e) → IfErr r Q
if_err_more (Ok x) P Q p f = tt
if_err_more (Err y) P Q p f = f y p

full_more : (start : Names) (items others : List LabelledItem) → SomeNameIsFull start items →
    SomeNameIsFull start (items ++ others)
full_more start items others full = record {
  named = full.named;
  item = full.item;
  left = full.left ++ others;
  all = ap (λ all. all ++ others) full.all ∙ append_assoc full.named (full.item ∷ full.left) others;
  outside = full.outside;
  full = full.full;
}

pub refusal_more : (start : Names) (items others : List LabelledItem) (error : NamerError) →
    IsRefusalOfItems start items error → IsRefusalOfItems start (items ++ others) error
refusal_more start items others Full why = full_more start items others why
refusal_more start items others KeyFull why = list_all-append (λ item. key_fits item.0) items others
    ∙ ap (λ b. b && keys_fit others) why
refusal_more start items others (Memory e) why = tt

-- a beginning of some items is one of more
pub beginning_more : (start : Names) (first now : NameMap) (items others : List LabelledItem) →
    PutsBeginning start first items now → PutsBeginning start first (items ++ others) now
beginning_more start first now items others p = record {
  named = p.named;
  left = p.left ++ others;
  all = ap (λ all. all ++ others) p.all ∙ append_assoc p.named p.left others;
  put = p.put;
}

-- a map that stays as it was
beginning_unchanged : (start : Names) (first before now : NameMap)
    (earlier items : List LabelledItem) (old : Names) → ((q : NameKey) → now q ≡ before q) →
    HasNamedItems start first earlier old before → PutsBeginning start first (earlier ++ items) now
beginning_unchanged start first before now earlier items old same has = record {
  named = earlier;
  left = items;
  all = refl;
  put = record { finds = λ q. same q ∙ has.put.finds q };
}

-- one item is refused for the reason that its label is
pub refuses_one : (old : Names) (before now : NameMap) (key : NameKey) (label : List ℕ)
    (error : NamerError) → is_member key ≡ false → PutsNoName old before label now error →
    RefusesItems old before ((key, label) ∷ []) now error
refuses_one old before now key label error outside refused = record {
  some = λ start first earlier has. beginning_unchanged start first before now earlier
      ((key, label) ∷ []) old refused.kept has;
  why = λ start first earlier has. reason error refused.why start first earlier has;
}
  where
    reason : (error : NamerError) → IsRefusalOf old label error →
        (start : Names) (first : NameMap) (earlier : List LabelledItem) →
        HasNamedItems start first earlier old before →
        IsRefusalOfItems start (earlier ++ (key, label) ∷ []) error
    reason Full full start first earlier has = record {
      named = earlier;
      item = (key, label);
      left = [];
      all = refl;
      outside = outside;
      full =
          sym (ap (λ (n : Names). labels_with_stem n (labels_of earlier) (label_stem n label)) has.words)
          ∙ sym (has.labels.uses_are (label_stem old label)) ∙ full;
    }
    reason KeyFull never start first earlier has = absurd never
    reason (Memory e) full start first earlier has = tt

pub not_below : (n m : ℕ) → (n < m → ⊥) → nat_lt n m ≡ false
not_below n m no_less = either (nat_lt n m) refl
  where
    either : (b : Bool) → nat_lt n m ≡ b → b ≡ false
    either true e = absurd (no_less (ltb-true n m e))
    either false e = refl

pub or_not_this : (a b : Bool) → b ≡ false → (a && b) ≡ false
or_not_this true b e = e
or_not_this false b e = refl

-- an item whose key can't be told
-- where all items got their names, none met a full stem
pub none_full : (start : Names) (before : NameMap) (items : List LabelledItem) (names : Names) (now : NameMap) →
    HasNamedItems start before items names now → SomeNameIsFull start items → ⊥
none_full start before items names now has full =
    let stem : List ℕ = label_stem start full.item.1 in
    let all : labels_of items ≡ labels_of full.named ++ full.item.1 ∷ labels_of full.left =
    ap labels_of full.all ∙ labels_of-around full.named full.item full.left full.outside in
    let few : labels_with_stem start (labels_of items) stem ≤ 2 ^ 32 =
    subst (λ n. n ≤ 2 ^ 32) (ap (λ (n : Names). labels_with_stem n (labels_of items) stem) has.words)
    (has.labels.few stem) in
    let count : labels_with_stem start (labels_of items) stem
    ≡ labels_with_stem start (labels_of full.named) stem + (1 + labels_with_stem start (labels_of full.left) stem) =
    ap (λ labels. labels_with_stem start labels stem) all
    ∙ counted_more start (labels_of full.named) full.item.1 (labels_of full.left) stem refl in
    let met : labels_with_stem start (labels_of full.named) stem ≡ 2 ^ 32 = full.full in
    omega (arith, few, count, met)

-- what a map says after `insert`, by the names that it has
pub names_in-insert : {Y S : Type 0} (old new : HashMap NameKey (String Y) S) (key : NameKey)
    (name : String Y) → hash.Updates same_key old new key (Some name) →
    (q : NameKey) → names_in new q ≡ cond (same_key key q) (Some (string_bytes name))
    (names_in old q)
names_in-insert old new key name updates q = ap (option_map string_bytes) (updates.0 q) ∙ either (same_key key q)
  where
    either : (b : Bool) → option_map string_bytes (cond b (Some name) (hash.get same_key old q))
        ≡ cond b (Some (string_bytes name)) (names_in old q)
    either b = elim b as (λ t. option_map string_bytes (cond t (Some name) (hash.get same_key old q))
        ≡ cond t (Some (string_bytes name)) (names_in old q)) [ true ↦ refl | false ↦ refl ]

-- ---- loops over items
pub enumerate_from-append : {X : Type 0} (n : ℕ) (xs ys : List X) → enumerate_from n (xs ++ ys)
    ≡ enumerate_from n xs ++ enumerate_from (n + length xs) ys
enumerate_from-append n [] ys = ap (λ m. enumerate_from m ys) (sym (add-zero n))
enumerate_from-append n (x ∷ xs) ys =
    let long : n + 1 + length xs ≡ n + length (x ∷ xs) = omega arith in
    ap (λ items. (n, x) ∷ items) (enumerate_from-append (n + 1) xs ys
    ∙ ap (λ m. enumerate_from (n + 1) xs ++ enumerate_from m ys) long)

-- items that come of a list, in order, each by its index and the entry there
module _ {X : Type 0} (items : ℕ → List X → List LabelledItem) (own : ℕ → X → List LabelledItem)
    (grown : (n : ℕ) (xs ys : List X) → items n (xs ++ ys) ≡ items n xs ++ items (n + length xs) ys)
    (single : (n : ℕ) (x : X) → items n (x ∷ []) ≡ own n x) (xs : List X) (i : ℕ) (x : X)
    (lt : i < length xs) (is : x ≡ get_or xs i x) where
  long : 0 + length (take i xs) ≡ i
  long = omega (arith, length-take-le i xs (omega arith))

  -- the items of one entry more
  pub items_more : items 0 (take (i + 1) xs) ≡ items 0 (take i xs) ++ own i x
  items_more =
      ap (items 0) (take_more xs i x lt ∙ ap (λ y. take i xs ++ y ∷ []) (sym is))
      ∙ grown 0 (take i xs) (x ∷ [])
      ∙ ap (λ n. items 0 (take i xs) ++ items n (x ∷ [])) long
      ∙ ap (λ more. items 0 (take i xs) ++ more) (single i x)

  pub items_left : List LabelledItem
  items_left = items (0 + length (take (i + 1) xs)) (drop (i + 1) xs)

  -- all of them, seen from the entry at i
  pub items_at : items 0 xs ≡ items 0 (take i xs) ++ (own i x ++ items_left)
  unfolding items_left
  items_at =
      ap (items 0) (sym (take-append-drop (i + 1) xs))
      ∙ grown 0 (take (i + 1) xs) (drop (i + 1) xs)
      ∙ ap (λ front. front ++ items_left) items_more
      ∙ append_assoc (items 0 (take i xs)) (own i x) items_left

module _ {X : Type 0} (entry : ℕ → X → LabelledItem) where
  pub entries_grown : (n : ℕ) (xs ys : List X) →
      map (λ p. entry p.0 p.1) (enumerate_from n (xs ++ ys)) ≡ map (λ p. entry p.0 p.1)
      (enumerate_from n xs) ++ map (λ p. entry p.0 p.1) (enumerate_from (n + length xs) ys)
  entries_grown n xs ys = ap (map (λ p. entry p.0 p.1)) (enumerate_from-append n xs ys)
      ∙ map-append (λ p. entry p.0 p.1) (enumerate_from n xs) (enumerate_from (n + length xs) ys)

-- ---- optional values, and the word of the last entry point
pub option_or-assoc : {X : Type 0} (a b c : Option X)
    → option_or (option_or a b) c ≡ option_or a (option_or b c)
option_or-assoc (Some x) b c = refl
option_or-assoc None b c = refl

pub option_or-none : {X : Type 0} (a : Option X) → option_or a None ≡ a
option_or-none (Some x) = refl
option_or-none None = refl

pub output_label-push : (t : ℕ) (entry_points : List EntryPoint) (entry_point : EntryPoint) →
    output_label t (entry_points ++ entry_point ∷ []) ≡ option_or
    (cond (returns t entry_point) (output_word entry_point.stage) None)
    (output_label t entry_points)
output_label-push t [] entry_point =
    sym (option_or-none (cond (returns t entry_point) (output_word entry_point.stage) None))
output_label-push t (first ∷ entry_points) entry_point =
    ap (λ o. option_or o (cond (returns t first) (output_word first.stage) None))
    (output_label-push t entry_points entry_point)
    ∙ option_or-assoc (cond (returns t entry_point) (output_word entry_point.stage) None)
    (output_label t entry_points) (cond (returns t first) (output_word first.stage) None)

pub output_label-more : (t : ℕ) (entry_points : List EntryPoint) (i : ℕ)
    (entry_point : EntryPoint) → i < length entry_points →
    entry_point ≡ get_or entry_points i entry_point →
    output_label t (take (i + 1) entry_points) ≡ option_or
    (cond (returns t entry_point) (output_word entry_point.stage) None)
    (output_label t (take i entry_points))
output_label-more t entry_points i entry_point lt is =
    ap (output_label t) (take_more entry_points i entry_point lt ∙ ap (λ e. take i entry_points ++ e ∷ [])
    (sym is)) ∙ output_label-push t (take i entry_points) entry_point

-- a map that has the same names for types
pub same_type_names : (before now : NameMap) (count : ℕ) →
    ((t : ℕ) → now (key.Type_ t) ≡ before (key.Type_ t)) → type_names_in now count ≡ type_names_in before count
same_type_names before now count same = λ i t. cond (nat_lt t count) (unwrap_or (same t i) []) []
