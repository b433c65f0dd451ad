-- Items named one after another, up to the first refusal.
use Rattle.std.proofs.Common.{◌≡◌, ℕ, ◌+◌, ◌<◌, ◌≤◌, ◌^◌, nat_lt, zero, suc, List, [], ◌∷◌, ◌++◌}
use Rattle.std.proofs.Common.{map, length, drop, get_or, Option, None, Some, true, false, ◌&&◌}
use Rattle.std.proofs.Common.{refl, sym, ap, subst, ◌∙◌, arith, add-one, drop-cons, append_assoc}
use Rattle.std.proofs.Common.{append-nil}
use Rattle.std.specs.List.{flat_map, enumerate_from}
use Rattle.std.specs.FinMap as finite
use Rattle.std.specs.Option.{option_or, is_some}
use Rattle.std.proofs.Math.Bool.{and-false}
use Rattle.std.proofs.lemmas.List.Folds.{list_all-append}
use Rattle.naga_ir.specs.declared.module.Module.{Module}
use Rattle.naga_naming.specs.Keys.{NameMap}
use Rattle.naga_naming.specs.declared.error.NamerError.{NamerError}
use Rattle.naga_naming.specs.declared.error.NamerError.TheVariants.{KeyFull, Memory}
use Rattle.naga_naming.specs.Naming.{Names}
use Rattle.naga_naming.specs.Refusal.{IsRefusalOfItems, RefusesItems}
use Rattle.naga_naming.specs.Reset.{LabelledItem, key_fits, keys_fit, named_items, PutsInto}
use Rattle.naga_naming.specs.Reset.{PutsBeginning, HasNamedItems, NamesItems, labelled_declarations}
use Rattle.naga_naming.specs.Reset.{labelled_values, labelled_items, type_name, type_names_in}
use Rattle.naga_naming.proofs.Naming.{has_named_nothing}
use Rattle.naga_naming.proofs.Reset.{begins, refusal_more, beginning_more, not_below}
use Rattle.naga_naming.proofs.TypeNames.{agree}
use Rattle.naga_names.specs.Progress.{Progress, Stands, Gives, GivesModule, Leaves, argument_key}
use Rattle.naga_names.specs.declared.namer.items.Owner.{Owner}
use Rattle.naga_names.specs.declared.namer.items.Owner.TheVariants as owner

stands_more : (start : Names) (first : NameMap) (earlier items : List LabelledItem) (names : Names)
    (now : NameMap) (error : NamerError) → Stands start first earlier names now (Some error) →
    Stands start first (earlier ++ items) names now (Some error)
stands_more start first earlier items names now error stands =
    (beginning_more start first now earlier items stands.0, refusal_more start earlier items error stands.1)

pub gives_none : (a : Progress) → Gives a [] a
gives_none a =
    record {
      more = λ start first earlier stands. subst
          (λ items. Stands start first items a.names a.map a.refusal) (sym (append-nil earlier)) stands;
    }

pub gives_then : {a b c : Progress} {xs ys : List LabelledItem} → Gives a xs b → Gives b ys c → Gives a (xs ++ ys) c
gives_then {a} {b} {c} {xs} {ys} one two = record {
  more = λ start first earlier stands.
      subst (λ items. Stands start first items c.names c.map c.refusal) (append_assoc earlier xs ys)
      (two.more start first (earlier ++ xs) (one.more start first earlier stands));
}

-- the same from names that a map has in another order
pub gives_alike : {names : Names} {refusal : Option NamerError} {before now : NameMap}
    {b : Progress} {xs : List LabelledItem} → now ≡ before
    → Gives (record { names = names; map = now; refusal = refusal }) xs b
    → Gives (record { names = names; map = before; refusal = refusal }) xs b
gives_alike {names} {refusal} {before} {now} {b} {xs} same =
    subst (λ map. Gives (record { names = names; map = map; refusal = refusal }) xs b) same

-- the same items, said in another way
pub gives_same : {a b : Progress} {xs ys : List LabelledItem} → xs ≡ ys → Gives a xs b → Gives a ys b
gives_same {a} {b} same gives = subst (λ items. Gives a items b) same gives

-- after a refusal nothing is named
pub gives_after : (a : Progress) (items : List LabelledItem) → is_some a.refusal ≡ true → Gives a items a
gives_after a items is = record { more = λ start first earlier stands. either start first earlier a.refusal is stands }
  where
    either : (start : Names) (first : NameMap) (earlier : List LabelledItem)
        (o : Option NamerError) → is_some o ≡ true → Stands start first earlier a.names a.map o →
        Stands start first (earlier ++ items) a.names a.map o
    either start first earlier None none stands = absurd (cc)
    either start first earlier (Some error) some stands =
        stands_more start first earlier items a.names a.map error stands

pub no_refusal : (o : Option NamerError) → is_some o ≡ false → o ≡ None
no_refusal None is = refl
no_refusal (Some error) is = absurd (cc)

pub gives_named : (a b : Progress) (items : List LabelledItem) → a.refusal ≡ None → b.refusal ≡ None →
    NamesItems a.names a.map items b.names b.map → Gives a items b
gives_named a b items was is named = record {
  more = λ start first earlier stands.
      subst (Stands start first (earlier ++ items) b.names b.map) (sym is)
      (named.more start first earlier (subst (Stands start first earlier a.names a.map) was stands));
}

pub gives_refused : (a b : Progress) (items : List LabelledItem) (error : NamerError) → a.refusal ≡ None →
    b.refusal ≡ Some error → RefusesItems a.names a.map items b.map error → Gives a items b
gives_refused a b items error was is refused = record {
  more = λ start first earlier stands.
      let has : HasNamedItems start first earlier a.names a.map =
      subst (Stands start first earlier a.names a.map) was stands in
      subst (Stands start first (earlier ++ items) b.names b.map) (sym is)
      (refused.some start first earlier has, refused.why start first earlier has);
}

-- a refusal is remembered, for which there is a reason with these items
pub gives_up : (a b : Progress) (items : List LabelledItem) (error : NamerError) → b.map ≡ a.map →
    b.refusal ≡ option_or a.refusal (Some error)
    → ((start : Names) (earlier : List LabelledItem) → IsRefusalOfItems start (earlier ++ items) error) →
    Gives a items b
gives_up a b items error map_is is why =
    record { more = λ start first earlier stands. either start first earlier a.refusal refl stands }
  where
    either : (start : Names) (first : NameMap) (earlier : List LabelledItem)
        (o : Option NamerError) → a.refusal ≡ o →
        Stands start first earlier a.names a.map a.refusal →
        Stands start first (earlier ++ items) b.names b.map b.refusal
    either start first earlier None was stands =
        let has : HasNamedItems start first earlier a.names a.map =
        subst (Stands start first earlier a.names a.map) was stands in
        subst (Stands start first (earlier ++ items) b.names b.map)
        (sym (is ∙ ap (λ o. option_or o (Some error)) was)) (
          record {
            named = earlier;
            left = items;
            all = refl;
            put = subst (PutsInto first (named_items start earlier)) (sym map_is) has.put;
          },
          why start earlier,
        )
    either start first earlier (Some before) was stands =
        let more = stands_more start first earlier items a.names a.map before
        (subst (Stands start first earlier a.names a.map) was stands) in
        subst (Stands start first (earlier ++ items) b.names b.map) (sym (is ∙ ap (λ o. option_or o (Some error)) was))
        (subst (PutsBeginning start first (earlier ++ items)) (sym map_is) more.0, more.1)

-- memory may run out at any time
pub gives_up_memory : (a b : Progress) (items : List LabelledItem) {e : _} → b.map ≡ a.map →
    b.refusal ≡ option_or a.refusal (Some (Memory e)) → Gives a items b
gives_up_memory a b items {e} map_is is = gives_up a b items (Memory e) map_is is (λ start earlier. tt)

-- a key that can't be told
pub gives_up_key : (a b : Progress) (item : LabelledItem) (others : List LabelledItem) →
    b.map ≡ a.map → b.refusal ≡ option_or a.refusal (Some KeyFull) → key_fits item.0 ≡ false →
    Gives a (item ∷ others) b
gives_up_key a b item others map_is is unfit =
    gives_up a b (item ∷ others) KeyFull map_is is
    (λ start earlier. list_all-append (λ item. key_fits item.0) earlier (item ∷ others)
    ∙ ap (λ b. keys_fit earlier && (b && keys_fit others)) unfit ∙ and-false (keys_fit earlier))

-- ---- loops
pub leaves_all : (a : Progress) {all left : List LabelledItem} → all ≡ left → Leaves a a all left
leaves_all a same = record { rest = λ after gives. gives_same (sym same) gives }

module _ {X : Type 0} (own : X → List LabelledItem) {a b : Progress} {all : List LabelledItem} {xs : List X} where
  pub leaves_turn : {c : Progress} {x : X} {rest : List X} → xs ≡ x ∷ rest → Leaves a b all (flat_map own xs) →
      Gives b (own x) c → Leaves a c all (flat_map own rest)
  leaves_turn is leaves gives =
      record {
        rest = λ after others. leaves.rest after
            (gives_same (sym (ap (flat_map own) is)) (gives_then gives others));
      }

  pub leaves_none : xs ≡ [] → Leaves a b all (flat_map own xs) → Gives a all b
  leaves_none is leaves = leaves.rest b (gives_same (sym (ap (flat_map own) is)) (gives_none b))

-- the same where each has one item
module _ {X : Type 0} (own : X → LabelledItem) {a b : Progress} {all : List LabelledItem} {xs : List X} where
  pub leaves_turn_one : {c : Progress} {x : X} {rest : List X} → xs ≡ x ∷ rest → Leaves a b all (map own xs) →
      Gives b (own x ∷ []) c → Leaves a c all (map own rest)
  leaves_turn_one is leaves gives =
      record { rest = λ after others. leaves.rest after (gives_same (sym (ap (map own) is)) (gives_then gives others)) }

pub one_each : {X : Type 0} (own : X → LabelledItem) (xs : List X) → flat_map (λ x. own x ∷ []) xs ≡ map own xs
one_each own [] = refl
one_each own (x ∷ xs) = ap (λ items. own x ∷ items) (one_each own xs)

-- what is left of a list from an index on
module _ {X : Type 0} where
  pub at_index : (xs : List X) (i : ℕ) (x : X) → i < length xs → x ≡ get_or xs i x →
      enumerate_from i (drop i xs) ≡ (i, x) ∷ enumerate_from (i + 1) (drop (i + 1) xs)
  at_index xs i x lt is =
      let split : drop i xs ≡ get_or xs i x ∷ drop (i + 1) xs = rw add-one (drop-cons xs i x lt) in
      ap (enumerate_from i) split ∙ ap (λ y. (i, y) ∷ enumerate_from (i + 1) (drop (i + 1) xs)) (sym is)

  drop_past : (xs : List X) (i : ℕ) → length xs ≤ i → drop i xs ≡ []
  drop_past [] zero le = refl
  drop_past [] (suc i) le = refl
  drop_past (x ∷ xs) zero le = absurd (omega (arith, le))
  drop_past (x ∷ xs) (suc i) le = drop_past xs i (omega (arith, le))

  pub past_end : (xs : List X) (i : ℕ) → length xs ≤ i → enumerate_from i (drop i xs) ≡ []
  past_end xs i le = ap (enumerate_from i) (drop_past xs i le)

-- an argument's key can't be told where its index is no `u32`
pub argument_unfit : (of : Owner) (n : ℕ) → (n < 2 ^ 32 → ⊥) → key_fits (argument_key of n) ≡ false
argument_unfit (owner.Function f) n past = not_below n (2 ^ 32) past
argument_unfit (owner.EntryPoint e) n past = ap (λ b. nat_lt e (2 ^ 16) && b) (not_below n (2 ^ 32) past)
    ∙ and-false (nat_lt e (2 ^ 16))

-- ---- the items of a module
module _ (a b : Progress) («module» : Module) (declared : Gives a (labelled_declarations «module») b) where
  -- the values are not named where a declaration was refused
  pub module_refused : is_some b.refusal ≡ true → GivesModule a «module» b
  module_refused is = record {
    more = λ start first stands.
        (gives_after b (labelled_values (type_name start «module») «module») is).more start first
        (labelled_declarations «module») (declared.more start first [] stands);
  }

  -- they are labelled by the names that the map has for their types
  pub module_named : (c : Progress) → b.refusal ≡ None →
      Gives b (labelled_values (type_names_in b.map (length «module».types)) «module») c → GivesModule a «module» c
  module_named c none values = record {
    more = λ start first stands.
        let so_far = declared.more start first [] stands in
        let has : HasNamedItems start first (labelled_declarations «module») b.names b.map =
        subst (Stands start first (labelled_declarations «module») b.names b.map) none so_far in
        subst (λ names. Stands start first (labelled_declarations «module» ++ labelled_values names «module»)
        c.names c.map c.refusal) (agree start «module» first b.names b.map has)
        (values.more start first (labelled_declarations «module») so_far);
  }

-- from a start without uses
module _ (start : Names) (a b : Progress) («module» : Module) (same : a.names ≡ start)
    (none : start.uses ≡ finite.empty) (fresh : a.refusal ≡ None) (gives : GivesModule a «module» b) where
  stands_at_end : Stands start a.map (labelled_items start «module») b.names b.map b.refusal
  stands_at_end =
      gives.more start a.map
      (subst (Stands start a.map [] a.names a.map) (sym fresh)
      (subst (λ names. HasNamedItems start a.map [] names a.map) (sym same)
      (begins start a.map (has_named_nothing start none))))

  pub all_named : (names : Names) → (b.refusal ≡ None) × (names ≡ b.names) →
      HasNamedItems start a.map (labelled_items start «module») names b.map
  all_named names is =
      subst (λ names. HasNamedItems start a.map (labelled_items start «module») names b.map) (sym is.1)
      (subst (Stands start a.map (labelled_items start «module») b.names b.map) is.0 stands_at_end)

  pub some_named : (error : NamerError) → b.refusal ≡ Some error →
      Stands start a.map (labelled_items start «module») b.names b.map (Some error)
  some_named error is = subst (Stands start a.map (labelled_items start «module») b.names b.map) is stands_at_end
