-- A map of counters, seen as the uses of each stem; names by the uses so far, and by the labels so
-- far.
use Rattle.std.proofs.Common.{◌≡◌, ℕ, ◌<◌, ◌≤◌, Bool, true, false, cond, List, [], ◌∷◌, ◌++◌, refl}
use Rattle.std.proofs.Common.{sym, ap, subst, ◌∙◌, arith, ◌+◌, map, Some, None, add-zero, ◌^◌}
use Rattle.std.proofs.Common.{unwrap_or, String, HashMap, string_bytes}
use Rattle.std.specs.FinMap as finite
use Rattle.std.specs.HashMap.{get_by_text, UpdatesBy}
use Rattle.std.specs.Map.{lookup}
use Rattle.std.specs.Option.{option_map}
use Rattle.std.specs.Ordering.{nat_cmp}
use Rattle.std.specs.Str.{bytes_eq}
use Rattle.std.specs.String.{string_eq}
use Rattle.std.specs.Cmp.Lexicographic.{slice_cmp, nat_list_cmp_total, nat_list_eq_equiv}
use Rattle.std.specs.Cmp.Lexicographic.{bytes_decides}
use Rattle.std.proofs.lemmas.Map.Text.{is_eq-slice_cmp, hash_map_updates_text}
use Rattle.naga_naming.specs.Naming.{name_after, Uses, uses_of, Names, label_stem, name_of_stem}
use Rattle.naga_naming.specs.Naming.{name_of, with_use, with_use_of_stem, labels_with_stem, HasNamed}
use Rattle.std.proofs.lemmas.List.Sums.{sum_by_push}

abbrev one_more : ℕ → ℕ
one_more later = later + 1

module _ {Y : Type 0} where
  abbrev pub uses_in : List (String Y × ℕ) → Uses
  uses_in es = finite.from_entries (map (λ e. (string_bytes e.0, e.1 + 1)) es)

  found : (q : List ℕ) (es : List (String Y × ℕ)) →
      finite.find (slice_cmp nat_cmp) q (map (λ e. (string_bytes e.0, e.1 + 1)) es)
      ≡ option_map one_more (lookup (λ k. bytes_eq q (string_bytes k)) es)
  found q [] = refl
  found q (e ∷ es) =
      ap (λ b. cond b (Some (e.1 + 1)) (finite.find (slice_cmp nat_cmp) q
      (map (λ e. (string_bytes e.0, e.1 + 1)) es))) (is_eq-slice_cmp q (string_bytes e.0))
      ∙ either (bytes_eq q (string_bytes e.0)) (found q es)
    where
      either : (b : Bool) →
          finite.find (slice_cmp nat_cmp) q (map (λ e. (string_bytes e.0, e.1 + 1)) es) ≡
          option_map one_more (lookup (λ k. bytes_eq q (string_bytes k)) es) →
          cond b (Some (e.1 + 1))
          (finite.find (slice_cmp nat_cmp) q (map (λ e. (string_bytes e.0, e.1 + 1)) es)) ≡
          option_map one_more (cond b (Some e.1) (lookup (λ k. bytes_eq q (string_bytes k)) es))
      either true rest = refl
      either false rest = rest

  pub get-uses_in : (es : List (String Y × ℕ)) (q : List ℕ) → finite.get (uses_in es) q
      ≡ option_map one_more (lookup (λ k. bytes_eq q (string_bytes k)) es)
  get-uses_in es q = finite.get-from_entries nat_list_cmp_total _ q ∙ found q es

  -- what `insert` leaves
  pub uses_in-insert : {S : Type 0} (stem : List ℕ) (later : ℕ) (old new : HashMap (String Y) ℕ S)
      → UpdatesBy string_eq (λ k. bytes_eq stem (string_bytes k)) old new (Some later)
      → uses_in new.entries ≡ finite.insert (uses_in old.entries) stem (later + 1)
  uses_in-insert stem later old new updates =
      finite.same_map nat_list_cmp_total (finite.slice_cmp-IsAntisymmetric finite.nat_cmp-IsAntisymmetric) _ _ (λ q.
      get-uses_in new.entries q
      ∙ ap (option_map one_more) (hash_map_updates_text stem old new (Some later) updates q)
      ∙ ap (λ b. option_map one_more (cond b (Some later) (get_by_text old q)))
      (nat_list_eq_equiv.symm stem q)
      ∙ either q (bytes_eq q stem)
      ∙ sym (finite.get-insert nat_list_cmp_total (uses_in old.entries) stem (later + 1) q
      ∙ (λ i. cond (is_eq-slice_cmp q stem i) (Some (later + 1)) (get-uses_in old.entries q i))))
    where
      either : (q : List ℕ) (b : Bool) → option_map one_more (cond b (Some later) (get_by_text old q))
          ≡ cond b (Some (later + 1)) (option_map one_more (get_by_text old q))
      either q true = refl
      either q false = refl

  -- how often a stem was used, by what a look-up finds
  module _ (es : List (String Y × ℕ)) (uses : Uses) (is : uses_in es ≡ uses) (stem : List ℕ) where
    pub uses_of-absent : None ≡ lookup (λ k. bytes_eq stem (string_bytes k)) es
        → uses_of uses stem ≡ 0
    uses_of-absent none =
        ap (λ u. uses_of u stem) (sym is) ∙ ap (λ o. unwrap_or o 0)
        (get-uses_in es stem ∙ ap (option_map one_more) (sym none))

    pub uses_of-present : (later : ℕ) → Some later ≡ lookup (λ k. bytes_eq stem (string_bytes k)) es
        → uses_of uses stem ≡ later + 1
    uses_of-present later some =
        ap (λ u. uses_of u stem) (sym is) ∙ ap (λ o. unwrap_or o 0)
        (get-uses_in es stem ∙ ap (option_map one_more) (sym some))

pub uses_of-empty : (stem : List ℕ) → uses_of finite.empty stem ≡ 0
uses_of-empty stem = ap (λ u. unwrap_or u 0) (finite.get-empty (slice_cmp nat_cmp) stem)

-- nothing was named by a `Namer` that is new
pub has_named_nothing : (names : Names) → names.uses ≡ finite.empty → HasNamed names []
has_named_nothing names none = record {
  uses_are = λ stem. ap (λ u. uses_of u stem) none ∙ uses_of-empty stem;
  few = λ stem. omega arith;
}

pub name_of-after : (names : Names) (earlier : List (List ℕ)) (label : List ℕ) → HasNamed names earlier →
    name_of names label ≡ name_after names earlier label
unfolding name_of
name_of-after names earlier label has = ap (name_of_stem names (label_stem names label))
    (has.uses_are (label_stem names label))

pub has_named-push : (names : Names) (earlier : List (List ℕ)) (label : List ℕ) →
    uses_of names.uses (label_stem names label) < 2 ^ 32 → HasNamed names earlier →
    HasNamed (with_use names label) (earlier ++ label ∷ [])
unfolding with_use
has_named-push names earlier label room has = record {
  uses_are = λ stem.
      ap (λ u. unwrap_or u 0)
      (finite.get-insert nat_list_cmp_total names.uses b (uses_of names.uses b + 1) stem
      ∙ ap (λ t. cond t (Some (uses_of names.uses b + 1)) (finite.get names.uses stem))
      (is_eq-slice_cmp stem b ∙ nat_list_eq_equiv.symm stem b))
      ∙ either stem (bytes_eq b stem) refl
      ∙ sym (sum_by_push (λ l. cond (bytes_eq (label_stem names l) stem) 1 0) earlier label);
  few = λ stem. fewer stem (bytes_eq b stem) refl;
}
  where
    b : List ℕ
    b = label_stem names label

    either : (stem : List ℕ) (t : Bool) → bytes_eq b stem ≡ t →
        unwrap_or (cond t (Some (uses_of names.uses b + 1)) (finite.get names.uses stem)) 0
        ≡ labels_with_stem names earlier stem + cond t 1 0
    either stem true same = ap (λ d. uses_of names.uses d + 1) ((bytes_decides b stem).0 same)
        ∙ ap (λ n. n + 1) (has.uses_are stem)
    either stem false differs = has.uses_are stem ∙ sym (add-zero (labels_with_stem names earlier stem))

    fewer : (stem : List ℕ) (t : Bool) → bytes_eq b stem ≡ t →
        labels_with_stem names (earlier ++ label ∷ []) stem ≤ 2 ^ 32
    fewer stem true same =
        let pushed : labels_with_stem names (earlier ++ label ∷ []) stem ≡ labels_with_stem names earlier stem + 1 =
        sum_by_push (λ l. cond (bytes_eq (label_stem names l) stem) 1 0) earlier label
        ∙ ap (λ t. labels_with_stem names earlier stem + cond t 1 0) same in
        let used : labels_with_stem names earlier stem ≡ uses_of names.uses b = sym (has.uses_are stem)
        ∙ sym (ap (uses_of names.uses) ((bytes_decides b stem).0 same)) in
        omega (arith, pushed, used, room)
    fewer stem false differs =
        let pushed : labels_with_stem names (earlier ++ label ∷ []) stem ≡ labels_with_stem names earlier stem + 0 =
        sum_by_push (λ l. cond (bytes_eq (label_stem names l) stem) 1 0) earlier label
        ∙ ap (λ t. labels_with_stem names earlier stem + cond t 1 0) differs in
        omega (arith, pushed, has.few stem)

-- a label that has the stem b
module _ (names : Names) (label b : List ℕ) (stem_is : b ≡ label_stem names label) where
  pub name_of-by_stem : name_of_stem names b (uses_of names.uses b) ≡ name_of names label
  unfolding name_of
  name_of-by_stem = ap (λ d. name_of_stem names d (uses_of names.uses d)) stem_is

  pub with_use-by_stem : with_use_of_stem names b ≡ with_use names label
  unfolding with_use
  with_use-by_stem = ap (with_use_of_stem names) stem_is

  pub push-by_stem : (earlier : List (List ℕ)) (new : Names) → HasNamed names earlier
      → new ≡ with_use_of_stem names b → uses_of names.uses b < 2 ^ 32
      → HasNamed new (earlier ++ label ∷ [])
  push-by_stem earlier new has used room =
      subst (λ n. HasNamed n (earlier ++ label ∷ [])) (sym (used ∙ with_use-by_stem))
      (has_named-push names earlier label
      (subst (λ d. uses_of names.uses d < 2 ^ 32) stem_is room) has)
