-- Finite sets of words that are kept in ascending order.
--
-- Throughout, ks are the words, and w is the wanted one.
use Rattle.std.proofs.Common.{◌≡◌, ℕ, zero, suc, ◌+◌, ◌<◌, Bool, true, false, ◌||◌, ◌&&◌, cond}
use Rattle.std.proofs.Common.{nat_lt, List, [], ◌∷◌, length, get_or, refl, sym, ap, subst, ◌∙◌}
use Rattle.std.proofs.Common.{arith, if◌then◌else◌, Result, Ok, Err, OnErr}
use Rattle.std.specs.Cmp.{Equal-is, both_ways, tied_itself}
use Rattle.std.specs.Cmp.Lexicographic.{nat_list_cmp_total}
use Rattle.std.specs.FinSet as set
use Rattle.std.specs.List.{AllByRecursion, insert, list_all, list_any}
use Rattle.std.specs.List.Sorted.{IsPermutation, IsStrictlySortedBy}
use Rattle.std.specs.Result.{is_ok}
use Rattle.std.specs.Ordering.{eq_by_cmp, is_eq, ordering_reverse}
use Rattle.std.specs.declared.cmp.Ordering.{Ordering}
use Rattle.std.specs.declared.cmp.Ordering.TheVariants.{Less, Greater}
use Rattle.std.proofs.lemmas.Bool.{and_parts, ltb-true, ltb-false}
use Rattle.std.proofs.lemmas.List.Folds.{list_any_at}
use Rattle.std.proofs.lemmas.List.Sorted.{IsPermutation-insert}
use Rattle.naga_keywords.proofs.SetLemmas.{or_true_right, texts_of-again, texts_of-permuted}
use Rattle.std.proofs.lemmas.Map.Lookups.{exact_bytes}
use Rattle.std.proofs.lemmas.Map.Keys.{sorted_head, sorted_tail}
use Rattle.naga_keywords.specs.SortedWords.{IsFoundAt, IsIndexOf, SetView, StandsAt, keys_of}
use Rattle.naga_keywords.specs.SortedWords.{comparison_key}
use Rattle.naga_keywords.specs.SortedWords.{view_of_words, word_cmp}
use Rattle.naga_keywords.specs.declared.sorted.Case.{Case}
use Rattle.naga_keywords.specs.Words.{Words}
use denote.Ref.{Bor}

-- the set of these words
abbrev set_of : List (List ℕ) → Words
set_of ks = set.from_list ks

-- no key passes a test that fails at each index
none_passes : {K : Type 0} (test : K → Bool) (ks : List K) →
    ((i : ℕ) (d : K) → i < length ks → test (get_or ks i d) ≡ false) → list_any test ks ≡ false
none_passes test [] each = refl
none_passes test (k ∷ ks) each =
    ap (λ b. b || list_any test ks) (each 0 k (omega arith))
    ∙ none_passes test ks (λ i d below. each (suc i) d (omega (arith, below)))

module _ (w : List ℕ) where
  is_itself : eq_by_cmp word_cmp w w ≡ true
  is_itself = ap is_eq (tied_itself nat_list_cmp_total w)

  -- what comes before the wanted one, or after it, is another
  differs : (k : List ℕ) (o : Ordering) → is_eq (ordering_reverse o) ≡ false → word_cmp k w ≡ o →
      eq_by_cmp word_cmp w k ≡ false
  differs k o not is =
      ap is_eq (nat_list_cmp_total.antisymm w k) ∙ ap (λ o. is_eq (ordering_reverse o)) is ∙ not

  module _ (ks : List (List ℕ)) where
    pub contained : (i : ℕ) → StandsAt ks w i → set.contains (set_of ks) w ≡ true
    contained i at =
        set.contains-from_list nat_list_cmp_total ks w
        ∙ list_any_at (eq_by_cmp word_cmp w) ks i [] at.within
        (ap (eq_by_cmp word_cmp w) (at.is []) ∙ is_itself)

    other_at : (i : ℕ) → IsIndexOf ks w i → (j : ℕ) (d : List ℕ) → j < length ks → (b : Bool) →
        nat_lt j i ≡ b → eq_by_cmp word_cmp w (get_or ks j d) ≡ false
    other_at i found j d end true less =
        differs (get_or ks j d) Less refl (found.before j d (ltb-true j i less))
    other_at i found j d end false from =
        differs (get_or ks j d) Greater refl (found.following j d (ltb-false j i from) end)

    pub not_contained : (i : ℕ) → IsIndexOf ks w i → set.contains (set_of ks) w ≡ false
    not_contained i found =
        set.contains-from_list nat_list_cmp_total ks w
        ∙ none_passes (eq_by_cmp word_cmp w) ks
        (λ j d end. other_at i found j d end (nat_lt j i) refl)

-- ---- how many
-- a word that comes before all is none of them
is_before : (k : List ℕ) (ks : List (List ℕ)) → AllByRecursion (λ y. word_cmp k y ≡ Less) ks →
    list_any (eq_by_cmp word_cmp k) ks ≡ false
is_before k [] all = refl
is_before k (y ∷ ks) all =
    ap (λ b. is_eq b || list_any (eq_by_cmp word_cmp k) ks) all.0 ∙ is_before k ks all.1

pub len_is_length : (ks : List (List ℕ)) → IsStrictlySortedBy word_cmp ks →
    set.len (set_of ks) ≡ length ks
len_is_length [] up = set.len-empty word_cmp
len_is_length (k ∷ ks) up =
    let new = set.contains-from_list nat_list_cmp_total ks k
    ∙ is_before k ks (sorted_head word_cmp k ks up) in
    let more = set.len-insert nat_list_cmp_total (set_of ks) k in
    more ∙ ap (λ b. cond b (set.len (set_of ks)) (set.len (set_of ks) + 1)) new
    ∙ ap (λ n. n + 1) (len_is_length ks (sorted_tail word_cmp k ks up)) ∙ omega arith

-- ---- one more
-- what comes before all of a list, and before one more, comes before all with that one among them
before_more : (k w : List ℕ) (ks : List (List ℕ)) (i : ℕ) →
    AllByRecursion (λ y. word_cmp k y ≡ Less) ks → word_cmp k w ≡ Less →
    AllByRecursion (λ y. word_cmp k y ≡ Less) (insert ks i w)
before_more k w ks zero all less = (less, all)
before_more k w [] (suc i) all less = (less, tt)
before_more k w (y ∷ ks) (suc i) all less = (all.0, before_more k w ks i all.1 less)

-- what comes before the first of words in ascending order comes before all of them
before_all : (w k : List ℕ) (ks : List (List ℕ)) → word_cmp w k ≡ Less →
    AllByRecursion (λ y. word_cmp k y ≡ Less) ks → AllByRecursion (λ y. word_cmp w y ≡ Less) ks
before_all w k [] less all = tt
before_all w k (y ∷ ks) less all =
    (nat_list_cmp_total.trans w k y less all.0, before_all w k ks less all.1)

-- words in ascending order stay so, where one is put at its index
pub sorted_insert : (ks : List (List ℕ)) (w : List ℕ) (i : ℕ) → IsStrictlySortedBy word_cmp ks →
    IsIndexOf ks w i → IsStrictlySortedBy word_cmp (insert ks i w)
unfolding IsStrictlySortedBy
sorted_insert [] w zero up found = (tt, tt)
sorted_insert [] w (suc i) up found = (tt, tt)
sorted_insert (k ∷ ks) w zero up found =
    let less : word_cmp w k ≡ Less =
    nat_list_cmp_total.antisymm w k
    ∙ ap ordering_reverse (found.following 0 [] (omega arith) (omega arith)) in
    ((less, before_all w k ks less up.0), up)
sorted_insert (k ∷ ks) w (suc i) up found =
    let here : IsIndexOf ks w i = record {
      within = omega (arith, found.within);
      before = λ j d less. found.before (suc j) d (omega (arith, less));
      following = λ j d from end. found.following (suc j) d (omega (arith, from)) (omega (arith, end));
    } in
    (before_more k w ks i up.0 (found.before 0 [] (omega arith)), sorted_insert ks w i up.1 here)

-- what a member put among members is compared by is put among what these are compared by
pub keys_insert : (case : Case) (members : List (Bor (List ℕ))) (i : ℕ) (x : Bor (List ℕ)) →
    keys_of case (insert members i x) ≡ insert (keys_of case members) i (comparison_key case x.now)
keys_insert case [] zero x = refl
keys_insert case [] (suc i) x = refl
keys_insert case (m ∷ members) zero x = refl
keys_insert case (m ∷ members) (suc i) x =
    ap (λ ks. comparison_key case m.now ∷ ks) (keys_insert case members i x)

pub none_sorted : (case : Case) (members : List (Bor (List ℕ))) → members ≡ [] →
    IsStrictlySortedBy word_cmp (keys_of case members)
unfolding IsStrictlySortedBy
none_sorted case [] is = tt
none_sorted case (m ∷ members) is = absurd (cc)

-- what members are after one was put at its index, or after there was no memory for it
pub stays_sorted : (case : Case) (old new : List (Bor (List ℕ))) (x : Bor (List ℕ)) (i : ℕ)
    (done : Bool) → IsStrictlySortedBy word_cmp (keys_of case old) →
    IsIndexOf (keys_of case old) (comparison_key case x.now) i →
    new ≡ (if done then insert old i x else old) → IsStrictlySortedBy word_cmp (keys_of case new)
stays_sorted case old new x i true up found is =
    subst (IsStrictlySortedBy word_cmp)
    (sym (ap (keys_of case) is ∙ keys_insert case old i x))
    (sorted_insert (keys_of case old) (comparison_key case x.now) i up found)
stays_sorted case old new x i false up found is =
    subst (λ members. IsStrictlySortedBy word_cmp (keys_of case members)) (sym is) up

-- a set with one member more
pub one_more : (case : Case) (old new : List (Bor (List ℕ))) (x : Bor (List ℕ)) (i : ℕ) →
    new ≡ insert old i x → (seen : SetView) → view_of_words case old ≡ seen →
    set_of (keys_of case new) ≡ set.insert seen.words (comparison_key seen.case x.now)
one_more case old new x i is seen view_is =
    texts_of-permuted (λ m. comparison_key case m.now) old new x
    (subst (λ members. IsPermutation (x ∷ old) members) (sym is) (IsPermutation-insert old i x))
    ∙ ap (λ s. set.insert s.words (comparison_key s.case x.now)) view_is

-- a set to which a word is added that it has
pub contained_already : (case : Case) (old : List (Bor (List ℕ))) (x : Bor (List ℕ)) →
    (i : ℕ) × StandsAt (keys_of case old) (comparison_key case x.now) i →
    (seen : SetView) → view_of_words case old ≡ seen →
    seen.words ≡ set.insert seen.words (comparison_key seen.case x.now)
contained_already case old x at seen view_is =
    let had = contained (comparison_key case x.now) (keys_of case old) at.0 at.1 in
    ap (λ s. s.words) (sym view_is)
    ∙ texts_of-again (λ m. comparison_key case m.now) old (comparison_key case x.now) had
    ∙ ap (λ s. set.insert s.words (comparison_key s.case x.now)) view_is

-- what a search says of a set
pub is_contained : (case : Case) (members : List (Bor (List ℕ))) (w : List ℕ)
    (found : Result ℕ ℕ) → IsFoundAt (keys_of case members) w found →
    is_ok found ≡ set.contains (set_of (keys_of case members)) w
is_contained case members w (Ok i) at = sym (contained w (keys_of case members) i at)
is_contained case members w (Err i) at = sym (not_contained w (keys_of case members) i at)

-- the same of a case, of members and of a word that are these
pub found_here : {case now : Case} {members shown : List (Bor (List ℕ))} {word wanted : List ℕ}
    (found : Result ℕ ℕ) → now ≡ case → shown ≡ members → wanted ≡ word →
    IsFoundAt (keys_of now shown) (comparison_key now wanted) found →
    IsFoundAt (keys_of case members) (comparison_key case word) found
found_here {case} {members = members} {shown} {word} {wanted} found same_case same_members same_word at =
    subst (λ w. IsFoundAt (keys_of case members) (comparison_key case w) found) same_word
    (subst (λ ms. IsFoundAt (keys_of case ms) (comparison_key case wanted) found) same_members
    (subst (λ c. IsFoundAt (keys_of c shown) (comparison_key c wanted) found) same_case at))

-- what each member passes is that the set is within the other
module _ (case : Case) (t : Words) where
  abbrev is_of : Bor (List ℕ) → Bool
  is_of member = set.contains t (comparison_key case member.now)

  all_of : (members : List (Bor (List ℕ))) → list_all is_of members ≡ true → (q : List ℕ) →
      list_any (eq_by_cmp word_cmp q) (keys_of case members) ≡ true → set.contains t q ≡ true
  all_of [] all q one = absurd (cc)
  all_of (m ∷ members) all q one =
      let parts = and_parts (is_of m) (list_all is_of members) all in
      either (eq_by_cmp word_cmp q (comparison_key case m.now)) refl parts.0 (all_of members parts.1 q) one
    where
      either : (b : Bool) → eq_by_cmp word_cmp q (comparison_key case m.now) ≡ b → is_of m ≡ true →
          (list_any (eq_by_cmp word_cmp q) (keys_of case members) ≡ true → set.contains t q ≡ true) →
          (b || list_any (eq_by_cmp word_cmp q) (keys_of case members)) ≡ true →
          set.contains t q ≡ true
      either true same here later one =
          let tie = (Equal-is (word_cmp q (comparison_key case m.now))).0 same in
          ap (set.contains t) (exact_bytes q (comparison_key case m.now) tie) ∙ here
      either false other here later one = later one

  each_of : (members : List (Bor (List ℕ))) → ((q : List ℕ) →
      list_any (eq_by_cmp word_cmp q) (keys_of case members) ≡ true → set.contains t q ≡ true) →
      list_all is_of members ≡ true
  each_of [] each = refl
  each_of (m ∷ members) each =
      let key = comparison_key case m.now in
      let here : (eq_by_cmp word_cmp key key || list_any (eq_by_cmp word_cmp key) (keys_of case members)) ≡ true =
      ap (λ b. b || list_any (eq_by_cmp word_cmp key) (keys_of case members)) (is_itself key) in
      ap (λ b. b && list_all is_of members) (each key here)
      ∙ each_of members
      (λ q one. each q (ap (λ b. eq_by_cmp word_cmp q key || b) one ∙ or_true_right (eq_by_cmp word_cmp q key)))

  pub is_subset_by_members : (members : List (Bor (List ℕ))) →
      list_all is_of members ≡ set.is_subset (set_of (keys_of case members)) t
  is_subset_by_members members =
      let s = set_of (keys_of case members) in
      let among = set.contains-from_list nat_list_cmp_total (keys_of case members) in
      both_ways _ _
      (λ all. set.contains-is_subset nat_list_cmp_total s t (λ q one. all_of members all q (sym (among q) ∙ one)))
      (λ sub. each_of members (λ q one. set.is_subset-contains nat_list_cmp_total s t sub q (among q ∙ one)))

pub where_refused : {Y E P : Type 0} (answer : Result Y E) → P → OnErr answer P
where_refused (Ok y) holds = tt
where_refused (Err e) holds = holds
