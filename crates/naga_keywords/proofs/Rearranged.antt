-- Lists of words in the order of their bytes.
use Rattle.std.proofs.Common.{◌≡◌, ℕ, Bool, true, false, List, [], ◌∷◌, cond}
use Rattle.std.proofs.Common.{sym, ◌∙◌, subst}
use Rattle.std.specs.Cmp.Lexicographic.{nat_list_cmp_total}
use Rattle.std.specs.FinSet as set
use Rattle.std.specs.List.Sorted.{IsPermutation, IsStrictlySortedBy}
use Rattle.std.specs.Ordering.{eq_by_cmp, is_lt}
use Rattle.std.specs.declared.cmp.Ordering.{Ordering}
use Rattle.std.specs.declared.cmp.Ordering.TheVariants.{Less, Equal, Greater}
use Rattle.std.proofs.lemmas.Bool.{and_parts}
use Rattle.std.proofs.lemmas.Map.Keys.{sorted_from_all_adjacent}
use Rattle.std.proofs.Common.{zero, suc, ◌+◌, ◌<◌, ◌&&◌, length, get_or, refl, arith}
use Rattle.std.proofs.lemmas.List.Sorted.{IsPermutation-cons, IsPermutation-refl}
use Rattle.std.proofs.lemmas.List.Sorted.{IsPermutation-trans, IsPermutation-middle}
use Rattle.std.proofs.lemmas.List.Sorted.{list_any-IsPermutation}
use Rattle.naga_keywords.specs.SortedWords.{word_cmp}
use Rattle.naga_keywords.specs.Words.{alike_words}

-- the words with one more, in front of the first that it is below
abbrev put : List ℕ → List (List ℕ) → List (List ℕ)
put w [] = w ∷ []
put w (k ∷ ks) = cond (is_lt (word_cmp w k)) (w ∷ k ∷ ks) (k ∷ put w ks)

-- the words in the order of their bytes
abbrev pub in_order : List (List ℕ) → List (List ℕ)
in_order [] = []
in_order (k ∷ ks) = put k (in_order ks)

put_rearranges : (w : List ℕ) (ks : List (List ℕ)) → IsPermutation (w ∷ ks) (put w ks)
put_rearranges w [] = IsPermutation-refl (w ∷ [])
put_rearranges w (k ∷ ks) = by_test (is_lt (word_cmp w k)) (put_rearranges w ks)
  where
    by_test : (b : Bool) → IsPermutation (w ∷ ks) (put w ks) →
        IsPermutation (w ∷ k ∷ ks) (cond b (w ∷ k ∷ ks) (k ∷ put w ks))
    by_test true put_here = IsPermutation-refl (w ∷ k ∷ ks)
    by_test false put_here =
        IsPermutation-trans (w ∷ k ∷ ks) (k ∷ w ∷ ks) (k ∷ put w ks)
        (IsPermutation-middle (w ∷ []) k ks) (IsPermutation-cons k (w ∷ ks) (put w ks) put_here)

pub in_order_rearranges : (ks : List (List ℕ)) → IsPermutation ks (in_order ks)
in_order_rearranges [] = IsPermutation-refl []
in_order_rearranges (k ∷ ks) =
    IsPermutation-trans (k ∷ ks) (k ∷ in_order ks) (put k (in_order ks))
    (IsPermutation-cons k ks (in_order ks) (in_order_rearranges ks)) (put_rearranges k (in_order ks))

-- what is this list in the order of its bytes is a rearrangement of it
pub rearranged : (ks ls : List (List ℕ)) → in_order ks ≡ ls → IsPermutation ks ls
rearranged ks ls is = subst (IsPermutation ks) is (in_order_rearranges ks)

-- rearranged words make the same set
pub same_set : (ks ls : List (List ℕ)) → IsPermutation ks ls →
    set.from_list {R = word_cmp} ls ≡ set.from_list ks
same_set ks ls moved =
    alike_words (set.from_list ls) (set.from_list ks) (λ q.
    set.contains-from_list nat_list_cmp_total ls q
    ∙ sym (list_any-IsPermutation (eq_by_cmp word_cmp q) ks ls moved)
    ∙ sym (set.contains-from_list nat_list_cmp_total ks q))

-- Does each word come before the next?
abbrev pub do_ascend : List (List ℕ) → Bool
do_ascend [] = true
do_ascend (k ∷ []) = true
do_ascend (k ∷ l ∷ ks) = is_lt (word_cmp k l) && do_ascend (l ∷ ks)

less_from_test : (o : Ordering) → is_lt o ≡ true → o ≡ Less
less_from_test Less is = refl
less_from_test Equal is = absurd (cc)
less_from_test Greater is = absurd (cc)

each_ascends : (ks : List (List ℕ)) → do_ascend ks ≡ true → (i : ℕ) → i + 1 < length ks →
    word_cmp (get_or ks i []) (get_or ks (i + 1) []) ≡ Less
each_ascends [] up i less = absurd (omega (arith, less))
each_ascends (k ∷ []) up i less = absurd (omega (arith, less))
each_ascends (k ∷ l ∷ ks) up zero less =
    less_from_test (word_cmp k l) (and_parts (is_lt (word_cmp k l)) (do_ascend (l ∷ ks)) up).0
each_ascends (k ∷ l ∷ ks) up (suc i) less =
    let rest = (and_parts (is_lt (word_cmp k l)) (do_ascend (l ∷ ks)) up).1 in
    let next : suc (i + 1) ≡ suc i + 1 = omega arith in
    subst (λ m. word_cmp (get_or (l ∷ ks) i []) (get_or (k ∷ l ∷ ks) m []) ≡ Less) next
    (each_ascends (l ∷ ks) rest i (omega (arith, less)))

pub ascending : (ks : List (List ℕ)) → do_ascend ks ≡ true → IsStrictlySortedBy word_cmp ks
ascending ks up = sorted_from_all_adjacent nat_list_cmp_total ks [] (each_ascends ks up)
