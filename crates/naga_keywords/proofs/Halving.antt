-- A search among keys in ascending order, by halving.
--
-- Throughout, ks are the keys, and w is the wanted one.
use Rattle.std.proofs.Common.{◌≡◌, ℕ, zero, suc, Bool, true, false, nat_lt, ◌+◌, ◌-◌, ◌/◌, ◌<◌, ◌≤◌}
use Rattle.std.proofs.Common.{◌^◌, List, [], length, get_or, refl, sym, ap, subst, ◌∙◌, arith}
use Rattle.std.proofs.Math.Nat.{pow-suc}
use Rattle.std.proofs.lemmas.Bool.{ltb-true, ltb-false}
use Rattle.std.specs.Cmp.Lexicographic.{nat_list_cmp_total}
use Rattle.std.specs.List.Sorted.{IsStrictlySortedBy}
use Rattle.std.specs.Ordering.{ordering_reverse}
use Rattle.std.specs.declared.cmp.Ordering.{Ordering}
use Rattle.std.proofs.lemmas.Map.Lookups.{exact_bytes}
use Rattle.std.specs.declared.cmp.Ordering.TheVariants.{Less, Equal, Greater}
use Rattle.std.proofs.lemmas.Map.Keys.{Less-from_sorted, sorted_from_all_adjacent}
use Rattle.naga_keywords.specs.SortedWords.{StandsAt, IsIndexOf, IsWithinDigits, keys_of}
use Rattle.naga_keywords.specs.SortedWords.{comparison_key}
use Rattle.naga_keywords.specs.SortedWords.{word_cmp}
use Rattle.naga_keywords.specs.declared.sorted.Case.{Case}
use Rattle.std.proofs.lemmas.List.{get_or-map, length-map}
use denote.Ref.{Bor}

-- all before `low` come before the wanted one, and all from `high` on after it
pub record IsBetween (ks : List (List ℕ)) (w : List ℕ) (low high : ℕ) : Type 0 where
  pub ascend : low ≤ high
  pub within : high ≤ length ks
  pub before : (i : ℕ) (d : List ℕ) → i < low → word_cmp (get_or ks i d) w ≡ Less
  pub following : (i : ℕ) (d : List ℕ) → high ≤ i → i < length ks →
      word_cmp (get_or ks i d) w ≡ Greater

module _ (ks : List (List ℕ)) (w : List ℕ) where
  pub everywhere : (n : ℕ) → n ≡ length ks → IsBetween ks w 0 n
  everywhere n is = record {
    ascend = omega arith;
    within = omega (arith, is);
    before = λ i d less. absurd (omega (arith, less));
    following = λ i d from below. absurd (omega (arith, from, below, is));
  }

  pub nowhere : (low high : ℕ) → high ≤ low → IsBetween ks w low high → IsIndexOf ks w low
  nowhere low high met b = record {
    within = omega (arith, b.ascend, b.within, met);
    before = b.before;
    following = λ i d from. b.following i d (omega (arith, from, met));
  }

  module _ (up : IsStrictlySortedBy word_cmp ks) (middle : ℕ) (within : middle < length ks) where
    -- what comes before the wanted one has all before it there too
    module _ (d : List ℕ) (is : word_cmp (get_or ks middle d) w ≡ Less) where
      before_middle : (i : ℕ) → i ≤ middle → (b : Bool) → nat_lt i middle ≡ b →
          word_cmp (get_or ks i d) w ≡ Less
      before_middle i le true lt =
          nat_list_cmp_total.trans (get_or ks i d) (get_or ks middle d) w
          (Less-from_sorted word_cmp ks i middle d up (ltb-true i middle lt) within) is
      before_middle i le false not =
          let same : i ≡ middle = omega (arith, le, ltb-false i middle not) in
          ap (λ at. word_cmp (get_or ks at d) w) same ∙ is

    -- what comes after the wanted one has all after it there too
    module _ (d : List ℕ) (is : word_cmp (get_or ks middle d) w ≡ Greater) where
      turned : word_cmp w (get_or ks middle d) ≡ Less
      turned = nat_list_cmp_total.antisymm w (get_or ks middle d) ∙ ap ordering_reverse is

      following_middle : (i : ℕ) → middle ≤ i → i < length ks → (b : Bool) → nat_lt middle i ≡ b →
          word_cmp (get_or ks i d) w ≡ Greater
      following_middle i le end true lt =
          nat_list_cmp_total.antisymm (get_or ks i d) w
          ∙ ap ordering_reverse (nat_list_cmp_total.trans w (get_or ks middle d) (get_or ks i d) turned
          (Less-from_sorted word_cmp ks middle i d up (ltb-true middle i lt) end))
      following_middle i le end false not =
          let same : i ≡ middle = omega (arith, le, ltb-false middle i not) in
          ap (λ at. word_cmp (get_or ks at d) w) same ∙ is

    pub goes_after : (low high : ℕ) → middle < high → IsBetween ks w low high →
        ((d : List ℕ) → word_cmp (get_or ks middle d) w ≡ Less) → IsBetween ks w (middle + 1) high
    goes_after low high lt b is = record {
      ascend = omega (arith, lt);
      within = b.within;
      before = λ i d less. before_middle d (is d) i (omega (arith, less)) (nat_lt i middle) refl;
      following = b.following;
    }

    pub goes_before : (low high : ℕ) → low ≤ middle → IsBetween ks w low high →
        ((d : List ℕ) → word_cmp (get_or ks middle d) w ≡ Greater) → IsBetween ks w low middle
    goes_before low high le b is = record {
      ascend = le;
      within = omega (arith, within);
      before = b.before;
      following = λ i d from end. following_middle d (is d) i from end (nat_lt middle i) refl;
    }

-- where the last comes before the wanted one, all do
pub index_after : (ks : List (List ℕ)) (w : List ℕ) → IsStrictlySortedBy word_cmp ks → (n : ℕ) →
    n ≡ length ks → 0 < n → ((d : List ℕ) → word_cmp (get_or ks (n - 1) d) w ≡ Less) →
    IsIndexOf ks w n
index_after ks w up n is some less =
    let last : n - 1 < length ks = omega (arith, is, some) in
    let all = goes_after ks w up (n - 1) last 0 n (omega (arith, some)) (everywhere ks w n is) less in
    let following_all : n - 1 + 1 ≡ n = omega (arith, some) in
    nowhere ks w n n (omega arith) (subst (λ low. IsBetween ks w low n) following_all all)

-- With so many comparisons made and so many members left, no more are made than the number of
-- members has binary digits.
pub record HasProbesLeft (comparisons left members : ℕ) : Type 0 where
  pub probes : (k : ℕ) → members < 2 ^ k → (j : ℕ) × (comparisons + j ≤ k) × (left < 2 ^ j)

pub at_first : (comparisons members : ℕ) → comparisons ≡ 0 →
    HasProbesLeft comparisons (members - 0) members
at_first c members none =
    record { probes = λ k below. (k, omega (arith, none), omega (arith, below)) }

pub counted : (c d : ℕ) {left members : ℕ} → c ≡ d →
    HasProbesLeft c left members → HasProbesLeft d left members
counted c d {left} {members} is had = subst (λ n. HasProbesLeft n left members) is had

-- a comparison halves what is left
half_left : (comparisons left rest k j : ℕ) → 0 < left → rest + rest ≤ left →
    comparisons + j ≤ k → left < 2 ^ j → (i : ℕ) × ((comparisons + 1) + i ≤ k) × (rest < 2 ^ i)
half_left c left rest k zero some half made below = absurd (omega (arith, some, below))
half_left c left rest k (suc j) some half made below =
    (j, omega (arith, made), omega (arith, half, below, pow-suc 2 j))

pub one_probe : (c left rest members : ℕ) → 0 < left → rest + rest ≤ left →
    HasProbesLeft c left members → HasProbesLeft (c + 1) rest members
one_probe c left rest members some half had = record {
  probes = λ k below.
      let before = had.probes k below in
      half_left c left rest k before.0 some half before.1 before.2;
}

-- the middle of a range, and what is left after and before it
pub middle_below : (low high : ℕ) → low < high → low + (high - low) / 2 < high
middle_below low high some = omega (arith, some)

pub left_after : (low high : ℕ) → low < high →
    let rest = high - (low + (high - low) / 2 + 1) in rest + rest ≤ high - low
left_after low high some = omega (arith, some)

pub left_before : (low high : ℕ) → low < high →
    let rest = low + (high - low) / 2 - low in rest + rest ≤ high - low
left_before low high some = omega (arith, some)

pub some_left : (low high : ℕ) → low < high → 0 < high - low
some_left low high some = omega (arith, some)

pub within_digits : (c left members : ℕ) → HasProbesLeft c left members → IsWithinDigits c members
within_digits c left members had k below =
    let before = had.probes k below in omega (arith, before.1)

-- what stands at an index is compared by the member there
pub key_at : (case : Case) (members : List (Bor (List ℕ))) (i : ℕ) (x : Bor (List ℕ)) →
    i < length members → (d : List ℕ) →
    get_or (keys_of case members) i d ≡ comparison_key case (get_or members i x).now
key_at case members i x within d = get_or-map (λ member. comparison_key case member.now) members i x d within

pub keys_length : (case : Case) (members : List (Bor (List ℕ))) →
    length (keys_of case members) ≡ length members
keys_length case members = length-map members (λ member. comparison_key case member.now)

-- how a member was found to stand to the wanted word is how its key stands to the wanted one
pub order_at : {case now : Case} {wanted w : List ℕ} (members : List (Bor (List ℕ))) (i : ℕ)
    (x : Bor (List ℕ)) (o : Ordering) → i < length members → now ≡ case → w ≡ wanted →
    o ≡ word_cmp (comparison_key now (get_or members i x).now) (comparison_key now w) → (d : List ℕ) →
    word_cmp (get_or (keys_of case members) i d) (comparison_key case wanted) ≡ o
order_at {case} {now} {wanted} {w} members i x o within same_case same_word is d =
    ap (λ key. word_cmp key (comparison_key case wanted)) (key_at case members i x within d)
    ∙ (λ k. word_cmp (comparison_key (sym same_case k) (get_or members i x).now)
    (comparison_key (sym same_case k) (sym same_word k)))
    ∙ sym is

-- and where it was found to be the same, they are one
pub equal_at : {case now : Case} {wanted w : List ℕ} (members : List (Bor (List ℕ))) (i : ℕ)
    (x : Bor (List ℕ)) → i < length members → now ≡ case → w ≡ wanted →
    Equal ≡ word_cmp (comparison_key now (get_or members i x).now) (comparison_key now w) →
    StandsAt (keys_of case members) (comparison_key case wanted) i
equal_at {case} {wanted = wanted} members i x within same_case same_word is = record {
  within = omega (arith, within, keys_length case members);
  is = λ d. exact_bytes (get_or (keys_of case members) i d) (comparison_key case wanted)
      (order_at members i x Equal within same_case same_word is d);
}

-- each of the first so many comes before the next
pub record AscendUpTo (ks : List (List ℕ)) (bound : ℕ) : Type 0 where
  pub each : (i : ℕ) (d : List ℕ) → i + 1 < bound →
      word_cmp (get_or ks i d) (get_or ks (i + 1) d) ≡ Less

pub first_ascends : (ks : List (List ℕ)) (n : ℕ) → n ≤ 1 → AscendUpTo ks n
first_ascends ks n few = record { each = λ i d less. absurd (omega (arith, few, less)) }

pub all_ascend : (ks : List (List ℕ)) (n : ℕ) → length ks ≤ n → AscendUpTo ks n →
    IsStrictlySortedBy word_cmp ks
all_ascend ks n all up =
    sorted_from_all_adjacent nat_list_cmp_total ks []
    (λ i less. up.each i [] (omega (arith, less, all)))

-- one more, where the last comes before it
pub ascends_more : (ks : List (List ℕ)) (n : ℕ) → 0 < n → AscendUpTo ks n →
    ((d : List ℕ) → word_cmp (get_or ks (n - 1) d) (get_or ks n d) ≡ Less) → AscendUpTo ks (n + 1)
ascends_more ks n some up less = record { each = λ i d below. step i d below (nat_lt (i + 1) n) refl }
  where
    step : (i : ℕ) (d : List ℕ) → i + 1 < n + 1 → (b : Bool) → nat_lt (i + 1) n ≡ b →
        word_cmp (get_or ks i d) (get_or ks (i + 1) d) ≡ Less
    step i d below true lt = up.each i d (ltb-true (i + 1) n lt)
    step i d below false not =
        let here : n ≡ i + 1 = omega (arith, below, ltb-false (i + 1) n not) in
        let before : n - 1 ≡ i = omega (arith, here) in
        subst (λ m. word_cmp (get_or ks i d) (get_or ks m d) ≡ Less) here
        (subst (λ m. word_cmp (get_or ks m d) (get_or ks n d) ≡ Less) before (less d))
