-- Uses that pass a test, as those of a share of the operators: what one more changes, that all agree
-- where those of both halves do, and which is the first that does not.
--
-- Throughout, p, q and r are tests, o, v, w and x are uses (os are several), xs, ys and zs are lists,
-- types are a module's types, gs its groups, g and h are among them, by the numbers n and m, i and j are
-- positions in those, a and b positions where uses stand, and share is a share with a remainder in its middle.
use Rattle.std.proofs.Common.{◌≡◌, ◌≢◌, ℕ, zero, suc, ◌+◌, ◌%◌, ◌<◌, ◌≤◌, Bool, true, false, ◌&&◌}
use Rattle.std.proofs.Common.{◌==◌, List, [], ◌∷◌, ◌++◌, length, refl, ap, sym, ◌∙◌, subst, arith}
use Rattle.std.proofs.Common.{Option, Some, None, slice_get, ◌⊎◌, inl, inr, append_assoc, leb, ltb}
use Rattle.std.proofs.Common.{cond}
use Rattle.std.specs.Prelude.{if◌then◌else◌}
use Rattle.std.specs.List.{filter, flat_map, list_all}
use Rattle.std.specs.Option.{IfSome, is_none, option_map_or, option_to_list}
use Rattle.std.proofs.lemmas.Bool.{and_from, and_parts, or_cases, or_parts, false≢true, leb-true}
use Rattle.std.proofs.lemmas.Bool.{leb-false, le-leb, ltb-true, ltb-false, eqb-true, eqb-false}
use Rattle.std.proofs.lemmas.Bool.{true_from_ne_false, false_from_ne_true}
use Rattle.std.proofs.lemmas.List.Elements.{filter-append}
use Rattle.std.proofs.lemmas.Option.{same_Some, slice_get_within}
use Rattle.naga_ir.specs.declared.types.Type_.{Type_}
use Rattle.module_semantics.specs.acceptance.AgreeingOperators.{Group, uses_of}
use Rattle.module_semantics.specs.acceptance.Operations.{Operation, agrees, all_agree}
use Rattle.naga_acceptance.specs.declared.agreeing.Share.{Share}
use Rattle.naga_acceptance.specs.declared.agreeing.TheConstants.{REMAINDERS}
use Rattle.naga_acceptance.specs.declared.agreeing.UsePosition.{UsePosition}
use Rattle.naga_acceptance.specs.Uses.{joined_below, use_in, group_uses, earlier_uses, first_answer}
use Rattle.naga_acceptance.specs.Uses.{is_same_operator, hash_of, has_hash, is_in, share_uses}
use Rattle.naga_acceptance.specs.Uses.{DisagreesFirst, IsFirstDisagreement, stands_before, earlier}
use Rattle.naga_acceptance.proofs.Agreement.{agree_after, first_by, front_fails, other_agrees}
use Rattle.naga_acceptance.proofs.EarlierUses.{use_more}
use Rattle.naga_acceptance.proofs.Groups.{all_groups, group_end, joined_front}
use Rattle.naga_acceptance.proofs.Remembering.{other_hash, same_hash}

-- ---- uses that pass a test

-- all do
pub all_taken : (p : Operation → Bool) → ((v : Operation) → p v ≡ true) → (os : List Operation) →
    filter p os ≡ os
all_taken p all [] = refl
all_taken p all (x ∷ os) =
    ap (λ b. cond b (x ∷ filter p os) (filter p os)) (all x) ∙ ap (λ l. x ∷ l) (all_taken p all os)

-- one more does
one_taken : (p : Operation → Bool) (os : List Operation) (v : Operation) → p v ≡ true →
    filter p (os ++ v ∷ []) ≡ filter p os ++ v ∷ []
one_taken p os v e =
    filter-append p os (v ∷ []) ∙ ap (λ b. filter p os ++ cond b (v ∷ []) []) e

-- each of those that do passes another test
pub filtered_at : (test p : Operation → Bool) (os : List Operation) → list_all test (filter p os) ≡ true →
    (i : ℕ) (v : Operation) → slice_get os i ≡ Some v → p v ≡ true → test v ≡ true
filtered_at test p [] all i v here passes = absurd cc
filtered_at test p (x ∷ os) all zero v here passes =
    let one : x ≡ v = cc
    in let taken : p x ≡ true = ap p one ∙ passes
    in let both : (test x && list_all test (filter p os)) ≡ true =
    sym (ap (λ b. list_all test (cond b (x ∷ filter p os) (filter p os))) taken) ∙ all
    in ap test (sym one) ∙ (and_parts (test x) (list_all test (filter p os)) both).0
filtered_at test p (x ∷ os) all (suc i) v here passes =
    filtered_at test p os (by_first (p x) refl) i v here passes
  where
    by_first : (b : Bool) → p x ≡ b → list_all test (filter p os) ≡ true
    by_first true e =
        (and_parts (test x) (list_all test (filter p os))
        (sym (ap (λ b. list_all test (cond b (x ∷ filter p os) (filter p os))) e) ∙ all)).1
    by_first false e = sym (ap (λ b. list_all test (cond b (x ∷ filter p os) (filter p os))) e) ∙ all

-- and so all of them, where each does
pub filtered_pass : (test p : Operation → Bool) (os : List Operation)
    → ((i : ℕ) (v : Operation) → slice_get os i ≡ Some v → p v ≡ true → test v ≡ true)
    → list_all test (filter p os) ≡ true
filtered_pass test p [] each = refl
filtered_pass test p (x ∷ os) each =
    by_first (filtered_pass test p os (λ i v here. each (suc i) v here)) (p x) refl
  where
    by_first : list_all test (filter p os) ≡ true → (b : Bool) → p x ≡ b →
        list_all test (filter p (x ∷ os)) ≡ true
    by_first rest true e =
        ap (λ b. list_all test (cond b (x ∷ filter p os) (filter p os))) e
        ∙ and_from (test x) (list_all test (filter p os)) (each 0 x refl e) rest
    by_first rest false e = ap (λ b. list_all test (cond b (x ∷ filter p os) (filter p os))) e ∙ rest

-- the first passes: it agrees with all after it that pass
first_agrees : (p : Operation → Bool) (x : Operation) (os : List Operation) →
    all_agree (filter p (x ∷ os)) ≡ true → p x ≡ true → list_all (agrees x) (filter p os) ≡ true
first_agrees p x os all e =
    (and_parts (list_all (agrees x) (filter p os)) (all_agree (filter p os))
    (sym (ap (λ b. all_agree (cond b (x ∷ filter p os) (filter p os))) e) ∙ all)).0

-- and those agree
tail_agrees : (p : Operation → Bool) (x : Operation) (os : List Operation) →
    all_agree (filter p (x ∷ os)) ≡ true → all_agree (filter p os) ≡ true
tail_agrees p x os all = by_first (p x) refl
  where
    by_first : (b : Bool) → p x ≡ b → all_agree (filter p os) ≡ true
    by_first true e =
        (and_parts (list_all (agrees x) (filter p os)) (all_agree (filter p os))
        (sym (ap (λ b. all_agree (cond b (x ∷ filter p os) (filter p os))) e) ∙ all)).1
    by_first false e = sym (ap (λ b. all_agree (cond b (x ∷ filter p os) (filter p os))) e) ∙ all

-- ---- two tests in place of one

-- What passes r passes p or q, and what passes p agrees with what passes q.
pub record IsCovered (r p q : Operation → Bool) : Type 0 where
  pub either : (v : Operation) → r v ≡ true → (p v ≡ true) ⊎ (q v ≡ true)
  pub first : (v w : Operation) → p v ≡ true → q w ≡ true → agrees v w ≡ true
  pub second : (v w : Operation) → q v ≡ true → p w ≡ true → agrees v w ≡ true

-- So all that pass it agree where those do that pass either.
pub covered_agree : (r p q : Operation → Bool) → IsCovered r p q → (os : List Operation) →
    all_agree (filter p os) ≡ true → all_agree (filter q os) ≡ true → all_agree (filter r os) ≡ true
covered_agree r p q covered [] one two = refl
covered_agree r p q covered (x ∷ os) one two =
    by_first (covered_agree r p q covered os (tail_agrees p x os one) (tail_agrees q x os two)) (r x) refl
  where
    following_one : p x ≡ true → (v : Operation) (i : ℕ) → slice_get os i ≡ Some v →
        (p v ≡ true) ⊎ (q v ≡ true) → agrees x v ≡ true
    following_one e v i here (inl own) = filtered_at (agrees x) p os (first_agrees p x os one e) i v here own
    following_one e v i here (inr other) = covered.first x v e other

    after_two : q x ≡ true → (v : Operation) (i : ℕ) → slice_get os i ≡ Some v →
        (p v ≡ true) ⊎ (q v ≡ true) → agrees x v ≡ true
    after_two e v i here (inl other) = covered.second x v e other
    after_two e v i here (inr own) = filtered_at (agrees x) q os (first_agrees q x os two e) i v here own

    following : (p x ≡ true) ⊎ (q x ≡ true) → list_all (agrees x) (filter r os) ≡ true
    following (inl e) =
        filtered_pass (agrees x) r os (λ i v here passes. following_one e v i here (covered.either v passes))
    following (inr e) =
        filtered_pass (agrees x) r os (λ i v here passes. after_two e v i here (covered.either v passes))

    by_first : all_agree (filter r os) ≡ true → (b : Bool) → r x ≡ b →
        all_agree (filter r (x ∷ os)) ≡ true
    by_first rest true e =
        ap (λ b. all_agree (cond b (x ∷ filter r os) (filter r os))) e
        ∙ and_from (list_all (agrees x) (filter r os)) (all_agree (filter r os))
        (following (covered.either x e)) rest
    by_first rest false e = ap (λ b. all_agree (cond b (x ∷ filter r os) (filter r os))) e ∙ rest

-- nothing passes
none_taken : (os : List Operation) → all_agree (filter (λ _. false) os) ≡ true
none_taken [] = refl
none_taken (x ∷ os) = none_taken os

-- what passes p passes r: those agree where these do
pub fewer_agree : (r p : Operation → Bool) → ((v : Operation) → p v ≡ true → r v ≡ true) →
    (os : List Operation) → all_agree (filter r os) ≡ true → all_agree (filter p os) ≡ true
fewer_agree r p within os all =
    covered_agree p r (λ _. false) (record {
      either = λ v passes. inl (within v passes);
      first = λ v w _ none. absurd (false≢true none);
      second = λ v w none _. absurd (false≢true none);
    }) os all (none_taken os)

-- and where those don't, these don't
pub more_fail : (r p : Operation → Bool) → ((v : Operation) → p v ≡ true → r v ≡ true) →
    (os : List Operation) → all_agree (filter p os) ≡ false → all_agree (filter r os) ≡ false
more_fail r p within os fails =
    false_from_ne_true (all_agree (filter r os))
    (λ all. false≢true (sym fails ∙ fewer_agree r p within os all))

-- ---- the first use of an operator

-- it is the same among those that pass, where the test passes each of its operator
pub first_taken : (p : Operation → Bool) (v : Operation)
    → ((w : Operation) → is_same_operator w v ≡ true → p w ≡ true) → (os : List Operation)
    → first_answer os v ≡ first_answer (filter p os) v
first_taken p v own [] = refl
first_taken p v own (x ∷ os) =
    by_first (first_taken p v own os) (is_same_operator x v) refl (p x) refl
  where
    by_first : first_answer os v ≡ first_answer (filter p os) v → (same : Bool) →
        is_same_operator x v ≡ same → (b : Bool) → p x ≡ b →
        first_answer (x ∷ os) v ≡ first_answer (filter p (x ∷ os)) v
    by_first rest true e true taken =
        first_by x os v true e
        ∙ sym (ap (λ b. first_answer (cond b (x ∷ filter p os) (filter p os)) v) taken
        ∙ first_by x (filter p os) v true e)
    by_first rest true e false taken = absurd (false≢true (sym taken ∙ own x e))
    by_first rest false e true taken =
        first_by x os v false e
        ∙ rest
        ∙ sym (ap (λ b. first_answer (cond b (x ∷ filter p os) (filter p os)) v) taken
        ∙ first_by x (filter p os) v false e)
    by_first rest false e false taken =
        first_by x os v false e
        ∙ rest
        ∙ sym (ap (λ b. first_answer (cond b (x ∷ filter p os) (filter p os)) v) taken)

-- ---- uses in front of others

-- the first list stands in front in the second
abbrev pub StandsInFront : {X : Type 0} → List X → List X → Type 0
StandsInFront {X} xs ys = (rest : List X) × (ys ≡ xs ++ rest)

-- so does one that stands in front in what stands in front
front_through : {X : Type 0} (xs ys zs : List X) → StandsInFront xs ys → StandsInFront ys zs →
    StandsInFront xs zs
front_through xs ys zs one two =
    (one.0 ++ two.0, two.1 ∙ ap (λ l. l ++ two.0) one.1 ∙ append_assoc xs one.0 two.0)

-- after the same list
front_after : {X : Type 0} (xs ys zs : List X) → StandsInFront ys zs →
    StandsInFront (xs ++ ys) (xs ++ zs)
front_after xs ys zs front =
    (front.0, ap (λ l. xs ++ l) front.1 ∙ sym (append_assoc xs ys front.0))

-- where they don't agree, more don't
pub more_after_fail : (p : Operation → Bool) (xs ys : List Operation) → StandsInFront xs ys →
    all_agree (filter p xs) ≡ false → all_agree (filter p ys) ≡ false
more_after_fail p xs ys front fails =
    ap (λ l. all_agree (filter p l)) front.1
    ∙ ap all_agree (filter-append p xs front.0)
    ∙ front_fails (filter p xs) (filter p front.0) fails

-- so where more agree, they do
pub front_agrees : (p : Operation → Bool) (xs ys : List Operation) → StandsInFront xs ys →
    all_agree (filter p ys) ≡ true → all_agree (filter p xs) ≡ true
front_agrees p xs ys front all =
    true_from_ne_false (all_agree (filter p xs))
    (λ fails. false≢true (sym (more_after_fail p xs ys front fails) ∙ all))

module _ (types : List Type_) (gs : List Group) where
  -- in one group
  front_in_group : (n : ℕ) (g : Group) (i j : ℕ) → i ≤ j →
      StandsInFront (earlier_uses types gs n g i) (earlier_uses types gs n g j)
  front_in_group n g i j within =
      front_after (group_uses types gs n)
      (joined_below (λ k. option_to_list (use_in types g k)) i)
      (joined_below (λ k. option_to_list (use_in types g k)) j)
      (joined_front (λ k. option_to_list (use_in types g k)) i j within)

  -- up to the next group
  pub front_of_group : (n : ℕ) (g : Group) (i : ℕ) → slice_get gs n ≡ Some g → i ≤ length g.expressions →
      StandsInFront (earlier_uses types gs n g i) (group_uses types gs (suc n))
  front_of_group n g i here within =
      subst (λ l. StandsInFront (earlier_uses types gs n g i) l) (group_end types gs n g here)
      (front_in_group n g i (length g.expressions) within)

  -- up to any group after
  pub front_of_groups : (n m : ℕ) (g : Group) (i : ℕ) → slice_get gs n ≡ Some g →
      i ≤ length g.expressions → n < m →
      StandsInFront (earlier_uses types gs n g i) (group_uses types gs m)
  front_of_groups n m g i here within before =
      front_through (earlier_uses types gs n g i) (group_uses types gs (suc n)) (group_uses types gs m)
      (front_of_group n g i here within)
      (joined_front (λ k. option_map_or (uses_of types) (slice_get gs k) []) (suc n) m before)

  -- in any group after
  front_of_later : (n m : ℕ) (g h : Group) (i j : ℕ) → slice_get gs n ≡ Some g →
      i ≤ length g.expressions → n < m →
      StandsInFront (earlier_uses types gs n g i) (earlier_uses types gs m h j)
  front_of_later n m g h i j here within before =
      front_through (earlier_uses types gs n g i) (group_uses types gs m) (earlier_uses types gs m h j)
      (front_of_groups n m g i here within before)
      (joined_below (λ k. option_to_list (use_in types h k)) j, refl)

  -- before a position that does not stand before this one
  front_of_use : (a b : UsePosition) (g h : Group) → slice_get gs a.group ≡ Some g →
      slice_get gs b.group ≡ Some h → a.index ≤ length g.expressions →
      (a.group < b.group) ⊎ ((a.group ≡ b.group) × (a.index ≤ b.index)) →
      StandsInFront (earlier_uses types gs a.group g a.index) (earlier_uses types gs b.group h b.index)
  front_of_use a b g h here there within (inl before) =
      front_of_later a.group b.group g h a.index b.index here within before
  front_of_use a b g h here there within (inr beside) =
      let same : g ≡ h = same_Some g h (sym here ∙ ap (slice_get gs) beside.0 ∙ there)
      in let front = earlier_uses types gs a.group g a.index
      in subst (λ k. StandsInFront front (earlier_uses types gs k h b.index)) beside.0
      (subst (λ k. StandsInFront front (earlier_uses types gs a.group k b.index)) same
      (front_in_group a.group g a.index b.index beside.1))

  -- ---- the first use that does not agree

  -- it is so among more uses, where the others agree as far as it
  index_among_more : (r p q : Operation → Bool) → IsCovered r p q →
      ((v : Operation) → p v ≡ true → r v ≡ true) → (a : UsePosition)
      → (fails : DisagreesFirst types gs p a.group a.index)
      → all_agree (filter q (earlier_uses types gs a.group fails.0 a.index)) ≡ true
      → DisagreesFirst types gs r a.group a.index
  index_among_more r p q covered within a fails other = (
    fails.0,
    fails.1,
    fails.2,
    covered_agree r p q covered (earlier_uses types gs a.group fails.0 a.index) fails.3 other,
    more_fail r p within (earlier_uses types gs a.group fails.0 (suc a.index)) fails.4,
  )

  -- what two tests tell of a third is told by the earlier of their positions
  pub first_of_both : (r p q : Operation → Bool) → IsCovered r p q → IsCovered r q p
      → ((v : Operation) → p v ≡ true → r v ≡ true) → ((v : Operation) → q v ≡ true → r v ≡ true)
      → (a b : Option UsePosition) → IsFirstDisagreement types gs p a → IsFirstDisagreement types gs q b
      → IsFirstDisagreement types gs r (earlier a b)
  first_of_both r p q one two in_p in_q None None none_p none_q =
      covered_agree r p q one (group_uses types gs (length gs)) none_p none_q
  first_of_both r p q one two in_p in_q None (Some b) none_p fails_q =
      index_among_more r q p two in_q b fails_q
      (front_agrees p (earlier_uses types gs b.group fails_q.0 b.index) (group_uses types gs (length gs))
      (front_of_groups b.group (length gs) fails_q.0 b.index fails_q.1 (omega (arith, fails_q.2))
      (slice_get_within gs b.group fails_q.0 fails_q.1)) none_p)
  first_of_both r p q one two in_p in_q (Some a) None fails_p none_q =
      index_among_more r p q one in_p a fails_p
      (front_agrees q (earlier_uses types gs a.group fails_p.0 a.index) (group_uses types gs (length gs))
      (front_of_groups a.group (length gs) fails_p.0 a.index fails_p.1 (omega (arith, fails_p.2))
      (slice_get_within gs a.group fails_p.0 fails_p.1)) none_q)
  first_of_both r p q one two in_p in_q (Some a) (Some b) fails_p fails_q =
      by_order (stands_before a b) refl
    where
      -- the order of the positions, by the test of it
      before : stands_before a b ≡ true →
          (a.group < b.group) ⊎ ((a.group ≡ b.group) × (a.index ≤ b.index))
      before e = by_part (or_cases (ltb a.group b.group) ((a.group == b.group) && ltb a.index b.index) e)
        where
          by_part : (ltb a.group b.group ≡ true)
              ⊎ (((a.group == b.group) && ltb a.index b.index) ≡ true) →
              (a.group < b.group) ⊎ ((a.group ≡ b.group) × (a.index ≤ b.index))
          by_part (inl less) = inl (ltb-true a.group b.group less)
          by_part (inr beside) =
              let parts = and_parts (a.group == b.group) (ltb a.index b.index) beside
              in inr (eqb-true a.group b.group parts.0, omega (arith, ltb-true a.index b.index parts.1))

      -- and where that fails
      following : stands_before a b ≡ false →
          (b.group < a.group) ⊎ ((b.group ≡ a.group) × (b.index ≤ a.index))
      following e = by_group (a.group == b.group) refl
        where
          parts : (ltb a.group b.group ≡ false)
              × (((a.group == b.group) && ltb a.index b.index) ≡ false)
          parts = or_parts (ltb a.group b.group) ((a.group == b.group) && ltb a.index b.index) e

          by_group : (same : Bool) → (a.group == b.group) ≡ same →
              (b.group < a.group) ⊎ ((b.group ≡ a.group) × (b.index ≤ a.index))
          by_group true same =
              inr (
                sym (eqb-true a.group b.group same),
                ltb-false a.index b.index
                    (sym (ap (λ t. t && ltb a.index b.index) same) ∙ parts.1),
              )
          by_group false other =
              inl (omega (arith, eqb-false a.group b.group other, ltb-false a.group b.group parts.0))

      by_order : (t : Bool) → stands_before a b ≡ t →
          IsFirstDisagreement types gs r (if stands_before a b then Some a else Some b)
      by_order true e =
          subst (λ t. IsFirstDisagreement types gs r (if t then Some a else Some b)) (sym e)
          (index_among_more r p q one in_p a fails_p
          (front_agrees q (earlier_uses types gs a.group fails_p.0 a.index)
          (earlier_uses types gs b.group fails_q.0 b.index)
          (front_of_use a b fails_p.0 fails_q.0 fails_p.1 fails_q.1 (omega (arith, fails_p.2)) (before e))
          fails_q.3))
      by_order false e =
          subst (λ t. IsFirstDisagreement types gs r (if t then Some a else Some b)) (sym e)
          (index_among_more r q p two in_q b fails_q
          (front_agrees p (earlier_uses types gs b.group fails_q.0 b.index)
          (earlier_uses types gs a.group fails_p.0 a.index)
          (front_of_use b a fails_q.0 fails_p.0 fails_q.1 fails_p.1 (omega (arith, fails_q.2)) (following e))
          fails_p.3))

-- ---- has_common of the operators

-- uses of one operator are of one share
pub same_share : (share : Share) (v w : Operation) → is_same_operator w v ≡ true → is_in share v ≡ true →
    is_in share w ≡ true
same_share share v w same own = ap (has_hash share) (same_hash w v same) ∙ own

-- the remainder of a use of a share
in_limits : (share : Share) (v : Operation) → is_in share v ≡ true →
    (share.first ≤ hash_of v % REMAINDERS) × (hash_of v % REMAINDERS ≤ share.last)
in_limits share v own =
    let parts = and_parts (leb share.first (hash_of v % REMAINDERS)) (leb (hash_of v % REMAINDERS) share.last) own
    in (
      leb-true share.first (hash_of v % REMAINDERS) parts.0,
      leb-true (hash_of v % REMAINDERS) share.last parts.1,
    )

-- a use with such a remainder is of it
from_limits : (share : Share) (v : Operation) → share.first ≤ hash_of v % REMAINDERS →
    hash_of v % REMAINDERS ≤ share.last → is_in share v ≡ true
from_limits share v above below =
    and_from (leb share.first (hash_of v % REMAINDERS)) (leb (hash_of v % REMAINDERS) share.last)
    (le-leb share.first (hash_of v % REMAINDERS) above)
    (le-leb (hash_of v % REMAINDERS) share.last below)

-- all operators are of the share with all remainders
pub all_in : (share : Share) → share.first ≡ 0 → share.last + 1 ≡ REMAINDERS → (v : Operation) →
    is_in share v ≡ true
all_in share from to v = from_limits share v (omega (arith, from)) (omega (arith, to))

module _ (share : Share) (middle : ℕ) (above : share.first ≤ middle) (below : middle < share.last) where
  -- the half up to the middle
  abbrev pub front_share : Share
  front_share = record { first = share.first; last = middle }

  -- the half after it
  abbrev pub back_share : Share
  back_share = record { first = middle + 1; last = share.last }

  -- what is in it is in the share
  front_in : (v : Operation) → is_in front_share v ≡ true → is_in share v ≡ true
  front_in v own =
      let bounds = in_limits front_share v own
      in from_limits share v bounds.0 (omega (arith, bounds.1, below))

  -- and so what is in the other
  back_in : (v : Operation) → is_in back_share v ≡ true → is_in share v ≡ true
  back_in v own =
      let bounds = in_limits back_share v own
      in from_limits share v (omega (arith, bounds.0, above)) bounds.1

  -- uses of different halves are of different operators
  halves_apart : (v w : Operation) → is_in front_share v ≡ true → is_in back_share w ≡ true →
      hash_of v ≢ hash_of w
  halves_apart v w front back same =
      let one = in_limits front_share v front
      in let two = in_limits back_share w back
      in let remainders : hash_of v % REMAINDERS ≡ hash_of w % REMAINDERS = ap (λ k. k % REMAINDERS) same
      in omega (arith, one.1, two.0, remainders)

  -- so that they agree
  front_agrees_back : (v w : Operation) → is_in front_share v ≡ true → is_in back_share w ≡ true →
      agrees v w ≡ true
  front_agrees_back v w front back = other_agrees v w (other_hash v w (halves_apart v w front back))

  -- either way round
  back_agrees_front : (v w : Operation) → is_in back_share v ≡ true → is_in front_share w ≡ true →
      agrees v w ≡ true
  back_agrees_front v w back front =
      other_agrees v w (other_hash v w (λ same. halves_apart w v front back (sym same)))

  -- each use of the share is of a half
  either_half : (v : Operation) → is_in share v ≡ true →
      (is_in front_share v ≡ true) ⊎ (is_in back_share v ≡ true)
  either_half v own = by_middle (leb (hash_of v % REMAINDERS) middle) refl
    where
      by_middle : (b : Bool) → leb (hash_of v % REMAINDERS) middle ≡ b →
          (is_in front_share v ≡ true) ⊎ (is_in back_share v ≡ true)
      by_middle true e =
          inl (from_limits front_share v (in_limits share v own).0 (leb-true (hash_of v % REMAINDERS) middle e))
      by_middle false e =
          let following = leb-false (hash_of v % REMAINDERS) middle e
          in inr (from_limits back_share v (omega (arith, following)) (in_limits share v own).1)

  -- named the other way round
  swapped : (v : Operation) → is_in share v ≡ true →
      (is_in back_share v ≡ true) ⊎ (is_in front_share v ≡ true)
  swapped v own = by_half (either_half v own)
    where
      by_half : (is_in front_share v ≡ true) ⊎ (is_in back_share v ≡ true) →
          (is_in back_share v ≡ true) ⊎ (is_in front_share v ≡ true)
      by_half (inl front) = inr front
      by_half (inr back) = inl back

  -- the first use of either half that does not agree is the first of the share
  pub first_of_halves : (types : List Type_) (gs : List Group) (a b : Option UsePosition) →
      IsFirstDisagreement types gs (is_in front_share) a →
      IsFirstDisagreement types gs (is_in back_share) b →
      IsFirstDisagreement types gs (is_in share) (earlier a b)
  first_of_halves types gs a b front back =
      first_of_both types gs (is_in share) (is_in front_share) (is_in back_share)
      (record { either = either_half; first = front_agrees_back; second = back_agrees_front })
      (record { either = swapped; first = back_agrees_front; second = front_agrees_back })
      front_in back_in a b front back

-- ---- one expression further

module _ (types : List Type_) (gs : List Group) (share : Share) (number : ℕ) (g : Group) (index : ℕ) where
  -- it is a use of the share
  pub part_use_more : (v : Operation) → use_in types g index ≡ Some v → is_in share v ≡ true →
      share_uses share (earlier_uses types gs number g (suc index)) ≡
      share_uses share (earlier_uses types gs number g index) ++ v ∷ []
  part_use_more v here own =
      ap (share_uses share) (use_more types gs number g index v here)
      ∙ one_taken (is_in share) (earlier_uses types gs number g index) v own

  -- which then has to agree with those of the share before it, which agree
  pub one_more_agrees : (v : Operation) → use_in types g index ≡ Some v → is_in share v ≡ true →
      all_agree (share_uses share (earlier_uses types gs number g index)) ≡ true →
      all_agree (share_uses share (earlier_uses types gs number g (suc index))) ≡
      list_all (λ o. agrees o v) (share_uses share (earlier_uses types gs number g index))
  one_more_agrees v here own agree =
      let before = share_uses share (earlier_uses types gs number g index)
      in ap all_agree (part_use_more v here own)
      ∙ agree_after before v
      ∙ ap (λ b. b && list_all (λ o. agrees o v) before) agree

-- ---- all uses of a module

module _ (types : List Type_) (gs : List Group) (share : Share) (all : (v : Operation) → is_in share v ≡ true) where
  -- all are of the share
  all_uses_of : (os : List Operation) → all_agree (share_uses share os) ≡ all_agree os
  all_uses_of os = ap all_agree (all_taken (is_in share) all os)

  -- they are those of all groups
  whole : all_agree (share_uses share (group_uses types gs (length gs))) ≡ all_agree (flat_map (uses_of types) gs)
  whole = all_uses_of (group_uses types gs (length gs)) ∙ ap all_agree (all_groups types gs)

  -- they agree where no use disagrees first
  pub all_or_first : (found : Option UsePosition) → IsFirstDisagreement types gs (is_in share) found →
      is_none found ≡ all_agree (flat_map (uses_of types) gs)
  all_or_first None agree = sym (sym whole ∙ agree)
  all_or_first (Some position) fails =
      let within = slice_get_within gs position.group fails.0 fails.1
      in let front =
      front_of_groups types gs position.group (length gs) fails.0 (suc position.index) fails.1 fails.2 within
      in sym (sym whole
      ∙ more_after_fail (is_in share) (earlier_uses types gs position.group fails.0 (suc position.index))
      (group_uses types gs (length gs)) front fails.4)

  -- and those before that one do
  pub agree_before : (found : Option UsePosition) → IsFirstDisagreement types gs (is_in share) found →
      IfSome found (λ position. (g : Group) × (slice_get gs position.group ≡ Some g)
      × (all_agree (earlier_uses types gs position.group g position.index) ≡ true)
      × (all_agree (earlier_uses types gs position.group g (suc position.index)) ≡ false))
  agree_before None agree = tt
  agree_before (Some position) fails = (
    fails.0,
    fails.1,
    sym (all_uses_of (earlier_uses types gs position.group fails.0 position.index)) ∙ fails.3,
    sym (all_uses_of (earlier_uses types gs position.group fails.0 (suc position.index))) ∙ fails.4,
  )
