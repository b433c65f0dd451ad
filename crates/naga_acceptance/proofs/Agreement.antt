-- Uses any two of which agree: what one more changes, and what the first of its operator tells.
--
-- Throughout, o, v, w and x are uses, os, xs and ys are several (vs too, or words), i and j are positions
-- among them, and a, b, c and d are tests.
use Rattle.std.proofs.Common.{◌≡◌, ℕ, zero, suc, Bool, true, false, ◌&&◌, List, [], ◌∷◌, ◌++◌}
use Rattle.std.proofs.Common.{refl, ap, sym, ◌∙◌, Some, slice_get}
use Rattle.std.specs.Prelude.{if◌then◌else◌, unwrap_or}
use Rattle.std.specs.List.{list_all}
use Rattle.std.specs.Option.{is_some}
use Rattle.std.specs.Str.{bytes_eq}
use Rattle.std.proofs.lemmas.Bool.{and_parts}
use Rattle.std.proofs.lemmas.List.Folds.{list_all-append}
use Rattle.std.proofs.lemmas.Slice.Eq.{bytes_eq-Decides}
use Rattle.module_semantics.specs.acceptance.Operations.{Operation, are_same_words, agrees, all_agree}
use Rattle.module_semantics.proofs.Lists.{list_all_at}
use Rattle.module_semantics.proofs.Operations.{all_agree_at, alike_itself}
use Rattle.naga_acceptance.specs.Uses.{is_same_operator, first_answer}

-- ---- tests

-- four tests in another order
and_crossed : (a b c d : Bool) → ((a && b) && (c && d)) ≡ ((a && c) && (b && d))
and_crossed false b c d = refl
and_crossed true true c d = refl
and_crossed true false true d = refl
and_crossed true false false d = refl

-- a test after one that fails
and_false : (a : Bool) → (a && false) ≡ false
and_false true = refl
and_false false = refl

-- ---- one operator over operands of types alike

-- words that are tested the same are
pub equal_lists : (vs ws : List (List ℕ)) → are_same_words vs ws ≡ true → vs ≡ ws
equal_lists [] [] e = refl
equal_lists [] (w ∷ ws) e = absurd cc
equal_lists (v ∷ vs) [] e = absurd cc
equal_lists (v ∷ vs) (w ∷ ws) e =
    let parts = and_parts (bytes_eq v w) (are_same_words vs ws) e
    in λ i. (bytes_eq-Decides v w).0 parts.0 i ∷ equal_lists vs ws parts.1 i

-- uses of one operator have the same operator and operands
pub same_parts : (v w : Operation) → is_same_operator v w ≡ true →
    (v.operator ≡ w.operator) × (v.operands ≡ w.operands)
same_parts v w e =
    let parts = and_parts (bytes_eq v.operator w.operator) (are_same_words v.operands w.operands) e
    in ((bytes_eq-Decides v.operator w.operator).0 parts.0, equal_lists v.operands w.operands parts.1)

-- and those that have the same are uses of one operator
pub same_from : (v w : Operation) → v.operator ≡ w.operator → v.operands ≡ w.operands →
    is_same_operator v w ≡ true
same_from v w o os =
    λ i. (bytes_eq-Decides v.operator w.operator).1 o i &&
    (ap (are_same_words v.operands) (sym os) ∙ alike_itself v.operands) i

-- ---- two uses that agree

-- whether they agree, by whether they are of one operator
agrees_by : (v w : Operation) (same : Bool) → is_same_operator v w ≡ same →
    agrees v w ≡ (if same then bytes_eq v.answer w.answer else true)
agrees_by v w same e = ap (λ b. if b then bytes_eq v.answer w.answer else true) e

-- uses of different operators agree
pub other_agrees : (v w : Operation) → is_same_operator v w ≡ false → agrees v w ≡ true
other_agrees v w e = agrees_by v w false e

-- uses of one operator agree where their types are alike
pub same_agrees : (v w : Operation) → is_same_operator v w ≡ true →
    agrees v w ≡ bytes_eq v.answer w.answer
same_agrees v w e = agrees_by v w true e

-- ---- a use and those before it

-- a test that each of these uses passes
pub all_pass : (test : Operation → Bool) (os : List Operation)
    → ((i : ℕ) (o : Operation) → slice_get os i ≡ Some o → test o ≡ true) → list_all test os ≡ true
all_pass test [] each = refl
all_pass test (x ∷ os) each =
    λ k. each 0 x refl k && all_pass test os (λ i o here. each (suc i) o here) k

-- a use that agrees with all of them where their operator differs from its own
pub new_agrees : (os : List Operation) (v : Operation)
    → ((i : ℕ) (o : Operation) → slice_get os i ≡ Some o → is_same_operator o v ≡ false)
    → list_all (λ o. agrees o v) os ≡ true
new_agrees os v other =
    all_pass (λ o. agrees o v) os (λ i o here. other_agrees o v (other i o here))

-- One more use after others: it agrees with each of them, and those agree.
pub agree_after : (os : List Operation) (v : Operation) →
    all_agree (os ++ v ∷ []) ≡ (all_agree os && list_all (λ o. agrees o v) os)
agree_after [] v = refl
agree_after (x ∷ os) v =
    (λ i. (list_all-append (agrees x) os (v ∷ []) ∙ last (list_all (agrees x) os) (agrees x v)) i &&
    agree_after os v i)
    ∙ and_crossed (list_all (agrees x) os) (agrees x v) (all_agree os) (list_all (λ o. agrees o v) os)
  where
    last : (a b : Bool) → (a && (b && true)) ≡ (a && b)
    last a true = refl
    last a false = refl

-- what stands after uses that do not all agree changes nothing
pub front_fails : (os vs : List Operation) → all_agree os ≡ false → all_agree (os ++ vs) ≡ false
front_fails [] vs e = absurd cc
front_fails (x ∷ os) vs e = by_first (front_fails os vs) (list_all (agrees x) os) refl
  where
    by_rest : list_all (agrees x) os ≡ true → all_agree os ≡ false
    by_rest first = sym (ap (λ b. b && all_agree os) first) ∙ e

    by_first : (all_agree os ≡ false → all_agree (os ++ vs) ≡ false) → (b : Bool) →
        list_all (agrees x) os ≡ b → all_agree ((x ∷ os) ++ vs) ≡ false
    by_first rest true first =
        ap (λ b. list_all (agrees x) (os ++ vs) && b) (rest (by_rest first))
        ∙ and_false (list_all (agrees x) (os ++ vs))
    by_first rest false first =
        ap (λ b. b && all_agree (os ++ vs))
        (list_all-append (agrees x) os vs ∙ ap (λ b. b && list_all (agrees x) vs) first)

-- ---- the first use of an operator

-- it is the first of these uses, or it is looked for after that
pub first_by : (w : Operation) (os : List Operation) (v : Operation) (same : Bool) →
    is_same_operator w v ≡ same → first_answer (w ∷ os) v ≡
    (if same then Some (bytes_eq w.answer v.answer) else first_answer os v)
first_by w os v same e =
    ap (λ b. if b then Some (bytes_eq w.answer v.answer) else first_answer os v) e

-- two of these uses, of one operator, have one type
same_answers : (os : List Operation) → all_agree os ≡ true → (i j : ℕ) (v w x : Operation) →
    slice_get os i ≡ Some w → slice_get os j ≡ Some x → is_same_operator w v ≡ true →
    is_same_operator x v ≡ true → w.answer ≡ x.answer
same_answers os all i j v w x at_i at_j same other =
    let one = same_parts w v same
    in let two = same_parts x v other
    in all_agree_at os all i j w x at_i at_j (one.0 ∙ sym two.0) (one.1 ∙ sym two.1)

-- any of them tells what the first of its operator does
pub sought_first : (os : List Operation) → all_agree os ≡ true → (i : ℕ) (v w : Operation) →
    slice_get os i ≡ Some w → is_same_operator w v ≡ true →
    first_answer os v ≡ Some (bytes_eq w.answer v.answer)
sought_first [] all i v w here same = absurd cc
sought_first (x ∷ os) all zero v w here same =
    let one : x ≡ w = cc
    in first_by x os v true (ap (λ y. is_same_operator y v) one ∙ same)
    ∙ ap (λ y. Some (bytes_eq y.answer v.answer)) one
sought_first (x ∷ os) all (suc i) v w here same =
    by_first
    (sought_first os (and_parts (list_all (agrees x) os) (all_agree os) all).1 i v w here same)
    (is_same_operator x v) refl
  where
    by_first : first_answer os v ≡ Some (bytes_eq w.answer v.answer) → (b : Bool) →
        is_same_operator x v ≡ b → first_answer (x ∷ os) v ≡ Some (bytes_eq w.answer v.answer)
    by_first rest true first =
        first_by x os v true first
        ∙ ap (λ y. Some (bytes_eq y v.answer))
        (same_answers (x ∷ os) all 0 (suc i) v x w refl here first same)
    by_first rest false first = first_by x os v false first ∙ rest

-- what agrees with the first of these uses, which agrees with the others, agrees with those
followed : (x v : Operation) (os : List Operation) → is_same_operator x v ≡ true →
    bytes_eq x.answer v.answer ≡ true → list_all (agrees x) os ≡ true →
    list_all (λ o. agrees o v) os ≡ true
followed x v os same alike all = all_pass (λ o. agrees o v) os each
  where
    parts : (x.operator ≡ v.operator) × (x.operands ≡ v.operands)
    parts = same_parts x v same

    answers : x.answer ≡ v.answer
    answers = (bytes_eq-Decides x.answer v.answer).0 alike

    agreed : (o : Operation) → agrees x o ≡ true → (b : Bool) → is_same_operator o v ≡ b →
        agrees o v ≡ true
    agreed o agree true e =
        let own = same_parts o v e
        in let both = same_from x o (parts.0 ∙ sym own.0) (parts.1 ∙ sym own.1)
        in let one = (bytes_eq-Decides x.answer o.answer).0 (sym (same_agrees x o both) ∙ agree)
        in same_agrees o v e ∙ (bytes_eq-Decides o.answer v.answer).1 (sym one ∙ answers)
    agreed o agree false e = other_agrees o v e

    each : (i : ℕ) (o : Operation) → slice_get os i ≡ Some o → agrees o v ≡ true
    each i o here = agreed o (list_all_at (agrees x) os i o all here) (is_same_operator o v) refl

-- A use agrees with all of these, which agree, where it agrees with the first of its operator.
pub sought_agrees : (os : List Operation) → all_agree os ≡ true → (v : Operation) →
    list_all (λ o. agrees o v) os ≡ unwrap_or (first_answer os v) true
sought_agrees [] all v = refl
sought_agrees (x ∷ os) all v =
    by_first
    (sought_agrees os (and_parts (list_all (agrees x) os) (all_agree os) all).1 v)
    (is_same_operator x v) refl
  where
    agreed : list_all (agrees x) os ≡ true
    agreed = (and_parts (list_all (agrees x) os) (all_agree os) all).0

    by_answer : (a : Bool) → is_same_operator x v ≡ true → bytes_eq x.answer v.answer ≡ a →
        (a && list_all (λ o. agrees o v) os) ≡ a
    by_answer true first e = followed x v os first e agreed
    by_answer false first e = refl

    by_first : list_all (λ o. agrees o v) os ≡ unwrap_or (first_answer os v) true → (b : Bool) →
        is_same_operator x v ≡ b →
        list_all (λ o. agrees o v) (x ∷ os) ≡ unwrap_or (first_answer (x ∷ os) v) true
    by_first rest true first =
        ap (λ b. b && list_all (λ o. agrees o v) os) (same_agrees x v first)
        ∙ by_answer (bytes_eq x.answer v.answer) first refl
        ∙ sym (ap (λ y. unwrap_or y true) (first_by x os v true first))
    by_first rest false first =
        ap (λ b. b && list_all (λ o. agrees o v) os) (other_agrees x v first)
        ∙ rest
        ∙ sym (ap (λ y. unwrap_or y true) (first_by x os v false first))

-- and so where it agrees with any use of its operator among them
pub seen_agrees : (os : List Operation) → all_agree os ≡ true → (i : ℕ) (v w : Operation) →
    slice_get os i ≡ Some w → is_same_operator w v ≡ true →
    bytes_eq w.answer v.answer ≡ list_all (λ o. agrees o v) os
seen_agrees os all i v w here same =
    sym (sought_agrees os all v
    ∙ ap (λ y. unwrap_or y true) (sought_first os all i v w here same))

-- ---- the first use, in one list after another

-- found in front of others, by whether the first is of its operator
found_by : (w : Operation) (xs ys : List Operation) (v : Operation) (same : Bool) →
    is_same_operator w v ≡ same →
    (is_some (first_answer xs v) ≡ true → first_answer (xs ++ ys) v ≡ first_answer xs v) →
    is_some (first_answer (w ∷ xs) v) ≡ true →
    first_answer (w ∷ xs ++ ys) v ≡ first_answer (w ∷ xs) v
found_by w xs ys v true e rest found = first_by w (xs ++ ys) v true e ∙ sym (first_by w xs v true e)
found_by w xs ys v false e rest found =
    first_by w (xs ++ ys) v false e
    ∙ rest (sym (ap is_some (first_by w xs v false e)) ∙ found)
    ∙ sym (first_by w xs v false e)

-- one that the front has is found there
pub found_in_front : (xs ys : List Operation) (v : Operation) →
    is_some (first_answer xs v) ≡ true → first_answer (xs ++ ys) v ≡ first_answer xs v
found_in_front [] ys v found = absurd cc
found_in_front (w ∷ xs) ys v found =
    found_by w xs ys v (is_same_operator w v) refl (found_in_front xs ys v) found

-- not found in front of others, by the same
none_by : (w : Operation) (xs ys : List Operation) (v : Operation) (same : Bool) →
    is_same_operator w v ≡ same →
    (is_some (first_answer xs v) ≡ false → first_answer (xs ++ ys) v ≡ first_answer ys v) →
    is_some (first_answer (w ∷ xs) v) ≡ false →
    first_answer (w ∷ xs ++ ys) v ≡ first_answer ys v
none_by w xs ys v true e rest none = absurd cc
none_by w xs ys v false e rest none =
    first_by w (xs ++ ys) v false e ∙ rest (sym (ap is_some (first_by w xs v false e)) ∙ none)

-- one that the front does not have is looked for after it
pub none_in_front : (xs ys : List Operation) (v : Operation) →
    is_some (first_answer xs v) ≡ false → first_answer (xs ++ ys) v ≡ first_answer ys v
none_in_front [] ys v none = refl
none_in_front (w ∷ xs) ys v none =
    none_by w xs ys v (is_same_operator w v) refl (none_in_front xs ys v) none
