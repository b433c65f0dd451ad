-- What a pass finds follows its rule, and what follows the rule is what the pass finds, up to Like.
use Rattle.std.proofs.Common.{◌≡◌, List, [], ◌∷◌, ◌++◌, refl, sym, ap, ◌∙◌, subst}
use Rattle.std.specs.Prelude.{Result, Ok, Err}
use Rattle.naga_inference.specs.Passes.{answers_after, result_and_then, AllLike, Follows}

pub one_after : {R : Type 0} (before : List R) (k : R) (ks : List R) → (before ++ (k ∷ [])) ++ ks ≡ before ++ (k ∷ ks)
one_after [] k ks = refl
one_after (x ∷ before) k ks = ap (λ zs. x ∷ zs) (one_after before k ks)

pub none_after : {R : Type 0} (before : List R) → before ++ [] ≡ before
none_after [] = refl
none_after (x ∷ before) = ap (λ zs. x ∷ zs) (none_after before)

module _ {P R F : Type 0} (rule : List R → P → Result R F) where
  -- an answer, and those to the others
  pub passed : (before : List R) (p : P) (ps : List P) (r : R) → rule before p ≡ Ok r →
      answers_after rule before (p ∷ ps) ≡ answers_after rule (before ++ (r ∷ [])) ps
  passed before p ps r here = ap (result_and_then (λ x. answers_after rule (before ++ (x ∷ [])) ps)) here

  -- a fault, at which the pass ends
  pub stopped : (before : List R) (p : P) (ps : List P) (f : F) → rule before p ≡ Err f →
      answers_after rule before (p ∷ ps) ≡ Err f
  stopped before p ps f here = ap (result_and_then (λ x. answers_after rule (before ++ (x ∷ [])) ps)) here

  -- ---- the pass as a loop, from what stands before and what is left (its) to what is found
  pub begins : (before : List R) (its ps : List P) → before ≡ [] → its ≡ ps →
      answers_after rule before its ≡ answers_after rule [] ps
  begins before its ps none all = λ i. answers_after rule (none i) (all i)

  pub goes_on : (before after : List R) (r : R) (p : P) (its left : List P) (found : Result (List R) F) →
      after ≡ before ++ (r ∷ []) → rule before p ≡ Ok r → its ≡ p ∷ left → answers_after rule before its ≡ found →
      answers_after rule after left ≡ found
  goes_on before after r p its left found is here steps so_far =
      ap (λ rs. answers_after rule rs left) is
      ∙ (sym (passed before p left r here) ∙ (ap (answers_after rule before) (sym steps) ∙ so_far))

  pub stops : (before : List R) (f : F) (p : P) (its left : List P) (found : Result (List R) F) →
      rule before p ≡ Err f → its ≡ p ∷ left → answers_after rule before its ≡ found → found ≡ Err f
  stops before f p its left found here steps so_far =
      sym so_far ∙ (ap (answers_after rule before) steps ∙ stopped before p left f here)

  pub ends : (before : List R) (its : List P) (found : Result (List R) F) → its ≡ [] →
      answers_after rule before its ≡ found → found ≡ Ok before
  ends before its found none so_far = sym so_far ∙ ap (answers_after rule before) none

  -- what the pass finds follows the rule, item by item
  pub pass_follows : (own : List R) (ps : List P) (answers : List R) → answers_after rule own ps ≡ Ok answers →
      (ks : List R) × (answers ≡ own ++ ks) × Follows rule (λ a b. a ≡ b) own ps ks
  pass_follows own [] answers found = let same : own ≡ answers = cc in ([], sym same ∙ sym (none_after own), tt)
  pass_follows own (p ∷ ps) answers found =
      next (rule own p) refl found (λ r. pass_follows (own ++ (r ∷ [])) ps answers)
    where
      next : (o : Result R F) → rule own p ≡ o →
          result_and_then (λ x. answers_after rule (own ++ (x ∷ [])) ps) o ≡ Ok answers →
          ((r : R) → answers_after rule (own ++ (r ∷ [])) ps ≡ Ok answers →
          (ks : List R) × (answers ≡ (own ++ (r ∷ [])) ++ ks) × Follows rule (λ a b. a ≡ b) (own ++ (r ∷ [])) ps ks) →
          (ks : List R) × (answers ≡ own ++ ks) × Follows rule (λ a b. a ≡ b) own (p ∷ ps) ks
      next (Err f) here found further = absurd cc
      next (Ok r) here found further =
          let rest : (ks : List R) × (answers ≡ (own ++ (r ∷ [])) ++ ks)
          × Follows rule (λ a b. a ≡ b) (own ++ (r ∷ [])) ps ks = further r found in
          (r ∷ rest.0, rest.1 ∙ one_after own r rest.0, ((r, here, refl), rest.2))

  module _ (Like : R → R → Type 0) where
    -- one more on both sides
    like_next : (rs ks : List R) (r k : R) → AllLike Like rs ks → Like r k →
        AllLike Like (rs ++ (r ∷ [])) (ks ++ (k ∷ []))
    like_next [] [] r k all one = (one, tt)
    like_next [] (x ∷ ks) r k all one = absurd all
    like_next (x ∷ rs) [] r k all one = absurd all
    like_next (x ∷ rs) (y ∷ ks) r k all one = (all.0, like_next rs ks r k all.1 one)

    -- the rule gives like answers by like answers
    abbrev pub Congruent : Type 0
    Congruent = (rs ks : List R) (p : P) (k : R) → AllLike Like rs ks → rule ks p ≡ Ok k →
        (r : R) × (rule rs p ≡ Ok r) × Like r k

    pub record Found (before : List R) (ps : List P) (ks : List R) : Type 0 where
      pub answers : List R
      pub found : answers_after rule before ps ≡ Ok answers
      pub alike : AllLike Like answers ks

    one_more : (own before : List R) (p : P) (ps : List P) (k : R) (ks : List R) (r : R) → rule own p ≡ Ok r →
        Found (own ++ (r ∷ [])) ps ((before ++ (k ∷ [])) ++ ks) → Found own (p ∷ ps) (before ++ (k ∷ ks))
    one_more own before p ps k ks r here further = record {
      answers = further.answers;
      found = passed own p ps r here ∙ further.found;
      alike = subst (λ zs. AllLike Like further.answers zs) (one_after before k ks) further.alike;
    }

    module _ (congruent : Congruent) (through : (a b c : R) → Like a b → Like b c → Like a c) where
      pub pass_finds : (own before : List R) (ps : List P) (ks : List R) → AllLike Like own before →
          Follows rule Like before ps ks → Found own ps (before ++ ks)
      pass_finds own before [] [] alike follows =
          record {
            answers = own;
            found = refl;
            alike = subst (λ zs. AllLike Like own zs) (sym (none_after before)) alike;
          }
      pass_finds own before [] (k ∷ ks) alike follows = absurd follows
      pass_finds own before (p ∷ ps) [] alike follows = absurd follows
      pass_finds own before (p ∷ ps) (k ∷ ks) alike follows =
          let one : (r : R) × (rule own p ≡ Ok r) × Like r follows.0.0 =
          congruent own before p follows.0.0 alike follows.0.1 in
          let like : Like one.0 k = through one.0 follows.0.0 k one.2 follows.0.2 in
          one_more own before p ps k ks one.0 one.1
          (pass_finds (own ++ (one.0 ∷ [])) (before ++ (k ∷ [])) ps ks
          (like_next own before one.0 k alike like) follows.1)
