-- The identifiers given so far follow from the uses, and the next one is new.
use Rattle.std.proofs.Common.{◌≡◌, ℕ, ◌+◌, ◌<◌, zero, suc, Bool, true, false, cond, List}
use Rattle.std.proofs.Common.{[], ◌∷◌, ◌++◌, take, Some, refl, ap, sym, subst, ◌∙◌, arith}
use Rattle.std.proofs.Common.{unwrap_or, slice_get}
use Rattle.std.specs.Str.{bytes_eq, chars}
use Rattle.std.specs.Cmp.Lexicographic.{bytes_decides}
use Rattle.std.proofs.lemmas.List.Sums.{sum_by-cons}
use Rattle.std.proofs.lemmas.Option.{none-some}
use Rattle.naga_naming.specs.Label.{ends_separated}
use Rattle.naga_naming.specs.Naming.{Names, uses_of, label_stem, labels_with_stem, name_of}
use Rattle.naga_naming.specs.Naming.{name_of_stem, HasNamed}
use Rattle.naga_naming.specs.Laws.{WasAssigned, FollowsFromUses}
use Rattle.naga_naming.proofs.Stems.{stem_ends}
use Rattle.naga_naming.proofs.NameShapes.{counted_more, same_stem_and_number}

split_at : (labels : List (List ℕ)) (i : ℕ) (label : List ℕ) → slice_get labels i ≡ Some label →
    (rest : List (List ℕ)) × (labels ≡ take i labels ++ label ∷ rest)
split_at [] i label e = absurd (none-some label e)
split_at (x ∷ labels) zero label e = (labels, ap (λ o. unwrap_or o x ∷ labels) e)
split_at (x ∷ labels) (suc i) label e = let rest = split_at labels i label e in (rest.0, ap (λ t. x ∷ t) rest.1)

-- a label that has this stem, after so many others that have it
record Counted (names : Names) (labels : List (List ℕ)) (stem : List ℕ) (number : ℕ) : Type 0 where
  index : ℕ
  label : List ℕ
  there : slice_get labels index ≡ Some label
  own : label_stem names label ≡ stem
  before : labels_with_stem names (take index labels) stem ≡ number

module _ (names : Names) (stem : List ℕ) where
  counted_first : (label : List ℕ) (labels : List (List ℕ)) → labels_with_stem names (label ∷ labels) stem
      ≡ cond (bytes_eq (label_stem names label) stem) 1 0 + labels_with_stem names labels stem
  counted_first label labels = sum_by-cons (λ l. cond (bytes_eq (label_stem names l) stem) 1 0) label labels

  here : (label : List ℕ) (labels : List (List ℕ)) → bytes_eq (label_stem names label) stem ≡ true →
      Counted names (label ∷ labels) stem 0
  here label labels is = record {
    index = 0;
    label = label;
    there = refl;
    own = (bytes_decides (label_stem names label) stem).0 is;
    before = refl;
  }

  following : (x : List ℕ) (labels : List (List ℕ)) (k number : ℕ) (b : Bool) →
      bytes_eq (label_stem names x) stem ≡ b → cond b 1 0 + k ≡ number →
      Counted names labels stem k → Counted names (x ∷ labels) stem number
  following x labels k number b is total inner = record {
    index = suc inner.index;
    label = inner.label;
    there = inner.there;
    own = inner.own;
    before =
        counted_first x (take inner.index labels)
        ∙ ap (λ t. cond t 1 0 + labels_with_stem names (take inner.index labels) stem) is
        ∙ ap (λ n. cond b 1 0 + n) inner.before ∙ total;
  }

  counted : (labels : List (List ℕ)) (number : ℕ) → number < labels_with_stem names labels stem →
      Counted names labels stem number
  counted [] number lt = absurd (omega (arith, lt))
  counted (x ∷ labels) number lt = either (λ k less. counted labels k less) number
      (bytes_eq (label_stem names x) stem) refl (subst (λ n. number < n) (counted_first x labels) lt)
    where
      either : ((k : ℕ) → k < labels_with_stem names labels stem → Counted names labels stem k) →
          (number : ℕ) (b : Bool) → bytes_eq (label_stem names x) stem ≡ b →
          number < cond (bytes_eq (label_stem names x) stem) 1 0 + labels_with_stem names labels
          stem → Counted names (x ∷ labels) stem number
      either inner zero true is lt = here x labels is
      either inner (suc n) true is lt =
          let less : suc n < 1 + labels_with_stem names labels stem =
          subst (λ t. suc n < cond t 1 0 + labels_with_stem names labels stem) is lt in
          let one_more : 1 + n ≡ suc n = omega arith in
          following x labels n (suc n) true is one_more (inner n (omega (arith, less)))
      either inner number false is lt =
          let less : number < 0 + labels_with_stem names labels stem =
          subst (λ t. number < cond t 1 0 + labels_with_stem names labels stem) is lt in
          let same : 0 + number ≡ number = omega arith in
          following x labels number number false is same (inner number (omega (arith, less)))

module _ (names : Names) (labels : List (List ℕ)) (has : HasNamed names labels) where
  pub assigned_follow : (word : List ℕ) → WasAssigned names labels word → FollowsFromUses names word
  assigned_follow word assigned =
      let stem : List ℕ = label_stem names assigned.label in
      let parts = split_at labels assigned.index assigned.label assigned.there in
      let more : labels_with_stem names labels stem ≡ labels_with_stem names (take assigned.index labels) stem
      + (1 + labels_with_stem names parts.0 stem) =
      ap (λ all. labels_with_stem names all stem) parts.1
      ∙ counted_more names (take assigned.index labels) assigned.label parts.0 stem refl in
      let used : uses_of names.uses stem ≡ labels_with_stem names labels stem = has.uses_are stem in
      record {
        stem = stem;
        number = labels_with_stem names (take assigned.index labels) stem;
        used = omega (arith, more, used);
        is = assigned.is;
      }

  pub follow_assigned : (word : List ℕ) → FollowsFromUses names word → WasAssigned names labels word
  follow_assigned word follows =
      let used : uses_of names.uses follows.stem ≡ labels_with_stem names labels follows.stem =
      has.uses_are follows.stem in
      let less : follows.number < uses_of names.uses follows.stem = follows.used in
      let one = counted names follows.stem labels follows.number (omega (arith, used, less)) in
      record {
        index = one.index;
        label = one.label;
        there = one.there;
        is = follows.is ∙ ap (name_of_stem names follows.stem) (sym one.before)
            ∙ ap (λ b. name_of_stem names b (labels_with_stem names (take one.index labels) b)) (sym one.own);
      }

  pub next_is_new : (label : List ℕ) → FollowsFromUses names (name_of names label) → ⊥
  unfolding name_of
  next_is_new label follows =
      let stem : List ℕ = label_stem names label in
      let used : uses_of names.uses follows.stem ≡ labels_with_stem names labels follows.stem =
      has.uses_are follows.stem in
      let own_used : uses_of names.uses stem ≡ labels_with_stem names labels stem = has.uses_are stem in
      let less : follows.number < uses_of names.uses follows.stem = follows.used in
      let one = counted names follows.stem labels follows.number (omega (arith, used, less)) in
      let same = same_stem_and_number names names stem follows.stem (uses_of names.uses stem)
      follows.number (stem_ends names.reserved_prefixes (chars label))
      (ap ends_separated (sym one.own) ∙ stem_ends names.reserved_prefixes (chars one.label))
      follows.is in
      let number : uses_of names.uses stem ≡ follows.number = same.1 in
      let uses : uses_of names.uses stem ≡ uses_of names.uses follows.stem = ap (uses_of names.uses) same.0 in
      omega (arith, number, uses, less)
