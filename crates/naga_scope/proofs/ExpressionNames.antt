-- Labels that are named one after another.
-- Serves 5 contracts, `expression_names` among them.
use Rattle.std.proofs.Common.{◌≡◌, ◌≤◌, ◌^◌, ◌++◌, ◌∙◌, ℕ, List, [], ◌∷◌, append-nil, append_assoc}
use Rattle.std.proofs.Common.{ap, refl, arith, length-append, subst, sym}
use Rattle.std.specs.Prelude.{Err, Ok, OnOk, Result}
use Rattle.module_semantics.specs.ExpressionLabels.{SomeLabelIsFull}
use Rattle.naga_naming.proofs.NameShapes.{counted_more}
use Rattle.naga_naming.specs.Naming.{HasNamed, Names, Uses, label_stem, labels_with_stem, name_after}
use Rattle.naga_naming.specs.Naming.{with_use}
use Rattle.naga_naming.specs.Refusal.{IsRefusalOf}
use Rattle.naga_naming.specs.declared.error.NamerError.{NamerError}
use Rattle.naga_naming.specs.declared.error.NamerError.TheVariants.{Full, KeyFull, Memory}
use Rattle.naga_scope.specs.ExpressionNames.{HasBegunLabels, HasOtherUses, IsRefusalOfLabels}
use Rattle.naga_scope.specs.ExpressionNames.{NamesLabels, RefusesLabels, names_following}

-- ---- names of labels
-- uses are nothing to names
names_of_uses : (old : Names) (u : Uses) (earlier labels : List (List ℕ)) →
    names_following (record old { uses = u }) earlier labels ≡ names_following old earlier labels
names_of_uses old u earlier [] = refl
names_of_uses old u earlier (label ∷ labels) =
    ap (λ names. name_after old earlier label ∷ names)
    (names_of_uses old u (earlier ++ label ∷ []) labels)

names_kept : (old mid : Names) → HasOtherUses old mid → (earlier labels : List (List ℕ)) →
    names_following mid earlier labels ≡ names_following old earlier labels
names_kept old mid words earlier labels =
    ap (λ n. names_following n earlier labels) words ∙ names_of_uses old mid.uses earlier labels

-- the names of labels and of others after them
names_joined : (old : Names) (earlier xs ys : List (List ℕ)) →
    names_following old earlier (xs ++ ys)
    ≡ names_following old earlier xs ++ names_following old (earlier ++ xs) ys
names_joined old earlier [] ys = ap (λ e. names_following old e ys) (sym (append-nil earlier))
names_joined old earlier (x ∷ xs) ys =
    let rest = earlier ++ x ∷ [] in
    ap (λ names. name_after old earlier x ∷ names)
    (names_joined old rest xs ys
    ∙ ap (λ e. names_following old rest xs ++ names_following old e ys) (append_assoc earlier (x ∷ []) xs))

-- ---- words and prefixes stay
other_uses : (old mid new : Names) → HasOtherUses old mid → HasOtherUses mid new →
    HasOtherUses old new
other_uses old mid new first second =
    second ∙ ap (λ (n : Names). record n { uses = new.uses }) first

with_use_words : (old : Names) (label : List ℕ) → HasOtherUses old (with_use old label)
unfolding with_use
with_use_words old label = refl

-- ---- labels that are named
pub names_none : (old : Names) (held : List (List ℕ)) → NamesLabels old held [] old held
names_none old held = record {
  words = refl;
  count = omega arith;
  labels_named = λ earlier has. subst (HasNamed old) (sym (append-nil earlier)) has;
  names = λ earlier has. sym (append-nil held);
}

pub names_then : {old mid new : Names} {held between now xs ys : List (List ℕ)} →
    NamesLabels old held xs mid between → NamesLabels mid between ys new now →
    NamesLabels old held (xs ++ ys) new now
names_then {old} {mid} {new} {held} {between} {now} {xs} {ys} first second = record {
  words = other_uses old mid new first.words second.words;
  count = let one = first.count in let two = second.count in let both = length-append xs ys in
      omega (arith, one, two, both);
  labels_named = λ earlier has.
      subst (HasNamed new) (append_assoc earlier xs ys)
      (second.labels_named (earlier ++ xs) (first.labels_named earlier has));
  names = λ earlier has.
      second.names (earlier ++ xs) (first.labels_named earlier has)
      ∙ ((λ i. first.names earlier has i ++ names_kept old mid first.words (earlier ++ xs) ys i)
      ∙ (append_assoc held (names_following old earlier xs) (names_following old (earlier ++ xs) ys)
      ∙ ap (λ names. held ++ names) (sym (names_joined old earlier xs ys))));
}

-- one label
pub names_one : (old new : Names) (held : List (List ℕ)) (label name : List ℕ) →
    new ≡ with_use old label →
    ((earlier : List (List ℕ)) → HasNamed old earlier → name ≡ name_after old earlier label) →
    ((earlier : List (List ℕ)) → HasNamed old earlier → HasNamed new (earlier ++ label ∷ [])) →
    NamesLabels old held (label ∷ []) new (held ++ name ∷ [])
names_one old new held label name used is more = record {
  words = subst (HasOtherUses old) (sym used) (with_use_words old label);
  count = length-append held (name ∷ []);
  labels_named = more;
  names = λ earlier has. ap (λ n. held ++ n ∷ []) (is earlier has);
}

-- where labels are counted, none of them is full
pub counted_none_full : (start : Names) (earlier labels : List (List ℕ)) →
    ((stem : List ℕ) → labels_with_stem start (earlier ++ labels) stem ≤ 2 ^ 32) →
    SomeLabelIsFull start earlier labels → ⊥
counted_none_full start earlier labels few s =
    let stem : List ℕ = label_stem start s.label in
    let split = ap (λ ls. earlier ++ ls) s.all ∙ sym (append_assoc earlier s.named (s.label ∷ s.left)) in
    let more = ap (λ ls. labels_with_stem start ls stem) split
    ∙ counted_more start (earlier ++ s.named) s.label s.left stem refl in
    let full = s.full in
    omega (arith, few stem, more, full)

-- so it is with labels that are named
pub none_full : {old new : Names} {held labels now : List (List ℕ)} →
    NamesLabels old held labels new now → (earlier : List (List ℕ)) → HasNamed old earlier →
    SomeLabelIsFull old earlier labels → ⊥
none_full {old} {new} {held} {labels} {now} n earlier has full =
    let counted = n.labels_named earlier has in
    counted_none_full old earlier labels
    (λ stem. subst (λ k. labels_with_stem k (earlier ++ labels) stem ≤ 2 ^ 32) n.words (counted.few stem)) full

-- ---- labels that are refused
-- a stem that is full among some is so among more
more_full : (start : Names) (earlier xs ys : List (List ℕ)) → SomeLabelIsFull start earlier xs →
    SomeLabelIsFull start earlier (xs ++ ys)
more_full start earlier xs ys s = record {
  named = s.named;
  label = s.label;
  left = s.left ++ ys;
  all = ap (λ ls. ls ++ ys) s.all ∙ append_assoc s.named (s.label ∷ s.left) ys;
  full = s.full;
}

later_full : (old mid : Names) → HasOtherUses old mid → (earlier xs ys : List (List ℕ)) →
    SomeLabelIsFull mid (earlier ++ xs) ys → SomeLabelIsFull old earlier (xs ++ ys)
later_full old mid words earlier xs ys s = record {
  named = xs ++ s.named;
  label = s.label;
  left = s.left;
  all = ap (λ ls. xs ++ ls) s.all ∙ sym (append_assoc xs s.named (s.label ∷ s.left));
  full =
      ap (λ ls. labels_with_stem old ls (label_stem old s.label))
      (sym (append_assoc earlier xs s.named))
      ∙ (sym (ap (λ (n : Names). labels_with_stem n ((earlier ++ xs) ++ s.named) (label_stem n s.label)) words)
      ∙ s.full);
}

pub refused_first : {old new : Names} (xs ys : List (List ℕ)) (e : NamerError) →
    RefusesLabels old xs new e → RefusesLabels old (xs ++ ys) new e
refused_first {old} {new} xs ys e r = record {
  words = r.words;
  some = λ earlier has.
      let s = r.some earlier has in
      record {
        named = s.named;
        left = s.left ++ ys;
        all = ap (λ ls. ls ++ ys) s.all ∙ append_assoc s.named s.left ys;
        has = s.has;
      };
  why = λ earlier has. by earlier e (r.why earlier has);
}
  where
    by : (earlier : List (List ℕ)) (e : NamerError) → IsRefusalOfLabels old earlier xs e →
        IsRefusalOfLabels old earlier (xs ++ ys) e
    by earlier Full full = more_full old earlier xs ys full
    by earlier KeyFull never = never
    by earlier (Memory m) want = tt

pub refused_later : {old mid new : Names} {held between : List (List ℕ)} (xs ys : List (List ℕ))
    (e : NamerError) → NamesLabels old held xs mid between → RefusesLabels mid ys new e →
    RefusesLabels old (xs ++ ys) new e
refused_later {old} {mid} {new} xs ys e first r = record {
  words = other_uses old mid new first.words r.words;
  some = λ earlier has.
      let s = r.some (earlier ++ xs) (first.labels_named earlier has) in
      record {
        named = xs ++ s.named;
        left = s.left;
        all = ap (λ ls. xs ++ ls) s.all ∙ sym (append_assoc xs s.named s.left);
        has = subst (HasNamed new) (append_assoc earlier xs s.named) s.has;
      };
  why = λ earlier has.
      by earlier e (r.why (earlier ++ xs) (first.labels_named earlier has));
}
  where
    by : (earlier : List (List ℕ)) (e : NamerError) → IsRefusalOfLabels mid (earlier ++ xs) ys e →
        IsRefusalOfLabels old earlier (xs ++ ys) e
    by earlier Full full = later_full old mid first.words earlier xs ys full
    by earlier KeyFull never = never
    by earlier (Memory m) want = tt

-- one label: nothing is named
pub refused_one : (old new : Names) (label : List ℕ) (e : NamerError) → new ≡ old →
    IsRefusalOf old label e → RefusesLabels old (label ∷ []) new e
refused_one old new label e same why = record {
  words = subst (HasOtherUses old) (sym same) refl;
  some = λ earlier has. record {
    named = [];
    left = label ∷ [];
    all = refl;
    has = subst (HasNamed new) (sym (append-nil earlier)) (subst (λ n. HasNamed n earlier) (sym same) has);
  };
  why = λ earlier has. by earlier has e why;
}
  where
    by : (earlier : List (List ℕ)) → HasNamed old earlier → (e : NamerError) →
        IsRefusalOf old label e → IsRefusalOfLabels old earlier (label ∷ []) e
    by earlier has Full full = record {
      named = [];
      label = label;
      left = [];
      all = refl;
      full = ap (λ ls. labels_with_stem old ls (label_stem old label)) (append-nil earlier)
          ∙ (sym (has.uses_are (label_stem old label)) ∙ full);
    }
    by earlier has KeyFull never = never
    by earlier has (Memory m) want = tt

-- one label that is named, where there was no room to hold the name
pub refused_room : {old new : Names} {held now : List (List ℕ)} (label : List ℕ) (e : NamerError) →
    NamesLabels old held (label ∷ []) new now →
    ((earlier : List (List ℕ)) → IsRefusalOfLabels old earlier (label ∷ []) e) →
    RefusesLabels old (label ∷ []) new e
refused_room label e named why = record {
  words = named.words;
  some = λ earlier has. record {
    named = label ∷ [];
    left = [];
    all = refl;
    has = named.labels_named earlier has;
  };
  why = λ earlier has. why earlier;
}

-- whatever happened, some first labels are named
pub named_begun : {old new : Names} {held labels now : List (List ℕ)} →
    NamesLabels old held labels new now → HasBegunLabels old labels new
named_begun {old} {new} {held} {labels} named = record {
  words = named.words;
  some = λ earlier has. record {
    named = labels;
    left = [];
    all = sym (append-nil labels);
    has = named.labels_named earlier has;
  };
}

pub refused_begun : {old new : Names} {labels : List (List ℕ)} {e : NamerError} →
    RefusesLabels old labels new e → HasBegunLabels old labels new
refused_begun r = record { words = r.words; some = r.some }

-- ---- what holds of an answer
pub ok_then : {X E : Type 0} {P Q : Type 0} (r : Result X E) → (P → Q) → OnOk r P → OnOk r Q
ok_then (Ok x) then holds = then holds
ok_then (Err e) then holds = tt

-- ---- a loop that names labels
-- the labels are some that are named, and those that are left
pub record NamedSoFar (old : Names) (held labels left : List (List ℕ)) (new : Names)
    (now : List (List ℕ)) : Type 0 where
  pub named : List (List ℕ)
  pub all : labels ≡ named ++ left
  pub so_far : NamesLabels old held named new now

pub so_far_none : (old : Names) (held labels : List (List ℕ)) →
    NamedSoFar old held labels labels old held
so_far_none old held labels =
    record { named = []; all = refl; so_far = names_none old held }

-- more of them are named
pub so_far_more : {old mid new : Names} {held labels between now : List (List ℕ)}
    (here left left1 : List (List ℕ)) → NamedSoFar old held labels left mid between →
    left ≡ here ++ left1 → NamesLabels mid between here new now →
    NamedSoFar old held labels left1 new now
so_far_more here left left1 s split more = record {
  named = s.named ++ here;
  all = s.all ∙ (ap (λ ls. s.named ++ ls) split ∙ sym (append_assoc s.named here left1));
  so_far = names_then s.so_far more;
}

-- all are
pub so_far_all : {old new : Names} {held now : List (List ℕ)} (labels left : List (List ℕ)) →
    NamedSoFar old held labels left new now → left ≡ [] → NamesLabels old held labels new now
so_far_all {old} {new} {held} {now} labels left s none =
    subst (λ ls. NamesLabels old held ls new now)
    (sym (s.all ∙ (ap (λ ls. s.named ++ ls) none ∙ append-nil s.named))) s.so_far

-- the next ones are refused
pub so_far_refused : {old mid new : Names} {held between : List (List ℕ)} (labels here left left1 : List (List ℕ))
    (e : NamerError) → NamedSoFar old held labels left mid between → left ≡ here ++ left1 →
    RefusesLabels mid here new e → RefusesLabels old labels new e
so_far_refused {old} {mid} {new} labels here left left1 e s split r =
    subst (λ ls. RefusesLabels old ls new e)
    (sym (s.all ∙ ap (λ ls. s.named ++ ls) split))
    (refused_later s.named (here ++ left1) e s.so_far (refused_first here left1 e r))
