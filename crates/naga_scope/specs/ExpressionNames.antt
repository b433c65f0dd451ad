-- How the names are taken that front ends gave in a function.
use Rattle.std.specs.Prelude.{◌≡◌, ⊤, ℕ, ◌+◌, List, [], ◌∷◌, ◌++◌, length}
use Rattle.module_semantics.specs.ExpressionLabels.{SomeLabelIsFull}
use Rattle.naga_naming.specs.Naming.{HasNamed, Names, name_after}
use Rattle.naga_naming.specs.declared.error.NamerError.{NamerError}
use Rattle.naga_naming.specs.declared.error.NamerError.TheVariants.{Full, KeyFull, Memory}

-- the names of labels, each after the earlier ones and those in front of it
abbrev pub names_following : Names → (earlier labels : List (List ℕ)) → List (List ℕ)
names_following start earlier [] = []
names_following start earlier (label ∷ labels) =
    name_after start earlier label ∷ names_following start (earlier ++ label ∷ []) labels

-- a namer with other uses alone
abbrev pub HasOtherUses : (old new : Names) → Type 0
HasOtherUses old new = new ≡ record old { uses = new.uses }

-- After any labels that were named before, the namer has named these too, one after another, and
-- their names stand after those that were held.
pub record NamesLabels (old : Names) (held labels : List (List ℕ)) (new : Names)
    (now : List (List ℕ)) : Type 0 where
  pub words : HasOtherUses old new
  pub count : length now ≡ length held + length labels
  pub labels_named : (earlier : List (List ℕ)) → HasNamed old earlier →
      HasNamed new (earlier ++ labels)
  pub names : (earlier : List (List ℕ)) → HasNamed old earlier →
      now ≡ held ++ names_following old earlier labels

-- it has named some beginning of these
pub record HasNamedSome (new : Names) (earlier labels : List (List ℕ)) : Type 0 where
  pub named : List (List ℕ)
  pub left : List (List ℕ)
  pub all : labels ≡ named ++ left
  pub has : HasNamed new (earlier ++ named)

-- why one of these labels gets no name: its stem is full, or memory ran out
abbrev pub IsRefusalOfLabels : Names → (earlier labels : List (List ℕ)) → NamerError → Type 0
IsRefusalOfLabels start earlier labels Full = SomeLabelIsFull start earlier labels
IsRefusalOfLabels start earlier labels KeyFull = ⊥
IsRefusalOfLabels start earlier labels (Memory e) = ⊤

-- after any labels that were named before, the namer refused one of these, and has named those in
-- front of it
pub record RefusesLabels (old : Names) (labels : List (List ℕ)) (new : Names)
    (error : NamerError) : Type 0 where
  pub words : HasOtherUses old new
  pub some : (earlier : List (List ℕ)) → HasNamed old earlier → HasNamedSome new earlier labels
  pub why : (earlier : List (List ℕ)) → HasNamed old earlier →
      IsRefusalOfLabels old earlier labels error

-- whatever the answer, it has named some first ones of these after what it had named
pub record HasBegunLabels (old : Names) (labels : List (List ℕ)) (new : Names) : Type 0 where
  pub words : HasOtherUses old new
  pub some : (earlier : List (List ℕ)) → HasNamed old earlier → HasNamedSome new earlier labels
