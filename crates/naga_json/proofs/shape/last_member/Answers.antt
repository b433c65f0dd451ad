-- The last member of a list is that of what the list is seen as.
use Rattle.std.proofs.Common.{◌≡◌, ℕ, suc, ◌-◌, List, [], ◌∷◌, length, Some, None}
use Rattle.std.proofs.Common.{refl, ◌∙◌, ap, sym, subst, arith, slice_get, Bor, Global}
use Rattle.json.specs.Value.{value_view, members_view}
use Rattle.json.specs.declared.value.Value.{Value}
use Rattle.naga_json.specs.Said.{last_member}
use Rattle.naga_json.proofs.shape.last_member.Goals as goal

some_last : (xs : List (Bor (List ℕ) × Value Global)) (x : Bor (List ℕ) × Value Global) →
    Some x ≡ slice_get xs (length xs - 1) → last_member (members_view xs) ≡ Some (x.0.now, value_view x.1)
some_last [] x e = absurd cc
some_last (y ∷ []) x e = let same : x ≡ y = cc in ap (λ z. Some (z.0.now, value_view z.1)) (sym same)
some_last (y ∷ z ∷ zs) x e =
    let less : length (y ∷ z ∷ zs) - 1 ≡ suc (length (z ∷ zs) - 1) = omega arith in
    some_last (z ∷ zs) x (e ∙ ap (slice_get (y ∷ z ∷ zs)) less)

no_last : (xs : List (Bor (List ℕ) × Value Global)) →
    None ≡ slice_get xs (length xs - 1) → last_member (members_view xs) ≡ None
no_last [] e = refl
no_last (y ∷ []) e = absurd cc
no_last (y ∷ z ∷ zs) e =
    let less : length (y ∷ z ∷ zs) - 1 ≡ suc (length (z ∷ zs) - 1) = omega arith in
    no_last (z ∷ zs) (e ∙ ap (slice_get (y ∷ z ∷ zs)) less)

pub returns-in-Some : goal.returns-in-Some
returns-in-Some c =
    let x = c.in-Some.last.now in
    sym (some_last c.args.members.now.items x
    (subst (λ ys. Some x ≡ slice_get ys (length ys - 1)) c.deref.ensures.value c.in-Some.ensures.value))

pub returns-in-None : goal.returns-in-None
returns-in-None c =
    sym (no_last c.args.members.now.items
    (subst (λ ys. None ≡ slice_get ys (length ys - 1)) c.deref.ensures.value c.in-None.ensures.value))
