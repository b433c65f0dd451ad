-- The operands of an expression, and of a statement, from one on.
use Rattle.std.proofs.Common.{◌≡◌, ℕ, ◌+◌, ◌∷◌, List, [], Option, Some, None, drop, slice_get, ap}
use Rattle.std.proofs.Common.{sym, ◌∙◌, refl, zero, suc}
use Rattle.std.proofs.lemmas.List.{drop_more}
use Rattle.std.proofs.lemmas.Option.{slice_get_within, get_or_from_slice_get}
use Rattle.naga_ir.specs.declared.expression.Expression.{Expression}
use Rattle.naga_ir.specs.Operands.{expression_operands, operands_from}

pub one_after : (xs : List ℕ) (n x : ℕ) → slice_get xs n ≡ Some x →
    drop n xs ≡ x ∷ drop (n + 1) xs
one_after xs n x there =
    drop_more xs n x (slice_get_within xs n x there)
    ∙ ap (λ y. y ∷ drop (n + 1) xs) (get_or_from_slice_get xs n x x there)

pub none_following : (xs : List ℕ) (n : ℕ) → slice_get xs n ≡ None → drop n xs ≡ []
none_following [] zero is = refl
none_following [] (suc n) is = refl
none_following (x ∷ xs) zero is = absurd cc
none_following (x ∷ xs) (suc n) is = none_following xs n is

pub one_of_them : (o : Option Expression) (e : Expression) (n x : ℕ) → o ≡ Some e →
    slice_get (expression_operands e) n ≡ Some x → operands_from n o ≡ x ∷ operands_from (n + 1) o
one_of_them o e n x is there =
    ap (operands_from n) is
    ∙ one_after (expression_operands e) n x there
    ∙ ap (λ r. x ∷ operands_from (n + 1) r) (sym is)
