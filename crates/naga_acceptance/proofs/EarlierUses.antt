-- What is found among the uses below one bound, and so among those below a further one.
--
-- Throughout, f gives uses for each number, n and m are bounds, v is a use, types are a module's
-- types, gs its groups, of which g has this number, and index is a position in g.
use Rattle.std.proofs.Common.{◌≡◌, ℕ, suc, ◌<◌, true, false, List, [], ◌∷◌, ◌++◌}
use Rattle.std.proofs.Common.{ap, sym, ◌∙◌, Some, None, Option, refl}
use Rattle.std.specs.Option.{is_some, option_to_list}
use Rattle.naga_ir.specs.declared.types.Type_.{Type_}
use Rattle.module_semantics.specs.acceptance.AgreeingOperators.{Group}
use Rattle.module_semantics.specs.acceptance.Operations.{Operation}
use Rattle.naga_acceptance.specs.Uses.{joined_below, use_in, earlier_uses, first_answer}
use Rattle.naga_acceptance.proofs.Agreement.{found_in_front, none_in_front}
use Rattle.naga_acceptance.proofs.Groups.{joined_front, one_more}

-- what is not there
nothing : {X : Type 0} (o : Option X) → is_some o ≡ false → o ≡ None
nothing None e = refl
nothing (Some x) e = absurd cc

-- ---- the first use of an operator

-- none below this bound, and none at it: none below the next
pub none_further : (f : ℕ → List Operation) (n m : ℕ) (v : Operation) →
    first_answer (joined_below f n) v ≡ None → is_some (first_answer (f n) v) ≡ false →
    m ≡ suc n → first_answer (joined_below f m) v ≡ None
none_further f n m v before here next =
    ap (λ k. first_answer (joined_below f k) v) next
    ∙ none_in_front (joined_below f n) (f n) v (ap is_some before)
    ∙ nothing (first_answer (f n) v) here

-- none below this bound, and one at it: that is the first below any further one
pub found_further : (f : ℕ → List Operation) (n m : ℕ) (v : Operation) →
    first_answer (joined_below f n) v ≡ None → is_some (first_answer (f n) v) ≡ true → n < m →
    first_answer (f n) v ≡ first_answer (joined_below f m) v
found_further f n m v before here within =
    let rest = joined_front f (suc n) m within
    in let first = none_in_front (joined_below f n) (f n) v (ap is_some before)
    in sym (ap (λ os. first_answer os v) rest.1
    ∙ found_in_front (joined_below f n ++ f n) rest.0 v (ap is_some first ∙ here)
    ∙ first)

-- ---- one expression further

-- it is a use
pub use_more : (types : List Type_) (gs : List Group) (number : ℕ) (g : Group) (index : ℕ)
    (v : Operation) → use_in types g index ≡ Some v →
    earlier_uses types gs number g (suc index) ≡ earlier_uses types gs number g index ++ v ∷ []
use_more types gs number g index v here =
    one_more types gs number g index
    ∙ ap (λ o. earlier_uses types gs number g index ++ option_to_list o) here
