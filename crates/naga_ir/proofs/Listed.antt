-- Loops along a list, of statements and of cases among them, and an item of a list.
use Rattle.std.proofs.Common.{◌≡◌, ℕ, zero, suc, ◌+◌, ◌<◌, ◌≤◌, List, [], ◌∷◌, length, drop, sym, ap, ◌∙◌}
use Rattle.std.proofs.Common.{arith, slice_index_or, None}
use Rattle.std.proofs.lemmas.List.{drop_all, drop_more}
use Rattle.std.proofs.lemmas.Option.{none-some}
use Rattle.std.specs.Prelude.{slice_get}
use Rattle.naga_ir.specs.StatementTree.{statement, case}
use Rattle.naga_ir.specs.StatementViews.{block_of, cases_of, tree_of}
use Rattle.naga_ir.specs.declared.statement.Statement.{Statement}
use Rattle.naga_ir.specs.declared.statement.SwitchCase.{SwitchCase}

-- where there is no item, the list has ended
pub past_end : {X : Type 0} (xs : List X) (i : ℕ) → slice_get xs i ≡ None → length xs ≤ i
past_end [] i e = omega arith
past_end (y ∷ xs) zero e = absurd (none-some y (sym e))
past_end (y ∷ xs) (suc i) e = omega (arith, past_end xs i e)

-- a list from one of its items on
pub drop_first : {X : Type 0} (i : ℕ) (xs : List X) (x : X) → i < length xs → x ≡ slice_index_or xs i x →
    drop i xs ≡ x ∷ drop (i + 1) xs
drop_first i xs x lt is = drop_more xs i x lt ∙ ap (λ y. y ∷ drop (i + 1) xs) (sym is)

-- the statements from one of them on
pub first_of : (ss : List Statement) (i : ℕ) (x : Statement) → i < length ss → x ≡ slice_index_or ss i x →
    block_of (drop i ss) ≡ statement (tree_of x) (block_of (drop (i + 1) ss))
first_of ss i x lt is = ap block_of (drop_first i ss x lt is)

pub none_of : (ss : List Statement) (i : ℕ) → length ss ≤ i → block_of (drop i ss) ≡ block_of []
none_of ss i le = ap block_of (drop_all i ss le)

-- the cases from one of them on
pub first_case : (cs : List SwitchCase) (i : ℕ) (x : SwitchCase) → i < length cs → x ≡ slice_index_or cs i x →
    cases_of (drop i cs) ≡ case x.value x.body x.fall_through (cases_of (drop (i + 1) cs))
first_case cs i x lt is = ap cases_of (drop_first i cs x lt is)
