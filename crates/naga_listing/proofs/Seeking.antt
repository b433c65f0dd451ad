-- A statement is sought in one list after another.
use Rattle.std.proofs.Common.{◌≡◌, ℕ, ◌+◌, zero, suc, List, [], ◌∷◌, ◌++◌, refl}
use Rattle.std.proofs.Common.{ap, ◌∙◌, sym, slice_get, Bool, arith}
use Rattle.std.specs.Prelude.{Result, Ok, Err}
use Rattle.std.specs.Result.{result_ok}
use Rattle.naga_ir.specs.StatementTree.{StatementTree, BlockTree, statement, CaseTrees, case}
use Rattle.naga_ir.specs.declared.statement.SwitchValue.{SwitchValue}
use Rattle.naga_ir.specs.InOrder.{case_trees, trees_in}
use Rattle.naga_listing.specs.Named.{sought, statement_trees}

-- goes on in another list
abbrev pub onward : Result StatementTree ℕ → List StatementTree → Result StatementTree ℕ
onward (Ok s) ss = Ok s
onward (Err left) ss = sought left ss

pub sought_append : (left : ℕ) (ss ts : List StatementTree)
    → sought left (ss ++ ts) ≡ onward (sought left ss) ts
sought_append left [] ts = refl
sought_append zero (s ∷ ss) ts = refl
sought_append (suc left) (s ∷ ss) ts = sought_append left ss ts

-- it is found in the first list, or then in the second
pub found_first : (left : ℕ) (ss ts : List StatementTree) (s : StatementTree)
    → sought left ss ≡ Ok s → sought left (ss ++ ts) ≡ Ok s
found_first left ss ts s here = sought_append left ss ts ∙ ap (λ r. onward r ts) here

pub found_then : (left rest : ℕ) (ss ts : List StatementTree) (r : Result StatementTree ℕ)
    → sought left ss ≡ Err rest → sought rest ts ≡ r → sought left (ss ++ ts) ≡ r
found_then left rest ss ts r past there =
    sought_append left ss ts ∙ ap (λ q. onward q ts) past ∙ there

-- where some are to be gone past
pub sought_past : (left rest : ℕ) (s : StatementTree) (ss : List StatementTree)
    → rest + 1 ≡ left → sought left (s ∷ ss) ≡ sought rest ss
sought_past zero rest s ss e = absurd (omega arith)
sought_past (suc left) rest s ss e = let same : left ≡ rest = omega arith in
    ap (λ n. sought n ss) same

-- what is found is the item of that number
pub sought_item : (n : ℕ) (ss : List StatementTree) → result_ok (sought n ss) ≡ slice_get ss n
sought_item n [] = refl
sought_item zero (s ∷ ss) = refl
sought_item (suc n) (s ∷ ss) = sought_item n ss

-- ---- loops over statements and cases
-- a statement of a block is the one, or it is among those after it
pub block_found : (left first : ℕ) (b b' whole : BlockTree) (s found : StatementTree)
    → b ≡ statement s b' → Ok found ≡ sought left (statement_trees s)
    → sought left (trees_in b) ≡ sought first (trees_in whole)
    → Ok found ≡ sought first (trees_in whole)
block_found left first b b' whole s found split here so_far =
    sym (found_first left (statement_trees s) (trees_in b') found (sym here))
    ∙ ap (λ d. sought left (trees_in d)) (sym split) ∙ so_far

pub block_more : (left rest first : ℕ) (b b' whole : BlockTree) (s : StatementTree)
    → b ≡ statement s b' → Err rest ≡ sought left (statement_trees s)
    → sought left (trees_in b) ≡ sought first (trees_in whole)
    → sought rest (trees_in b') ≡ sought first (trees_in whole)
block_more left rest first b b' whole s split past so_far =
    sym (ap (λ d. sought left (trees_in d)) split
    ∙ found_then left rest (statement_trees s) (trees_in b') (sought rest (trees_in b')) (sym past) refl)
    ∙ so_far

pub cases_found : (left first : ℕ) (cs cs' whole : CaseTrees) (v : SwitchValue) (b : BlockTree)
    (falls : Bool) (found : StatementTree) → cs ≡ case v b falls cs'
    → Ok found ≡ sought left (trees_in b)
    → sought left (case_trees cs) ≡ sought first (case_trees whole)
    → Ok found ≡ sought first (case_trees whole)
cases_found left first cs cs' whole v b falls found split here so_far =
    sym (found_first left (trees_in b) (case_trees cs') found (sym here))
    ∙ ap (λ d. sought left (case_trees d)) (sym split) ∙ so_far

pub cases_more : (left rest first : ℕ) (cs cs' whole : CaseTrees) (v : SwitchValue)
    (b : BlockTree) (falls : Bool) → cs ≡ case v b falls cs'
    → Err rest ≡ sought left (trees_in b)
    → sought left (case_trees cs) ≡ sought first (case_trees whole)
    → sought rest (case_trees cs') ≡ sought first (case_trees whole)
cases_more left rest first cs cs' whole v b falls split past so_far =
    sym (ap (λ d. sought left (case_trees d)) split
    ∙ found_then left rest (trees_in b) (case_trees cs') (sought rest (case_trees cs')) (sym past) refl)
    ∙ so_far
