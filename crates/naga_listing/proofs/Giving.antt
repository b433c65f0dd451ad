-- The statement that gives an expression is sought in one list after another.
use Rattle.std.proofs.Common.{◌≡◌, ℕ, List, [], ◌∷◌, ◌++◌, refl, ap, ◌∙◌, sym, Bool, true, false}
use Rattle.std.specs.Hash.DefaultHasher.{wrapping_add}
use Rattle.std.specs.Prelude.{Result, Ok, Err, if◌then◌else◌}
use Rattle.naga_ir.specs.StatementTree.{StatementTree, BlockTree, statement, CaseTrees, case}
use Rattle.naga_ir.specs.declared.statement.SwitchValue.{SwitchValue}
use Rattle.naga_ir.specs.InOrder.{case_trees, trees_in}
use Rattle.naga_listing.specs.Givers.{gives, giving}
use Rattle.naga_listing.specs.Named.{statement_trees}

-- goes on in another list
abbrev pub onward : (h : ℕ) → Result ℕ ℕ → List StatementTree → Result ℕ ℕ
onward h (Ok n) ss = Ok n
onward h (Err next) ss = giving h next ss

-- by whether the first statement gives it
one_more : (given : Bool) (h n : ℕ) (rest more : Result ℕ ℕ) (ts : List StatementTree)
    → more ≡ onward h rest ts
    → (if given then Ok n else more) ≡ onward h (if given then Ok n else rest) ts
one_more true h n rest more ts so_far = refl
one_more false h n rest more ts so_far = so_far

pub giving_append : (h n : ℕ) (ss ts : List StatementTree)
    → giving h n (ss ++ ts) ≡ onward h (giving h n ss) ts
giving_append h n [] ts = refl
giving_append h n (s ∷ ss) ts =
    one_more (gives h s) h n (giving h (wrapping_add n 1) ss) (giving h (wrapping_add n 1) (ss ++ ts)) ts
    (giving_append h (wrapping_add n 1) ss ts)

-- it is found in the first list, or then in the second
pub given_first : (h n k : ℕ) (ss ts : List StatementTree)
    → giving h n ss ≡ Ok k → giving h n (ss ++ ts) ≡ Ok k
given_first h n k ss ts here = giving_append h n ss ts ∙ ap (λ r. onward h r ts) here

pub given_then : (h n next : ℕ) (ss ts : List StatementTree) (r : Result ℕ ℕ)
    → giving h n ss ≡ Err next → giving h next ts ≡ r → giving h n (ss ++ ts) ≡ r
given_then h n next ss ts r past there =
    giving_append h n ss ts ∙ ap (λ q. onward h q ts) past ∙ there

-- ---- loops over statements and cases
pub block_found : (h n k : ℕ) (b b' : BlockTree) (s : StatementTree) (whole : Result ℕ ℕ)
    → b ≡ statement s b' → Ok k ≡ giving h n (statement_trees s)
    → giving h n (trees_in b) ≡ whole → Ok k ≡ whole
block_found h n k b b' s whole split here so_far =
    sym (given_first h n k (statement_trees s) (trees_in b') (sym here))
    ∙ ap (λ d. giving h n (trees_in d)) (sym split) ∙ so_far

pub block_more : (h n next : ℕ) (b b' : BlockTree) (s : StatementTree) (whole : Result ℕ ℕ)
    → b ≡ statement s b' → Err next ≡ giving h n (statement_trees s)
    → giving h n (trees_in b) ≡ whole → giving h next (trees_in b') ≡ whole
block_more h n next b b' s whole split past so_far =
    sym (ap (λ d. giving h n (trees_in d)) split
    ∙ given_then h n next (statement_trees s) (trees_in b') (giving h next (trees_in b')) (sym past) refl)
    ∙ so_far

pub cases_found : (h n k : ℕ) (cs cs' : CaseTrees) (v : SwitchValue) (b : BlockTree) (falls : Bool)
    (whole : Result ℕ ℕ) → cs ≡ case v b falls cs' → Ok k ≡ giving h n (trees_in b)
    → giving h n (case_trees cs) ≡ whole → Ok k ≡ whole
cases_found h n k cs cs' v b falls whole split here so_far =
    sym (given_first h n k (trees_in b) (case_trees cs') (sym here))
    ∙ ap (λ d. giving h n (case_trees d)) (sym split) ∙ so_far

pub cases_more : (h n next : ℕ) (cs cs' : CaseTrees) (v : SwitchValue) (b : BlockTree)
    (falls : Bool) (whole : Result ℕ ℕ) → cs ≡ case v b falls cs'
    → Err next ≡ giving h n (trees_in b)
    → giving h n (case_trees cs) ≡ whole → giving h next (case_trees cs') ≡ whole
cases_more h n next cs cs' v b falls whole split past so_far =
    sym (ap (λ d. giving h n (case_trees d)) split
    ∙ given_then h n next (trees_in b) (case_trees cs') (giving h next (case_trees cs')) (sym past) refl)
    ∙ so_far
