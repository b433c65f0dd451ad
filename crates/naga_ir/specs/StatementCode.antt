-- A tree of numbers for each block, from which the block can be told.
use Rattle.std.specs.Prelude.{◌≡◌, ℕ, Option, Bool, refl}
use Rattle.std.proofs.Common.{ap}
use Rattle.std.specs.Coded.{Coded, codes}
use base.Stored.{Gv, gnil, gnum, gcons, num}
use Rattle.naga_ir.specs.declared.statement.SwitchValue.{SwitchValue}
use Rattle.naga_ir.specs.StatementTree.{SimpleStatement, StatementTree, simple, block, branch}
use Rattle.naga_ir.specs.StatementTree.{switch, loop, BlockTree, no_statements, statement}
use Rattle.naga_ir.specs.StatementTree.{CaseTrees, no_cases, case}

simple_coded : Coded SimpleStatement
simple_coded = hlevel codes

value_coded : Coded SwitchValue
value_coded = hlevel codes

bool_coded : Coded Bool
bool_coded = hlevel codes

option_coded : Coded (Option ℕ)
option_coded = hlevel codes

mutual
  statement_code : StatementTree → Gv
  statement_code (simple s) = gcons (gnum 0) (simple_coded.code s)
  statement_code (block b) = gcons (gnum 1) (block_code b)
  statement_code (branch c a r) =
      gcons (gnum 2) (gcons (gnum c) (gcons (block_code a) (block_code r)))
  statement_code (switch s cs) = gcons (gnum 3) (gcons (gnum s) (cases_code cs))
  statement_code (loop b c x) =
      gcons (gnum 4) (gcons (option_coded.code x) (gcons (block_code b) (block_code c)))

  block_code : BlockTree → Gv
  block_code no_statements = gnil
  block_code (statement s b) = gcons (statement_code s) (block_code b)

  cases_code : CaseTrees → Gv
  cases_code no_cases = gnil
  cases_code (case v b falls cs) =
      gcons (gcons (value_coded.code v) (gcons (bool_coded.code falls) (block_code b)))
      (cases_code cs)

abbrev first_of : Gv → Gv
first_of (gcons a b) = a
first_of _ = gnil

abbrev rest_of : Gv → Gv
rest_of (gcons a b) = b
rest_of _ = gnil

mutual
  unfolding statement_code block_code cases_code

  statement_inj : (x y : StatementTree) → statement_code x ≡ statement_code y → x ≡ y
  statement_inj (simple s) (simple t) e = ap simple (simple_coded.inj s t (ap rest_of e))
  statement_inj (block b) (block d) e = ap block (block_inj b d (ap rest_of e))
  statement_inj (branch c a r) (branch d b s) e =
      λ i. branch (num (first_of (rest_of (e i)))) (block_inj a b (ap (λ g. first_of (rest_of (rest_of g))) e) i)
      (block_inj r s (ap (λ g. rest_of (rest_of (rest_of g))) e) i)
  statement_inj (switch s cs) (switch t ds) e =
      λ i. switch (num (first_of (rest_of (e i)))) (cases_inj cs ds (ap (λ g. rest_of (rest_of g)) e) i)
  statement_inj (loop b c x) (loop d f y) e =
      λ i. loop (block_inj b d (ap (λ g. first_of (rest_of (rest_of g))) e) i)
      (block_inj c f (ap (λ g. rest_of (rest_of (rest_of g))) e) i)
      (option_coded.inj x y (ap (λ g. first_of (rest_of g)) e) i)
  statement_inj (simple s) (block b) e = absurd cc
  statement_inj (simple s) (branch c a r) e = absurd cc
  statement_inj (simple s) (switch t cs) e = absurd cc
  statement_inj (simple s) (loop b c x) e = absurd cc
  statement_inj (block b) (simple s) e = absurd cc
  statement_inj (block b) (branch c a r) e = absurd cc
  statement_inj (block b) (switch s cs) e = absurd cc
  statement_inj (block b) (loop d c x) e = absurd cc
  statement_inj (branch c a r) (simple s) e = absurd cc
  statement_inj (branch c a r) (block b) e = absurd cc
  statement_inj (branch c a r) (switch s cs) e = absurd cc
  statement_inj (branch c a r) (loop b d x) e = absurd cc
  statement_inj (switch s cs) (simple t) e = absurd cc
  statement_inj (switch s cs) (block b) e = absurd cc
  statement_inj (switch s cs) (branch c a r) e = absurd cc
  statement_inj (switch s cs) (loop b c x) e = absurd cc
  statement_inj (loop b c x) (simple s) e = absurd cc
  statement_inj (loop b c x) (block d) e = absurd cc
  statement_inj (loop b c x) (branch d a r) e = absurd cc
  statement_inj (loop b c x) (switch s cs) e = absurd cc

  block_inj : (x y : BlockTree) → block_code x ≡ block_code y → x ≡ y
  block_inj no_statements no_statements e = refl
  block_inj (statement s b) (statement t d) e =
      λ i. statement (statement_inj s t (ap first_of e) i) (block_inj b d (ap rest_of e) i)
  block_inj no_statements (statement s b) e = absurd cc
  block_inj (statement s b) no_statements e = absurd cc

  cases_inj : (x y : CaseTrees) → cases_code x ≡ cases_code y → x ≡ y
  cases_inj no_cases no_cases e = refl
  cases_inj (case v b falls cs) (case w d drops ds) e =
      λ i. case (value_coded.inj v w (ap (λ g. first_of (first_of g)) e) i)
      (block_inj b d (ap (λ g. rest_of (rest_of (first_of g))) e) i)
      (bool_coded.inj falls drops (ap (λ g. first_of (rest_of (first_of g))) e) i)
      (cases_inj cs ds (ap rest_of e) i)
  cases_inj no_cases (case v b falls cs) e = absurd cc
  cases_inj (case v b falls cs) no_cases e = absurd cc

pub block_coded : Coded BlockTree
block_coded = record {
  code = block_code;
  inj = block_inj;
}
