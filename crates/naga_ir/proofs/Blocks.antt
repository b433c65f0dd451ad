-- Blocks made of lists of statements.
use Rattle.std.proofs.Common.{◌≡◌, List, [], ◌∷◌, ◌++◌, length, refl, ap, arith, nat_eq, rules}
use Rattle.naga_ir.specs.declared.statement.Statement.{Statement}
use Rattle.naga_ir.specs.StatementTree.{statement, with_statement}
use Rattle.naga_ir.specs.StatementTree.{statement_count, has_no_statements}
use Rattle.naga_ir.specs.StatementViews.{tree_of, block_of}

pub block_of-push : (ss : List Statement) (s : Statement) →
    block_of (ss ++ s ∷ []) ≡ with_statement (block_of ss) (tree_of s)
block_of-push [] s = refl
block_of-push (x ∷ ss) s = ap (statement (tree_of x)) (block_of-push ss s)

pub statement_count-block_of : (ss : List Statement) → statement_count (block_of ss) ≡ length ss
statement_count-block_of [] = refl
statement_count-block_of (s ∷ ss) = omega (arith, statement_count-block_of ss)

pub has_no_statements-block_of : (ss : List Statement) →
    has_no_statements (block_of ss) ≡ nat_eq (length ss) 0
has_no_statements-block_of [] = refl
has_no_statements-block_of (s ∷ ss) = search rules
