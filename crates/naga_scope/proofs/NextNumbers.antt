-- Walks along blocks, which count statements.
-- Serves `walk`.
use Rattle.std.proofs.Common.{◌≡◌, ◌∙◌, ◌+◌, ◌<◌, ◌≤◌, ◌^◌, ℕ, suc, ap, arith, length, length-append}
use Rattle.naga_ir.specs.StatementTree.{StatementTree, BlockTree, statement, block_size, statement_size}
use Rattle.naga_ir.specs.InOrder.{trees_in, trees_inside}

-- the statement after a first one and those in its blocks
module _ (n j : ℕ) (st : StatementTree) (b whole : BlockTree) (split : whole ≡ statement st b) where
  count_of : length (trees_in whole) ≡ suc (length (trees_inside st) + length (trees_in b))
  count_of = ap (λ b. length (trees_in b)) split ∙ ap suc (length-append (trees_inside st) (trees_in b))

  pub next_small : (total : ℕ) → n + length (trees_in whole) ≡ total → total < 2 ^ 64 →
      suc n + length (trees_inside st) < 2 ^ 64
  next_small total count few = let of = count_of in omega (arith, count, few, of)

  pub next_smaller : statement_size st + block_size b ≤ block_size whole
  next_smaller = let of = ap block_size split in omega (arith, of)

  module _ (at : j ≡ suc n + length (trees_inside st)) where
    pub next_count : (total : ℕ) → n + length (trees_in whole) ≡ total → j + length (trees_in b) ≡ total
    next_count total count = let of = count_of in omega (arith, at, count, of)
