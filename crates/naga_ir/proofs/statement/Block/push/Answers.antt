use Rattle.naga_ir.proofs.Blocks.{block_of-push}
use Rattle.naga_ir.proofs.statement.Block.push.Goals as goal

pub returns-clause-ok : goal.returns-clause-ok
returns-clause-ok c = rw (c.in_ok-push.ensures.items, ← c.self.view_is) (block_of-push _ _)
