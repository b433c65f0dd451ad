use Rattle.naga_ir.proofs.Blocks.{has_no_statements-block_of}
use Rattle.naga_ir.proofs.statement.Block.is_empty.Goals as goal

pub returns : goal.returns
returns c = rw (← c.self.view_is) (cc (has_no_statements-block_of c.self.inside.body.items, c.is_empty.ensures))
