use Rattle.std.proofs.Common.{arith}
use Rattle.naga_ir.proofs.Blocks.{statement_count-block_of}
use Rattle.naga_ir.proofs.statement.Block.len.Goals as goal

pub returns : goal.returns
returns c = rw (← c.self.view_is) (omega (arith, statement_count-block_of c.self.inside.body.items))
