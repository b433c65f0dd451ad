use Rattle.std.proofs.Common.{ap, ◌∙◌}
use Rattle.std.specs.Result.{result_ok}
use Rattle.naga_ir.specs.InOrder.{trees_in}
use Rattle.naga_listing.proofs.Seeking.{sought_item}
use Rattle.naga_listing.proofs.numbers.statement_at.Goals as goal

pub returns-in-Ok : goal.returns-in-Ok
returns-in-Ok c = ap result_ok c.in-Ok.ensures ∙ sought_item c.args.number (trees_in c.args.body.now)

pub returns-in-Err : goal.returns-in-Err
returns-in-Err c = ap result_ok c.in-Err.ensures ∙ sought_item c.args.number (trees_in c.args.body.now)
