use Rattle.std.proofs.Common.{ap, ◌∙◌}
use Rattle.std.specs.Result.{result_err}
use Rattle.naga_acceptance.specs.TextOrder.{text_order}
use Rattle.fault_details.proofs.Passing.{passed_item}
use Rattle.fault_details.proofs.walk.statement_at.Goals as goal

pub returns-in-Ok : goal.returns-in-Ok
returns-in-Ok c = ap result_err c.in-Ok.ensures ∙ passed_item c.args.number (text_order c.args.body.now)

pub returns-in-Err : goal.returns-in-Err
returns-in-Err c = ap result_err c.in-Err.ensures ∙ passed_item c.args.number (text_order c.args.body.now)
