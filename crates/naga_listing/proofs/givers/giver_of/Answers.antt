use Rattle.std.proofs.Common.{ap}
use Rattle.std.specs.Result.{result_ok}
use Rattle.naga_listing.proofs.givers.giver_of.Goals as goal

pub returns-in-Ok : goal.returns-in-Ok
returns-in-Ok c = ap result_ok c.in-Ok.ensures

pub returns-in-Err : goal.returns-in-Err
returns-in-Err c = ap result_ok c.in-Err.ensures
