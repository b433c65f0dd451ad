use Rattle.std.proofs.Common.{true}
use Rattle.decimal_floats.proofs.Acceptance.{keeping_is_accepted}
use Rattle.decimal_floats.proofs.digits.keep_digits.Goals as goal

pub returns-clause-accepted : goal.returns-clause-accepted
returns-clause-accepted c = keeping_is_accepted c.args.«module».now true
