use Rattle.std.proofs.Common.{◌≢◌, length, sym, arith}
use Rattle.naga_acceptance.proofs.Passing.{are_passed-unequal}
use Rattle.naga_acceptance.specs.KnownTypes.{known_types}
use Rattle.naga_acceptance.proofs.statements.are_passed.Goals as goal

pub returns-then-arguments-values : goal.returns-then-arguments-values
returns-then-arguments-values c =
    let other : length c.args.arguments.now ≢ length c.args.values.now = omega (arith, c.if-arguments-values.true)
    in sym (are_passed-unequal c.args.types.now (known_types c.args.known) c.args.arguments.now c.args.values.now other)
