use Rattle.std.proofs.Common.{rules}
use Rattle.decimal_numerals.proofs.Sizes.{size_is, size_zero}
use Rattle.decimal_numerals.proofs.half.binary_digits.Goals as goal

-- src/half.rt:82:1
pub returns-then-number-eq0-clause-same : goal.returns-then-number-eq0-clause-same
returns-then-number-eq0-clause-same c = size_zero c.args.number (search rules)

-- src/half.rt:82:1
pub returns-else-number-eq0-clause-same : goal.returns-else-number-eq0-clause-same
returns-else-number-eq0-clause-same c =
    size_is c.args.number c.ilog2.result c.ilog2.ensures.power_le c.ilog2.ensures.next_power_gt
