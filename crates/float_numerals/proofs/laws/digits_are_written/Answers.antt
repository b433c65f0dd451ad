use Rattle.std.proofs.Common.{rules}
use Rattle.float_numerals.proofs.Doubles.{double_in_range}
use Rattle.float_numerals.proofs.Numerals.{decimal_split}
use Rattle.float_numerals.proofs.laws.digits_are_written.Goals as goal

pub returns-clause-whole : goal.returns-clause-whole
returns-clause-whole c = (let s = decimal_split c.args.decimal (search rules) in (s.some, s.whole_digits))

pub returns-clause-fraction : goal.returns-clause-fraction
returns-clause-fraction c = (let s = decimal_split c.args.decimal (search rules) in s.fraction_digits)

pub returns-clause-double_whole : goal.returns-clause-double_whole
returns-clause-double_whole c = (let w = double_in_range c.args.decimal (search rules) (search rules) in
    (w.some, w.whole_digits))

pub returns-clause-double_fraction : goal.returns-clause-double_fraction
returns-clause-double_fraction c =
    (let w = double_in_range c.args.decimal (search rules) (search rules) in w.fraction_digits)
