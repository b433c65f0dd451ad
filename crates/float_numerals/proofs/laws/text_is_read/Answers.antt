use Rattle.std.proofs.Common.{rules}
use Rattle.float_numerals.proofs.Doubles.{double_read, decimal_double_is}
use Rattle.float_numerals.proofs.Numerals.{numeral_read, decimal_float_is, decimal_half_is}
use Rattle.float_numerals.proofs.laws.text_is_read.Goals as goal

pub returns-clause-digits : goal.returns-clause-digits
returns-clause-digits c = λ f. decimal_float_is f c.args.decimal (search rules)

pub returns-clause-text : goal.returns-clause-text
returns-clause-text c = λ f. numeral_read f c.args.decimal (search rules)

pub returns-clause-half : goal.returns-clause-half
returns-clause-half c = decimal_half_is c.args.decimal (search rules)

pub returns-clause-double : goal.returns-clause-double
returns-clause-double c = λ f. decimal_double_is f c.args.decimal (search rules)

pub returns-clause-double_text : goal.returns-clause-double_text
returns-clause-double_text c = λ f. double_read f c.args.decimal (search rules) (search rules)
