use Rattle.std.proofs.Common.{rules}
use Rattle.std.proofs.lemmas.Fmt.{decimal_nonempty}
use Rattle.float_numerals.proofs.text.push_double_numeral.Goals as goal

pub push_double_digits-requires-clause-some : goal.push_double_digits-requires-clause-some
push_double_digits-requires-clause-some c = search (rules, decimal_nonempty c.args.decimal.digits)
