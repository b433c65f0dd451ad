use Rattle.std.proofs.Common.{rules, arith, sym}
use native.Mathlib.Nat.{one-le-pow}
use Rattle.decimal_numerals.proofs.Halves.{below, few_tens, past, tens_have_room, zero_half}
use Rattle.decimal_numerals.proofs.half.half_size.Goals as goal

pub returns-then-tens-gt38-clause-same : goal.returns-then-tens-gt38-clause-same
returns-then-tens-gt38-clause-same c =
    sym (below c.args.digits c.args.exponent c.unsigned_abs-tens.result (search rules) (search rules)
    (search rules) (search rules))

pub pow-requires : goal.pow-requires
pow-requires c = omega (arith, few_tens c.unsigned_abs-tens.result c.if-tens-gt38.false)

pub nearest_half-requires-clause-den : goal.nearest_half-requires-clause-den
nearest_half-requires-clause-den c =
    omega (arith, c.pow.ensures, few_tens c.unsigned_abs-tens.result c.if-tens-gt38.false)

pub nearest_half-requires-clause-some : goal.nearest_half-requires-clause-some
nearest_half-requires-clause-some c =
    omega (arith, c.pow.ensures, one-le-pow c.unsigned_abs-tens.result 10 (omega arith))

pub returns-then-digits-eq0-clause-same : goal.returns-then-digits-eq0-clause-same
returns-then-digits-eq0-clause-same c = sym (zero_half c.args.digits c.args.exponent (search rules) (search rules))

pub returns-then-tens-gt5-clause-same : goal.returns-then-tens-gt5-clause-same
returns-then-tens-gt5-clause-same c =
    sym (past c.args.digits c.args.exponent c.unsigned_abs-tens.result (search rules) (search rules)
    (search rules) (search rules))

pub nearest_half-requires-2-clause-num : goal.nearest_half-requires-2-clause-num
nearest_half-requires-2-clause-num c = tens_have_room c.args.digits c.unsigned_abs-tens.result c.pow-2.result
    (search rules) c.if-tens-gt5.false c.pow-2.ensures
