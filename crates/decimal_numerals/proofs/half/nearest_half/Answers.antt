use Rattle.std.proofs.Common.{arith, rules, ◌*◌, ◌^◌}
use Rattle.decimal_numerals.proofs.Halves.{unit_has_room}
use Rattle.decimal_numerals.proofs.half.nearest_half.Goals as goal

pub overflow_mul-den : goal.overflow_mul-den
overflow_mul-den c =
    let at = c.binary_digits.ensures.same in
    let room = unit_has_room (c.args.num * 2 ^ 24) c.args.den c.saturating_sub-dropped.result
    (omega (arith, c.requires.num)) c.requires.den c.requires.some
    (omega (arith, at, c.saturating_sub-dropped.ensures)) in
    search (rules, room)
