use Rattle.std.proofs.Common.{arith, length, ◌≤◌}
use Rattle.std.proofs.lemmas.Option.{slice_get_past}
use Rattle.naga_acceptance.proofs.Views.{unsupported_identity, nothing_there}
use Rattle.naga_acceptance.proofs.alike.unsupported_level_at.Goals as goal

pub returns-then-index-len : goal.returns-then-index-len
returns-then-index-len c = λ none.
    unsupported_identity c.args.types.now c.args.handle _ c.own_level.result c.index-then-index-len.ensures
    c.own_level.ensures none

pub returns-else-index-len : goal.returns-else-index-len
returns-else-index-len c = λ none.
    let out : length c.args.types.now ≤ c.args.handle = grind arith in
    nothing_there c.args.types.now c.args.handle (slice_get_past _ _ out)
