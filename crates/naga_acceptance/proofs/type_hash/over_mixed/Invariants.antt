use Rattle.std.proofs.Common.{◌≡◌, true, [], unwrap_or}
use Rattle.std.specs.Option.{is_some}
use Rattle.naga_acceptance.specs.Uses.{all_mixed}
use Rattle.naga_acceptance.specs.Views.{over_key, rank}
use Rattle.naga_acceptance.proofs.type_hash.over_mixed.Given as goal

-- what is left has a form, and mixed into what is mixed so far gives what is wanted
abbrev pub invariant-loop-top : goal.invariant-loop-top
invariant-loop-top l =
    (is_some (over_key l.fn.types l.over) ≡ true)
    × (all_mixed l.hash (unwrap_or (over_key l.fn.types l.over) [])
    ≡ all_mixed l.fn.hash (unwrap_or (over_key l.fn.types l.fn.over) []))

abbrev pub decreases-loop-top : goal.decreases-loop-top
decreases-loop-top l = rank l.over
