use Rattle.std.proofs.Common.{◌≡◌, true, [], unwrap_or}
use Rattle.std.specs.Option.{is_some}
use Rattle.std.specs.Str.{bytes_eq}
use Rattle.naga_acceptance.specs.Views.{over_key, rank}
use Rattle.naga_acceptance.proofs.alike.is_over_same.Given as goal

-- both have forms, which are the same where those at the start are
abbrev pub invariant-loop-x : goal.invariant-loop-x
invariant-loop-x l =
    (is_some (over_key l.fn.types l.one) ≡ true) × (is_some (over_key l.fn.types l.other) ≡ true)
    × (bytes_eq (unwrap_or (over_key l.fn.types l.one) []) (unwrap_or (over_key l.fn.types l.other) [])
    ≡ bytes_eq (unwrap_or (over_key l.fn.types l.fn.a) []) (unwrap_or (over_key l.fn.types l.fn.b) []))

abbrev pub decreases-loop-x : goal.decreases-loop-x
decreases-loop-x l = rank l.one
