use Rattle.std.proofs.Common.{◌≡◌}
use Rattle.std.specs.Option.{is_some}
use Rattle.naga_acceptance.specs.Views.{depth, over_key}
use Rattle.naga_acceptance.proofs.alike.over_has_type_form.Given as goal

abbrev pub invariant-loop-over : goal.invariant-loop-over
invariant-loop-over l = is_some (over_key l.fn.types l.over) ≡ is_some (over_key l.fn.types l.fn.over)

abbrev pub decreases-loop-over : goal.decreases-loop-over
decreases-loop-over l = depth l.over
