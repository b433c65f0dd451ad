use Rattle.std.proofs.Common.{◌≡◌}
use Rattle.std.specs.List.{enumerate_from}
use Rattle.naga_acceptance.specs.FirstUses.{other_type}
use Rattle.naga_acceptance.specs.Searching.{first_faulty}
use Rattle.naga_acceptance.specs.Uses.{group_of, operation}
use Rattle.naga_acceptance.proofs.other_uses.first_other_in.Given as goal

abbrev pub invariant-loop-handle : goal.invariant-loop-handle
invariant-loop-handle l =
    first_faulty (other_type l.types l.here (group_of l.group) (operation l.types l.used)) (l.handle-iterator)
    ≡ first_faulty (other_type l.types l.here (group_of l.group) (operation l.types l.used))
    (enumerate_from 0 (group_of l.group).expressions)
