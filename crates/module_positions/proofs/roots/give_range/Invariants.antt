use Rattle.std.proofs.Common.{◌≡◌, ◌-◌}
use Rattle.module_positions.specs.Roots.{given_range}
use Rattle.module_positions.proofs.roots.give_range.Given as goal

abbrev pub invariant-loop-index : goal.invariant-loop-index
invariant-loop-index l =
    given_range l.function.expressions l.number l.index (l.end - l.index) l.values.items
    ≡ given_range l.function.expressions l.number l.first (l.end - l.first) l.initial.values.items
