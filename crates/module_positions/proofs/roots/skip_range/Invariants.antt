use Rattle.std.proofs.Common.{◌≡◌, ◌-◌}
use Rattle.module_positions.specs.Roots.{skipped_range}
use Rattle.module_positions.proofs.roots.skip_range.Given as goal

abbrev pub invariant-loop-index : goal.invariant-loop-index
invariant-loop-index l =
    skipped_range l.number l.index (l.end - l.index) l.values.items
    ≡ skipped_range l.number l.first (l.end - l.first) l.initial.values.items
