-- those that were taken, with those to come, are all, in order
use Rattle.std.proofs.Common.{◌≡◌, ◌++◌}
use Rattle.std.specs.Ordering.{nat_cmp}
use Rattle.std.specs.List.Sorted.{IsStrictlySortedBy}
use Rattle.std.specs.Map.{keys_of}
use Rattle.naga_json.proofs.labels.in_order.Given as goal

abbrev pub invariant-loop-index : goal.invariant-loop-index
invariant-loop-index l = (l.read.entries ++ l.index-iterator ≡ l.fn.labels.entries)
    × IsStrictlySortedBy nat_cmp (keys_of l.fn.labels.entries)
