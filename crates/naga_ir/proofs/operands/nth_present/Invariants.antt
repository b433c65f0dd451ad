use Rattle.std.proofs.Common.{◌≡◌, ◌+◌, ◌≤◌, drop, slice_get}
use Rattle.std.specs.List.{flat_map}
use Rattle.std.specs.Option.{option_to_list}
use Rattle.naga_ir.proofs.operands.nth_present.Given as goal

-- what is left to be found stands among what is left of the handles
abbrev pub invariant-loop-handle : goal.invariant-loop-handle
invariant-loop-handle l = record {
  found : slice_get (flat_map option_to_list (drop l.handle-index l.handles)) l.left ≡
      slice_get (flat_map option_to_list l.handles) l.number;
  passed : l.number ≤ l.left + l.handle-index;
}
