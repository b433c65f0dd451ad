use Rattle.std.proofs.Common.{◌≡◌, ◌≤◌, drop}
use Rattle.module_positions.specs.JsonNesting.{nest_past}
use Rattle.module_positions.specs.declared.json_nesting.Within.TheVariants as within
use Rattle.module_positions.proofs.json_nesting.nests_past.Given as goal

abbrev pub invariant-loop-byte : goal.invariant-loop-byte
invariant-loop-byte l =
    (l.opened ≤ l.most) × (nest_past l.most within.Outside 0 l.json ≡ nest_past l.most l.within l.opened
    (drop l.byte-index l.json))
