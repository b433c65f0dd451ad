use Rattle.std.proofs.Common.{◌≡◌, drop}
use Rattle.std.specs.List.{list_all}
use Rattle.naga_tables.specs.Marks.{is_marked}
use Rattle.naga_tables.proofs.marks.are_marked.Given as goal

abbrev pub invariant-loop-handle : goal.invariant-loop-handle
invariant-loop-handle l =
    list_all (is_marked l.marks) (drop l.handle-index l.handles) ≡
    list_all (is_marked l.marks) l.handles
