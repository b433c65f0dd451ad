use Rattle.std.proofs.Common.{◌≡◌, ◌++◌}
use Rattle.naga_listing.specs.Lines.{items_below}
use Rattle.naga_listing.proofs.lines.add_items.Given as goal

abbrev pub invariant-loop-index : goal.invariant-loop-index
invariant-loop-index l =
    l.lines.items ≡ l.initial.lines.items ++ items_below l.title l.index
