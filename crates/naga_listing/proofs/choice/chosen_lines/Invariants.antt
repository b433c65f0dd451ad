use Rattle.std.proofs.Common.{◌≡◌, drop}
use Rattle.naga_listing.specs.Choice.{shown_from}
use Rattle.naga_listing.proofs.choice.chosen_lines.Given as goal

abbrev pub invariant-loop-index : goal.invariant-loop-index
invariant-loop-index l = l.kept ≡ shown_from l.marked l.spots l.index (drop l.index l.lines)
