use Rattle.naga_listing.proofs.AddedLines.{items_more}
use Rattle.naga_listing.proofs.lines.add_items.Goals as goal

pub loop-index-preserved : goal.loop-index-preserved
loop-index-preserved c =
    items_more _ _ _ _ _ _ c.loop-index.invariant c.spot_in.ensures c.in_ok-push_line.ensures
