-- Lines are chosen from the last to the first.
use Rattle.std.proofs.Common.{◌≡◌, ℕ, ◌+◌, ◌<◌, List, length, drop, ap, slice_index_or, suc, ◌∙◌}
use Rattle.std.proofs.Common.{arith}
use Rattle.naga_listing.specs.Choice.{shown_from, with_any}
use Rattle.naga_listing.specs.declared.positions.Line.{Line}
use Rattle.naga_listing.specs.declared.positions.Spot.{Spot}
use Rattle.std.proofs.lemmas.List.{drop_more}

pub shown_next : (marked : ℕ) (spots : List Spot) (ls : List Line) (i : ℕ) (d : Line)
    → i < length ls → shown_from marked spots i (drop i ls)
    ≡ with_any marked spots i (slice_index_or ls i d)
    (shown_from marked spots (i + 1) (drop (i + 1) ls))
shown_next marked spots ls i d h =
    let next : suc i ≡ i + 1 = omega arith in
    ap (shown_from marked spots i) (drop_more ls i d h)
    ∙ ap (λ n. with_any marked spots i (slice_index_or ls i d)
    (shown_from marked spots n (drop (i + 1) ls))) next
