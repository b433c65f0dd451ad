-- the entry points that have their sizes, with those to come, are as all say
use Rattle.std.proofs.Common.{◌≡◌, drop}
use Rattle.json.specs.Value.{items_view}
use Rattle.naga_json.specs.Modules.{points_sized, seen_module}
use Rattle.naga_json.proofs.sizes.fill_size_overrides.Given as goal

abbrev pub invariant-loop-index : goal.invariant-loop-index
invariant-loop-index l = points_sized l.index (items_view (drop l.index l.point-items)) (seen_module l.«module»)
    ≡ points_sized 0 (items_view l.point-items) (seen_module l.initial.«module»)
