use Rattle.std.proofs.Common.{◌≡◌, [], drop}
use Rattle.std.specs.List.{enumerate_from}
use Rattle.naga_inference.specs.Inferred.{entry_point_of_module}
use Rattle.naga_inference.specs.Passes.{answers_after}
use Rattle.naga_inference.proofs.inference.entry_points_infos.Given as goal

abbrev pub invariant-loop-index : goal.invariant-loop-index
invariant-loop-index l =
    answers_after (entry_point_of_module l.module) l.infos.items
    (enumerate_from l.index (drop l.index l.module.entry_points.items))
    ≡ answers_after (entry_point_of_module l.module) [] (enumerate_from 0 l.module.entry_points.items)
