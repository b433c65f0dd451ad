use Rattle.std.proofs.lemmas.List.{drop_all}
use Rattle.module_semantics.specs.Enables.{entry_point_needs}
use Rattle.naga_wgsl_out.proofs.FoundEnables.{found_all, found_at}
use Rattle.naga_wgsl_out.proofs.enables.of_entry_points.Goals as goal

pub loop-point-preserved : goal.loop-point-preserved
loop-point-preserved c =
    found_at entry_point_needs _ _ _ _ _ _ _
    c.loop-point-test.true c.point-item.is c.or-found.ensures c.of_entry_point.ensures
    c.loop-point.invariant

pub returns : goal.returns
returns c =
    found_all entry_point_needs _ _ _
    (drop_all c.loop-point.point-index c.args.points.now c.loop-point-test.false) c.loop-point.invariant
