use Rattle.std.proofs.Common.{◌≡◌, drop}
use Rattle.module_semantics.specs.Enables.{entry_point_needs}
use Rattle.naga_wgsl_out.specs.Enables.{either}
use Rattle.naga_wgsl_out.proofs.FoundEnables.{enables_among}
use Rattle.naga_wgsl_out.proofs.enables.of_entry_points.Given as goal

abbrev pub invariant-loop-point : goal.invariant-loop-point
invariant-loop-point l =
    either l.found (enables_among entry_point_needs (drop l.point-index l.points)) ≡
    enables_among entry_point_needs l.points
