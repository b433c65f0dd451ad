use Rattle.std.proofs.Common.{◌+◌, length}
use Rattle.naga_scope.specs.KnownModules.{explicit_in}
use Rattle.naga_wgsl_out.proofs.Positions.{AreWritable}
use Rattle.naga_wgsl_out.proofs.unwritable.unwritable_function.Given as goal

abbrev pub invariant-loop-index : goal.invariant-loop-index
invariant-loop-index l =
    AreWritable (explicit_in l.known) l.known.shader.now l.known.info.now l.index l.namer

abbrev pub invariant-loop-index-2 : goal.invariant-loop-index-2
invariant-loop-index-2 l =
    AreWritable (explicit_in l.known) l.known.shader.now l.known.info.now
    (length l.known.shader.now.functions + l.index) l.namer
