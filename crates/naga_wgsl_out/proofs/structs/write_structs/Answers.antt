use Rattle.std.proofs.Common.{◌∙◌}
use Rattle.naga_wgsl_out.proofs.ArenaLoops.{at_first, at_last, at_next, is_there}
use Rattle.naga_wgsl_out.proofs.StructRows.{structs_row}
use Rattle.naga_wgsl_out.proofs.structs.write_structs.Goals as goal

pub loop-handle-init : goal.loop-handle-init
loop-handle-init g c =
    at_first _ _ _ _ _ (structs_row c.args.text.now.shader.now)
    (c.into_iter-handle-iterator.ensures.into_iter_gives ∙ c.iter-handle-items.ensures)

pub write_declared-requires-clause-there : goal.write_declared-requires-clause-there
write_declared-requires-clause-there g c =
    is_there _ _ _ _ _ _ _ _ c.loop-handle.invariant c.in-Some.ensures.steps

pub loop-handle-preserved : goal.loop-handle-preserved
loop-handle-preserved g c =
    at_next _ _ _ _ _ _ _ _ _ c.loop-handle.invariant c.in-Some.ensures.steps
    c.write_declared.ensures

pub returns : goal.returns
returns g c = at_last _ _ _ _ _ _ c.loop-handle.invariant c.in-None.ensures.steps.0
