use Rattle.std.proofs.Common.{◌∙◌, ap}
use Rattle.naga_words.proofs.Writing.{writes_as, writes_then}
use Rattle.naga_wgsl_fns.specs.Functions.{group_end_text}
use Rattle.naga_wgsl_out.proofs.ArenaLoops.{at_first, at_last, at_next, is_there}
use Rattle.naga_wgsl_out.proofs.ConstantRows.{constants_are, constants_row}
use Rattle.naga_wgsl_out.proofs.constants.write_constants.Goals as goal

pub loop-handle-init : goal.loop-handle-init
loop-handle-init g c =
    at_first _ _ _ _ _ (constants_are c.args.text.now.shader.now)
    (c.into_iter-handle-iterator.ensures.into_iter_gives ∙ c.iter-handle-items.ensures)

pub write_if_named-requires-clause-there : goal.write_if_named-requires-clause-there
write_if_named-requires-clause-there g c =
    is_there _ _ _ _ _ _ _ _ c.loop-handle.invariant c.in-Some.ensures.steps

pub loop-handle-preserved : goal.loop-handle-preserved
loop-handle-preserved g c =
    at_next _ _ _ _ _ _ _ _ _ c.loop-handle.invariant c.in-Some.ensures.steps
    c.write_if_named.ensures

pub returns : goal.returns
returns g c =
    writes_as (constants_row c.args.text.now.shader.now)
    (writes_then (at_last _ _ _ _ _ _ c.loop-handle.invariant c.in-None.ensures.steps.0)
    (writes_as (ap group_end_text c.are_unnamed.ensures) c.write_group_end.ensures))
