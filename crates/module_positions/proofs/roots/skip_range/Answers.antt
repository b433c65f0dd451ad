use Rattle.std.proofs.Common.{◌+◌, ◌-◌, ap, sym, ◌∙◌}
use Rattle.module_positions.specs.Roots.{skipped_range}
use Rattle.module_positions.proofs.Walking.{skipped_step}
use Rattle.module_positions.proofs.roots.skip_range.Goals as goal

pub loop-index-preserved : goal.loop-index-preserved
loop-index-preserved c =
    let n = c.args.number in
    let i = c.loop-index.index in
    let e = c.args.end in
    ap (skipped_range n (i + 1) (e - (i + 1))) c.skip_one.ensures
    ∙ sym (skipped_step n i e c.loop-index.values.items c.loop-index-test.true)
    ∙ c.loop-index.invariant
