use Rattle.std.proofs.Common.{◌+◌, ◌-◌, ap, sym, ◌∙◌}
use Rattle.module_positions.specs.Roots.{given_range}
use Rattle.module_positions.proofs.Walking.{given_step}
use Rattle.module_positions.proofs.roots.give_range.Goals as goal

pub loop-index-preserved : goal.loop-index-preserved
loop-index-preserved c =
    let es = c.args.function.now.expressions in
    let n = c.args.number in
    let i = c.loop-index.index in
    let e = c.args.end in
    ap (given_range es n (i + 1) (e - (i + 1))) c.give_one.ensures
    ∙ sym (given_step es n i e c.loop-index.values.items c.loop-index-test.true)
    ∙ c.loop-index.invariant
