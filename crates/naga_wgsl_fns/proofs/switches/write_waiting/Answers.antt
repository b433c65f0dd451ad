use Rattle.std.proofs.Common.{refl}
use Rattle.naga_words.proofs.Writing.{leaves_more}
use Rattle.naga_wgsl_fns.proofs.SwitchRows.{waiting_more}
use Rattle.naga_wgsl_fns.proofs.switches.write_waiting.Goals as goal

pub loop-case-preserved : goal.loop-case-preserved
loop-case-preserved g c =
    leaves_more _ _ _ _ _ _ _
    (leaves_more _ _ _ _ _ _ _ c.loop-case.invariant
    (waiting_more c.args.waiting.now c.loop-case.case-index c.case-item.result c.loop-case-test.true
    c.case-item.is) c.write_case_value.ensures)
    refl c.put.ensures
