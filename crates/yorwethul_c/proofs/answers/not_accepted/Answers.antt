use Rattle.std.proofs.Common.{string_bytes}
use Rattle.module_positions.specs.Faults.{TellsFaultAt}
use Rattle.yorwethul_c.specs.declared.status.Status.TheVariants as status
use Rattle.yorwethul_c.proofs.Told.{settled_that}
use Rattle.yorwethul_c.proofs.answers.not_accepted.Goals as goal

pub returns : goal.returns
returns c =
    let s = c.args.shader.now in
    settled_that string_bytes
    (TellsFaultAt s.holder s.module s.info c.args.fault) c.fault_line-text.result
    status.NotAccepted _ _ c.fault_line-text.ensures c.settled.ensures.text c.settled.ensures.memory
