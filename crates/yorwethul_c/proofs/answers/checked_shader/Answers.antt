use Rattle.std.proofs.Common.{refl, rules}
use Rattle.module_positions.specs.Faults.{TellsFaultAt}
use Rattle.yorwethul_c.specs.Answers.{TellsOfChecking}
use Rattle.yorwethul_c.specs.declared.status.Status.TheVariants as status
use Rattle.yorwethul_c.proofs.Told.{accepted_by, faulty, said_that}
use Rattle.yorwethul_c.proofs.answers.checked_shader.Goals as goal

pub returns-in-Some : goal.returns-in-Some
returns-in-Some c =
    let s = c.args.shader.now in
    λ json was_read. said_that (TellsOfChecking json)
    (TellsFaultAt s.holder s.module s.info c.in-Some.fault) status.NotAccepted _ _
    (faulty json s.holder s.module s.info _ _ _ was_read c.in-Some.is c.unaccepted.ensures.fault) refl
    c.not_accepted.ensures

pub returns-in-None : goal.returns-in-None
returns-in-None c =
    let s = c.args.shader.now in
    λ json was_read. (
      accepted_by json s.holder s.module s.info _ was_read c.in-None.is c.unaccepted.ensures.accepted,
      search rules,
    )
