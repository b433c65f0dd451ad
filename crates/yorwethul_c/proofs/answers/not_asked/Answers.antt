use Rattle.std.proofs.Common.{string_bytes, subst, sym}
use Rattle.module_answers.specs.Shaders.{TellsUntypedAt}
use Rattle.yorwethul_c.specs.Answers.{SaysOfUnasked}
use Rattle.yorwethul_c.specs.declared.status.Status.TheVariants as status
use Rattle.yorwethul_c.proofs.Told.{settled_that}
use Rattle.yorwethul_c.proofs.answers.not_asked.Goals as goal

pub returns-in-Untyped : goal.returns-in-Untyped
returns-in-Untyped c =
    let m = c.args.«module».now in
    subst (λ r. SaysOfUnasked c.args.holder m r c.settled.result.status (string_bytes c.settled.result.text))
    (sym c.in-Untyped.is)
    (settled_that string_bytes
    (TellsUntypedAt c.args.holder m c.in-Untyped.untyped) c.untyped_line-line.result
    status.NotAccepted _ _ c.untyped_line-line.ensures c.settled.ensures.text c.settled.ensures.memory)
