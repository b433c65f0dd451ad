use Rattle.std.proofs.Common.{string_bytes, subst, sym}
use Rattle.module_answers.specs.Refusals.{TellsRefusalAt}
use Rattle.yorwethul_c.specs.Answers.{SaysThat, TellsAnyRefusal}
use Rattle.yorwethul_c.proofs.Told.{said_of_none, settled_that}
use Rattle.yorwethul_c.proofs.answers.told_refusal.Goals as goal

pub returns-in-Some : goal.returns-in-Some
returns-in-Some c =
    let from = c.args.shader.now.holder in
    let m = c.args.shader.now.module in
    subst (λ r. SaysThat (TellsAnyRefusal from m r)
    c.args.status c.settled.result.status (string_bytes c.settled.result.text))
    (sym c.in-Some.is)
    (settled_that string_bytes (TellsRefusalAt from m c.in-Some.refusal) c.refusal_line-text.result
    c.args.status
    _ _ c.refusal_line-text.ensures c.settled.ensures.text c.settled.ensures.memory)

pub returns-in-None : goal.returns-in-None
returns-in-None c =
    let from = c.args.shader.now.holder in
    let m = c.args.shader.now.module in
    subst (λ r. SaysThat (TellsAnyRefusal from m r)
    c.args.status c.told.result.status (string_bytes c.told.result.text))
    (sym c.in-None.is) (said_of_none from m c.args.status _ _ c.told.ensures)
