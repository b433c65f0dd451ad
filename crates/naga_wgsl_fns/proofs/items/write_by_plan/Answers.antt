use Rattle.naga_wgsl_fns.proofs.SingleFunctions.{for_plan, refused, writes}
use Rattle.naga_wgsl_fns.proofs.items.write_by_plan.Goals as goal

pub returns-in_err-plan-clause-function : goal.returns-in_err-plan-clause-function
returns-in_err-plan-clause-function g c =
    λ earlier has.
    let k = c.args.known.now in
    let m = k.shader.now in
    let info = k.info.now in
    let content = g.W.TextSink.text c.args.out.now in
    let before = g.W.TextSink.failures c.args.out.now in
    refused m info k.flags earlier c.args.ty.now content before c.from_residual.result
    _ c.plan_of.new.namer c.from_residual.ensures.1
    (for_plan m info k.flags earlier c.args.ty.now content before _
    (c.in_err-plan.ensures.err earlier has))
    (c.in_err-plan.ensures.begun.some earlier has)

pub returns-in_err-plan-clause-words : goal.returns-in_err-plan-clause-words
returns-in_err-plan-clause-words g c = c.in_err-plan.ensures.begun.words

pub returns-clause-function : goal.returns-clause-function
returns-clause-function g c =
    λ earlier has.
    let k = c.args.known.now in
    writes k.shader.now k.info.now k.flags earlier c.args.ty.now c.requires.known.accepted
    c.requires.head c.requires.there c.args.namer.now c.plan_of.new.namer c.requires.words has
    c.in_ok-plan.plan c.in_ok-plan.ensures.ok c.in_ok-plan.ensures.named c.write_planned.result
    (g.W.TextSink.text c.args.out.now) (g.W.TextSink.text c.write_planned.new.out)
    (g.W.TextSink.failures c.args.out.now) (g.W.TextSink.failures c.write_planned.new.out)
    c.write_planned.ensures.text_ok c.write_planned.ensures.text_err
    c.write_planned.ensures.failures_ok c.write_planned.ensures.reason

pub returns-clause-words : goal.returns-clause-words
returns-clause-words g c = c.in_ok-plan.ensures.named.words
