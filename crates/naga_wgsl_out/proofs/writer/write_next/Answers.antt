use Rattle.std.proofs.Common.{refl}
use Rattle.module_semantics.proofs.FunctionNumbers.{number_within}
use Rattle.module_semantics.specs.FunctionNumbers.{all_functions, function_number}
use Rattle.naga_scope.specs.KnownModules.{explicit_in}
use Rattle.naga_wgsl_out.proofs.ExpressionNames.{named_plan}
use Rattle.naga_naming.proofs.Refusal.{element}
use Rattle.naga_wgsl_out.proofs.Positions.{appended_told, as_told, known_at, told_of}
use Rattle.naga_wgsl_out.specs.Unwritable.{TellsRefusalOf}
use Rattle.naga_wgsl_out.proofs.Functions.{next_err, next_written, no_plan}
use Rattle.naga_wgsl_out.proofs.writer.write_next.Goals as goal

pub plan_of-requires-clause-words : goal.plan_of-requires-clause-words
plan_of-requires-clause-words g c = c.requires.namer.words

pub write_with_line-requires-clause-named : goal.write_with_line-requires-clause-named
write_with_line-requires-clause-named g c =
    let k = c.args.known.now in
    let m = k.shader.now in
    let number = function_number m c.args.ty.now in
    (named_plan m (explicit_in k) k.info.now number c.args.namer.now
    c.plan_of.new.namer c.in_ok-plan.plan (number_within m c.args.ty.now c.requires.there)
    c.requires.namer c.in_ok-plan.ensures.ok c.in_ok-plan.ensures.named).names

pub returns-in_err-plan-clause-wrote : goal.returns-in_err-plan-clause-wrote
returns-in_err-plan-clause-wrote g c =
    let k = c.args.known.now in
    let m = k.shader.now in
    let number = function_number m c.args.ty.now in
    next_err m k.info.now k.flags number (g.W.TextSink.text c.args.out.now)
    (g.W.TextSink.failures c.args.out.now) c.from_residual.result _ _ c.from_residual.ensures.1
    (no_plan m k.info.now k.flags number (g.W.TextSink.text c.args.out.now)
    (g.W.TextSink.failures c.args.out.now) _
    (c.in_err-plan.ensures.err _ c.requires.namer.labels))

pub returns-clause-wrote : goal.returns-clause-wrote
returns-clause-wrote g c =
    let k = c.args.known.now in
    let m = k.shader.now in
    let number = function_number m c.args.ty.now in
    next_written m k.info.now k.flags number (g.W.TextSink.text c.args.out.now)
    (g.W.TextSink.failures c.args.out.now) (number_within m c.args.ty.now c.requires.there)
    c.args.namer.now c.plan_of.new.namer c.in_ok-plan.plan _ _ c.requires.namer
    c.in_ok-plan.ensures.ok c.in_ok-plan.ensures.named c.write_with_line.result
    c.write_with_line.ensures

pub returns-in_err-plan-clause-told : goal.returns-in_err-plan-clause-told
returns-in_err-plan-clause-told g c =
    let k = c.args.known.now in
    let e = explicit_in k in
    let m = k.shader.now in
    let info = k.info.now in
    let number = function_number m c.args.ty.now in
    let here = element (all_functions m) number (number_within m c.args.ty.now c.requires.there) in
    let known = known_at m info c.requires.can.known.accepted number here.0 here.1 in
    as_told (λ error. TellsRefusalOf e m info c.args.ty.now error) c.from_residual.result _
    c.from_residual.ensures.1
    (told_of e m info c.requires.can.known.accepted number here.0 here.1 known.0 known.1 c.args.namer.now
    c.requires.namer c.args.ty.now refl _ c.in_err-plan.ensures.told)

pub returns-clause-told : goal.returns-clause-told
returns-clause-told g c =
    let k = c.args.known.now in
    let m = k.shader.now in
    appended_told (λ error. TellsRefusalOf (explicit_in k) m k.info.now c.args.ty.now error)
    c.write_with_line.result _ _ _ _ _ c.write_with_line.ensures
