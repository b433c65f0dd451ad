use Rattle.std.proofs.Common.{refl}
use Rattle.module_semantics.proofs.FunctionNumbers.{number_within}
use Rattle.module_semantics.specs.FunctionNumbers.{all_functions, function_number}
use Rattle.naga_scope.specs.KnownModules.{explicit_in}
use Rattle.naga_naming.proofs.Refusal.{element}
use Rattle.naga_wgsl_out.proofs.ExpressionNames.{named_plan, none_full}
use Rattle.naga_wgsl_out.proofs.Positions.{found_in, known_at}
use Rattle.naga_wgsl_out.proofs.unwritable.refused_in.Goals as goal

pub returns-in-Ok : goal.returns-in-Ok
returns-in-Ok c =
    let k = c.args.known.now in
    let m = k.shader.now in
    let number = function_number m c.args.ty.now in
    let within = number_within m c.args.ty.now c.requires.there in
    let plan =
    named_plan m (explicit_in k) k.info.now number c.args.namer.now
    c.plan_or_refusal.new.namer c.in-Ok.plan within c.requires.namer c.in-Ok.ensures.ok
    c.in-Ok.ensures.named in
    record {
      planned = record {
        planned = c.in-Ok.plan;
        plan = plan.plan;
        nameable = none_full m number c.plan_or_refusal.new.namer within plan.namer_is;
      };
      named = plan.namer_is;
    }

pub returns-in-Err : goal.returns-in-Err
returns-in-Err c =
    let k = c.args.known.now in
    let m = k.shader.now in
    let info = k.info.now in
    let number = function_number m c.args.ty.now in
    let here = element (all_functions m) number (number_within m c.args.ty.now c.requires.there) in
    let known = known_at m info c.requires.known.accepted number here.0 here.1 in
    found_in (explicit_in k) m info c.requires.known.accepted number here.0 here.1 known.0 known.1
    c.args.namer.now c.requires.namer c.args.ty.now refl c.plan_or_refusal.new.namer c.refusal_of.result
    c.in-Err.unplanned c.refusal_of.ensures c.in-Err.ensures.err
