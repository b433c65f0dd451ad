use Rattle.module_semantics.proofs.FunctionNumbers.{number_within}
use Rattle.module_semantics.specs.FunctionNumbers.{all_functions}
use Rattle.naga_naming.proofs.Refusal.{element}
use Rattle.naga_wgsl_fns.proofs.PlanRefusals.{unplanned_told}
use Rattle.naga_scope.specs.KnownModules.{explicit_in, number_in}
use Rattle.naga_wgsl_fns.proofs.plans.plan_of.Goals as goal

pub returns-in-Err-clause-err : goal.returns-in-Err-clause-err
returns-in-Err-clause-err c =
    let k = c.args.known.now in
    let m = k.shader.now in
    let number = number_in k c.args.ty.now in
    let here = element (all_functions m) number (number_within m c.args.ty.now c.requires.there) in
    λ earlier has.
    unplanned_told (explicit_in k) m k.info.now c.requires.known.accepted number here.0 here.1 earlier _
    c.requires.words has c.in-Err.unplanned c.unplanned_error.result c.in-Err.ensures.err
    c.unplanned_error.ensures

pub returns-in-Err-clause-told : goal.returns-in-Err-clause-told
returns-in-Err-clause-told c =
    (c.in-Err.unplanned, c.in-Err.ensures.err, c.unplanned_error.ensures)
