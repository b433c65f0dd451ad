use Rattle.std.proofs.Common.{length, subst}
use Rattle.std.specs.Prelude.{IfOk}
use Rattle.module_semantics.specs.Written.{OfFunctionAt}
use Rattle.naga_form.proofs.declarations.AcceptedGroups.{fits_in_range, known_is_fit}
use Rattle.naga_scope.proofs.Planned.{of_the_ok}
use Rattle.naga_wgsl_fns.proofs.PlanRefusals.{is_of_plan}
use Rattle.naga_scope.specs.KnownModules.{explicit_in, number_in}
use Rattle.naga_wgsl_fns.specs.PlanRefusals.{IsConstructOf}
use Rattle.naga_wgsl_fns.proofs.plans.plan_or_refusal.Goals as goal

pub construct_of_plan-requires-clause-types : goal.construct_of_plan-requires-clause-types
construct_of_plan-requires-clause-types c =
    let k = c.args.known.now in
    let m = k.shader.now in
    λ h known at. fits_in_range (length m.overrides) m.types known.ty
    (known_is_fit m k.info.now c.requires.known.accepted (number_in k c.args.ty.now) c.function_of.result.1.now
    c.function_of.ensures.known h known at)

pub construct_of_plan-requires-clause-unsupported : goal.construct_of_plan-requires-clause-unsupported
construct_of_plan-requires-clause-unsupported c =
    let k = c.args.known.now in
    is_of_plan (explicit_in k) k.shader.now k.info.now c.requires.known.accepted
    (number_in k c.args.ty.now) c.function_of.result.0.now c.function_of.ensures.function
    c.function_of.result.1.now c.function_of.ensures.known _ c.in-Err.error c.in-Err.ensures.err

pub returns-in-Ok-construct_of_plan-clause-err : goal.returns-in-Ok-construct_of_plan-clause-err
returns-in-Ok-construct_of_plan-clause-err c =
    let k = c.args.known.now in
    let m = k.shader.now in
    let info = k.info.now in
    let number = number_in k c.args.ty.now in
    record {
      error = c.in-Err.error;
      refused = c.in-Err.ensures.err;
      first = c.in-Err.ensures.first;
      construct = subst
          (λ r. IfOk r (λ it. OfFunctionAt m info number (λ f es. IsConstructOf m f es c.in-Err.error it)))
          c.in-Ok-construct_of_plan.is
          (of_the_ok (λ f es it. IsConstructOf m f es c.in-Err.error it) m info number
          c.function_of.result.0.now c.function_of.result.1.now c.function_of.ensures.function
          c.function_of.ensures.known
          c.construct_of_plan.result c.construct_of_plan.ensures.ok);
      part = c.function_position-part.ensures;
    }
