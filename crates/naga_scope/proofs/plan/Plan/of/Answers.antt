use Rattle.std.proofs.Common.{[], ◌≡◌, ap, length, subst, sym}
use Rattle.std.specs.Option.{option_map_or}
use Rattle.module_semantics.specs.ExpressionLabels.{expression_labels}
use Rattle.naga_scope.proofs.Results.{results_fit}
use Rattle.naga_form.proofs.declarations.AcceptedGroups.{fits_in_range, known_is_fit}
use Rattle.naga_form.proofs.statements.AcceptedFunctions.{of_number, ranges_are}
use Rattle.naga_form.proofs.operators.Ordered.{operands_stand_before}
use Rattle.std.specs.Prelude.{IfErr, IfOk, OnErr}
use Rattle.naga_scope.specs.ExpressionNames.{HasBegunLabels, NamesLabels}
use Rattle.naga_scope.specs.KnownModules.{labels_in, number_in}
use Rattle.naga_scope.specs.Plans.{IsFirstToPlan, IsFirstToPlanOf, IsPlan, IsPlanOf, IsRefusalToPlan}
use Rattle.naga_scope.specs.Plans.{IsRefusalToPlanOf, LabelsGetNames}
use Rattle.naga_scope.proofs.Planned.{of_the_err, of_the_ok}
use Rattle.naga_scope.proofs.plan.Plan.of.Goals as goal

pub of_function-requires : goal.of_function-requires
of_function-requires c =
    let k = c.args.known.now in
    let m = k.shader.now in
    let info = k.info.now in
    let f = c.function_of.result.0.now in
    let es = c.function_of.result.1.now in
    let g = number_in k c.args.ty in
    let accepted = c.requires.known.accepted in
    let is = of_number m info accepted g f es c.function_of.ensures.function c.function_of.ensures.known in
    record {
      known = c.requires.known;
      ordered = operands_stand_before m is.callees f is.ranges;
      results = results_fit is.callees (length f.expressions) f.body (ranges_are m is.callees f is.ranges).1;
      types = λ h e at. fits_in_range (length m.overrides) m.types e.ty
          (known_is_fit m info accepted g es c.function_of.ensures.known h e at);
    }

pub returns : goal.returns
returns c =
    let k = c.args.known.now in
    let m = k.shader.now in
    let info = k.info.now in
    let g = number_in k c.args.ty in
    let f = c.function_of.result.0.now in
    let es = c.function_of.result.1.now in
    let here = c.function_of.ensures.function in
    let known = c.function_of.ensures.known in
    let answer = c.of_function.result in
    let namer = c.args.namer.now in
    let explicit = c.annotates_types.result in
    let same = c.annotates_types.ensures in
    let labels : expression_labels f ≡ labels_in k c.args.ty =
    sym (ap (λ o. option_map_or expression_labels o []) here) in
    record {
      ok = subst (λ e. IfOk answer (IsPlanOf e m info g)) same
          (of_the_ok (IsPlan explicit m info) m info g f es here known answer c.of_function.ensures.ok);
      named = subst (λ ls. IfOk answer (λ p. NamesLabels namer [] ls c.of_function.new.namer p.named)) labels
          c.of_function.ensures.named;
      err = subst (λ e. IfErr answer (IsRefusalToPlanOf e m info g namer)) same
          (of_the_err (λ f es. IsRefusalToPlan explicit m info f es namer) m info g f es here known answer
          c.of_function.ensures.err);
      first = subst (λ e. IfErr answer (IsFirstToPlanOf e m info g namer)) same
          (of_the_err (λ f es. IsFirstToPlan (LabelsGetNames namer f) explicit m info f es) m info g f es here
          known answer c.of_function.ensures.first);
      begun = subst (λ ls. OnErr answer (HasBegunLabels namer ls c.of_function.new.namer)) labels
          c.of_function.ensures.begun;
    }
