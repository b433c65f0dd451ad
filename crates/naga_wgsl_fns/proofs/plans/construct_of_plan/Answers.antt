use Rattle.std.proofs.Common.{◌≡◌, Some, subst, sym}
use Rattle.std.specs.Prelude.{IsFalse, IsSomeAnd}
use Rattle.module_semantics.specs.ExpressionForms.{expression_has_form}
use Rattle.naga_tables.specs.Refusals.{expression_refusal}
use Rattle.naga_wgsl_fns.specs.PlanRefusals.{IsConstructOf, IsOfPlan}
use Rattle.naga_wgsl_fns.proofs.plans.construct_of_plan.Goals as goal

pub returns-in-WithoutForm-clause-ok : goal.returns-in-WithoutForm-clause-ok
returns-in-WithoutForm-clause-ok c =
    let m = c.args.known.now.shader.now in
    let f = c.args.function.now in
    let known = c.args.info.now in
    let it = c.refused_expression.result in
    let lacks = subst (λ o. IsSomeAnd o (λ e. IsFalse (expression_has_form m known f.expressions e)))
    c.index-expression.ensures (subst (IsOfPlan m f known) c.in-WithoutForm.is c.requires.unsupported) in
    subst (λ error. IsConstructOf m f known error it) (sym c.in-WithoutForm.is)
    (subst (λ o. IsSomeAnd o (λ e. expression_refusal m known f.expressions e ≡ Some it))
    (sym c.index-expression.ensures)
    (c.refused_expression.ensures f.expressions lacks))
