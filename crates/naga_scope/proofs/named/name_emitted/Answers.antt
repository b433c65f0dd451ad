use Rattle.std.proofs.Common.{◌+◌, ◌-◌, ◌++◌, ◌≡◌, ap, ◌∙◌, sym}
use Rattle.std.specs.Option.{option_to_list}
use Rattle.module_semantics.specs.ExpressionLabels.{label_of, labels_of_each}
use Rattle.shader_runs.specs.Program.{from}
use Rattle.naga_naming.proofs.Reset.{if_err}
use Rattle.naga_scope.specs.ExpressionNames.{RefusesLabels}
use Rattle.naga_scope.proofs.Emitting.{range_more, range_none}
use Rattle.naga_scope.proofs.ExpressionNames.{so_far_all, so_far_more, so_far_none, so_far_refused}
use Rattle.naga_scope.proofs.named.name_emitted.Goals as goal

pub loop-index-init : goal.loop-index-init
loop-index-init c = so_far_none _ _ _

pub returns-in_err-name_expression-clause-err : goal.returns-in_err-name_expression-clause-err
returns-in_err-name_expression-clause-err c =
    let f = c.args.function.now in
    let i = c.loop-index.index in
    let e = c.args.range.end in
    let split : labels_of_each f (from i (e - i)) ≡ option_to_list (label_of f c.from_index.result)
    ++ labels_of_each f (from (i + 1) (e - (i + 1))) =
    ap (labels_of_each f) (range_more i e c.loop-index-test.true)
    ∙ ap (λ h. option_to_list (label_of f h) ++ labels_of_each f (from (i + 1) (e - (i + 1))))
    (sym c.from_index.ensures) in
    if_err c.from_residual.result c.in_err-name_expression.field-0.0
    (RefusesLabels c.args.namer.now (labels_of_each f (from c.args.range.first (e - c.args.range.first)))
    c.name_expression.new.namer)
    c.from_residual.ensures.1
    (so_far_refused _ _ _ _ _ c.loop-index.invariant split c.in_err-name_expression.ensures.err)

pub loop-index-preserved : goal.loop-index-preserved
loop-index-preserved c =
    let f = c.args.function.now in
    let i = c.loop-index.index in
    let e = c.args.range.end in
    let split : labels_of_each f (from i (e - i)) ≡ option_to_list (label_of f c.from_index.result)
    ++ labels_of_each f (from (i + 1) (e - (i + 1))) =
    ap (labels_of_each f) (range_more i e c.loop-index-test.true)
    ∙ ap (λ h. option_to_list (label_of f h) ++ labels_of_each f (from (i + 1) (e - (i + 1))))
    (sym c.from_index.ensures) in
    so_far_more _ _ _ c.loop-index.invariant split c.in_ok-name_expression.ensures.ok

pub returns-clause-ok : goal.returns-clause-ok
returns-clause-ok c =
    so_far_all _ _ c.loop-index.invariant
    (ap (labels_of_each c.args.function.now) (range_none c.loop-index.index c.args.range.end c.loop-index-test.false))
