use Rattle.std.proofs.Common.{ap}
use Rattle.std.specs.List.{flat_map}
use Rattle.naga_naming.proofs.Reset.{if_err}
use Rattle.naga_scope.specs.ExpressionNames.{RefusesLabels}
use Rattle.naga_scope.specs.InOrder.{own_labels}
use Rattle.naga_scope.proofs.ExpressionNames.{so_far_more, so_far_refused}
use Rattle.naga_scope.proofs.InOrder.{first_tree}
use Rattle.naga_scope.proofs.named.expression_names.Goals as goal

pub returns-in_err-name_statement-clause-err : goal.returns-in_err-name_statement-clause-err
returns-in_err-name_statement-clause-err c =
    let split = first_tree c.args.statements.now c.loop-statement.statement-index c.statement-item.result
    c.loop-statement-test.true c.statement-item.is in
    if_err c.from_residual.result c.in_err-name_statement.field-0.0
    (RefusesLabels c.args.namer.now _ c.name_statement.new.namer) c.from_residual.ensures.1
    (so_far_refused _ _ _ _ _ c.loop-statement.invariant (ap (flat_map (own_labels c.args.function.now)) split)
    c.in_err-name_statement.ensures.err)

pub loop-statement-preserved : goal.loop-statement-preserved
loop-statement-preserved c =
    let split = first_tree c.args.statements.now c.loop-statement.statement-index c.statement-item.result
    c.loop-statement-test.true c.statement-item.is in
    so_far_more _ _ _ c.loop-statement.invariant (ap (flat_map (own_labels c.args.function.now)) split)
    c.in_ok-name_statement.ensures.ok
