use Rattle.std.proofs.Common.{arith}
use Rattle.module_positions.proofs.OperandRoles.{found_at, found_later, found_nowhere, six_of_expression}
use Rattle.naga_fields.specs.Fields.{expression_fields}
use Rattle.module_positions.proofs.roles.role_in_expression.Goals as goal

pub returns-in-Some : goal.returns-in-Some
returns-in-Some c =
    let fields = expression_fields c.args.expression.now in
    found_at c.args.operand c.loop-number.number fields fields _ c.in-Some.ensures c.loop-number.invariant

pub loop-number-preserved : goal.loop-number-preserved
loop-number-preserved c =
    let fields = expression_fields c.args.expression.now in
    found_later c.args.operand c.loop-number.number fields fields c.in_default.ensures c.loop-number.invariant

pub returns : goal.returns
returns c =
    let fields = expression_fields c.args.expression.now in
    found_nowhere c.args.operand _ fields fields (omega (arith, six_of_expression c.args.expression.now))
    c.loop-number.invariant
