use Rattle.std.proofs.Common.{arith}
use Rattle.module_positions.proofs.OperandRoles.{found_at, found_later, found_nowhere, six_of_statement}
use Rattle.naga_fields.specs.Fields.{statement_fields}
use Rattle.naga_ir.specs.StatementViews.{tree_of}
use Rattle.module_positions.proofs.roles.role_in_statement.Goals as goal

pub returns-in-Some : goal.returns-in-Some
returns-in-Some c =
    let fields = statement_fields (tree_of c.args.statement.now) in
    found_at c.args.operand c.loop-number.number fields fields _ c.in-Some.ensures c.loop-number.invariant

pub loop-number-preserved : goal.loop-number-preserved
loop-number-preserved c =
    let fields = statement_fields (tree_of c.args.statement.now) in
    found_later c.args.operand c.loop-number.number fields fields c.in_default.ensures c.loop-number.invariant

pub returns : goal.returns
returns c =
    let fields = statement_fields (tree_of c.args.statement.now) in
    found_nowhere c.args.operand _ fields fields (omega (arith, six_of_statement (tree_of c.args.statement.now)))
    c.loop-number.invariant
