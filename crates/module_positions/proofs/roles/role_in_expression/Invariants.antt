use Rattle.std.proofs.Common.{◌≡◌, drop}
use Rattle.module_positions.specs.Roles.{first_role}
use Rattle.naga_fields.specs.Fields.{expression_fields}
use Rattle.module_positions.proofs.roles.role_in_expression.Given as goal

abbrev pub invariant-loop-number : goal.invariant-loop-number
invariant-loop-number l =
    let fields = expression_fields l.expression in
    first_role l.operand (drop l.number fields) ≡ first_role l.operand fields
