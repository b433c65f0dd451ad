use Rattle.std.proofs.Common.{◌≡◌, drop}
use Rattle.module_positions.specs.Roles.{first_role}
use Rattle.naga_fields.specs.Fields.{statement_fields}
use Rattle.naga_ir.specs.StatementViews.{tree_of}
use Rattle.module_positions.proofs.roles.role_in_statement.Given as goal

abbrev pub invariant-loop-number : goal.invariant-loop-number
invariant-loop-number l =
    let fields = statement_fields (tree_of l.statement) in
    first_role l.operand (drop l.number fields) ≡ first_role l.operand fields
