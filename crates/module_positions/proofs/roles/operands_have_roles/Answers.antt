use Rattle.module_positions.proofs.OperandRoles.{expression_operands_have_roles, statement_operands_have_roles}
use Rattle.module_positions.proofs.roles.operands_have_roles.Goals as goal

pub returns : goal.returns
returns c = (expression_operands_have_roles, statement_operands_have_roles)
