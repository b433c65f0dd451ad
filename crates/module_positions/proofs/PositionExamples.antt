-- Positions as they are told in lines that `docs/USING.md` has.
use Rattle.std.proofs.Common.{◌≡◌, codes, refl, None, Some}
use Rattle.std.specs.Fmt.{digits}
use Rattle.module_positions.specs.Positions.{json_position, json_refusal_position}
use Rattle.module_positions.specs.declared.positions.JsonHolder.TheVariants as holder
use Rattle.naga_acceptance.specs.declared.faults.FunctionPosition.TheVariants as position
use Rattle.naga_acceptance.specs.declared.faults.FaultPosition.TheVariants as item
use Rattle.naga_tables.specs.declared.declarations.DeclarationPosition.TheVariants as declaration
use Rattle.naga_scope.specs.declared.lines.Line.TheVariants as line
use Rattle.naga_scope.specs.declared.scope_faults.ScopeFault.TheVariants as scope
use Rattle.naga_scope.specs.declared.positions.FunctionRefusalPosition.TheVariants as part
use Rattle.naga_scope.specs.declared.positions.RefusalPosition.TheVariants as refused

an_expression : json_position holder.Member (item.Function 3 (position.Expression 41))
    ≡ codes "module.functions[3].expressions[41]"
unfolding digits
an_expression = refl

a_statement : json_position holder.Member (item.EntryPoint 0 (position.Statement 3))
    ≡ codes "module.entry_points[0].function, statement 3"
unfolding digits
a_statement = refl

out_of_scope : json_refusal_position holder.Member (Some (codes "value", None))
    (refused.Function 0 (part.Scope (scope.Operand 12 41)))
    ≡ codes "module.functions[0].expressions[41], operand value of statement 12"
unfolding digits
out_of_scope = refl

in_an_emit :
    json_refusal_position holder.Member (Some (codes "components", Some 2))
    (refused.Function 0 (part.Scope (scope.EmittedOperand 12 42 41)))
    ≡ codes "module.functions[0].expressions[41], operand components[2] of expressions[42] in statement 12"
unfolding digits
in_an_emit = refl

without_a_role : json_refusal_position holder.Member None (refused.Function 0 (part.Scope (scope.Operand 12 41)))
    ≡ codes "module.functions[0].expressions[41], operand of statement 12"
unfolding digits
without_a_role = refl

without_the_member : json_position holder.Module (item.Function 0 (position.Expression 3))
    ≡ codes "functions[0].expressions[3]"
unfolding digits
without_the_member = refl

in_a_statement :
    json_refusal_position holder.Member None (refused.Function 0 (part.Expression (line.Statement 1) 3))
    ≡ codes "module.functions[0].expressions[3], in statement 1"
unfolding digits
in_a_statement = refl

in_a_break_if :
    json_refusal_position holder.Member None (refused.Function 0 (part.Expression (line.BreakIf 1 4) 3))
    ≡ codes "module.functions[0].expressions[3], in break if of statement 1"
unfolding digits
in_a_break_if = refl

of_a_break_if :
    json_refusal_position holder.Member (Some (codes "break_if", None))
    (refused.Function 0 (part.Scope (scope.BreakIf 1 4 41)))
    ≡ codes "module.functions[0].expressions[41], operand break_if of statement 1"
unfolding digits
of_a_break_if = refl

a_declaration : json_refusal_position holder.Member None (refused.Declaration (declaration.Struct 5))
    ≡ codes "module.types[5]"
unfolding digits
a_declaration = refl

labels_of_items : json_refusal_position holder.Member None refused.Labels ≡ codes "module"
labels_of_items = refl
