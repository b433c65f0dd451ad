use Rattle.std.proofs.Common.{MatchOption, sym, subst, ◌∙◌}
use Rattle.naga_tables.proofs.UnsupportedDeclarations.{by_members}
use Rattle.naga_tables.specs.Declarations.{IsUnsupportedStruct, StructHasForm}
use Rattle.naga_tables.proofs.declarations.unsupported_in_type.Goals as goal

pub returns-else-is_undeclared : goal.returns-else-is_undeclared
returns-else-is_undeclared c =
    let m = c.args.module.now in
    by_members m c.args.handle c.args.ty.now c.in-Struct.members c.in-Struct.span c.unsupported_in_struct.result
    c.in-Struct.is
    (sym c.is_undeclared.ensures ∙ c.if-is_undeclared.false)
    (subst (λ members. MatchOption c.unsupported_in_struct.result (StructHasForm m members)
    (IsUnsupportedStruct m members)) c.deref.ensures.value
    c.unsupported_in_struct.ensures)
