use Rattle.std.proofs.Common.{◌∙◌, ap, subst, sym}
use Rattle.naga_words.proofs.Writing.{writes_as, writes_nothing}
use Rattle.naga_wgsl_out.proofs.StructRows.{declared_row, no_struct_row, struct_declared}
use Rattle.naga_wgsl_out.proofs.StructRows.{undeclared_row}
use Rattle.naga_wgsl_out.specs.Structs.{IsDeclaredStruct, struct_text}
use Rattle.naga_wgsl_out.proofs.structs.write_declared.Goals as goal

pub is_undeclared-requires : goal.is_undeclared-requires
is_undeclared-requires g c = record { tables = c.requires.can.can.tables }

pub write-requires-clause-can : goal.write-requires-clause-can
write-requires-clause-can g c =
    let m = c.args.text.now.shader.now in
    record {
      can = c.requires.can;
      declared = subst (λ members. IsDeclaredStruct m c.args.handle members c.in-Struct.span) (sym c.deref.ensures.value)
          (struct_declared m c.args.handle c.args.ty.now c.in-Struct.members c.in-Struct.span
          c.requires.there c.in-Struct.is (sym c.is_undeclared.ensures ∙ c.if-not-is_undeclared.true));
    }

pub returns-then-not-is_undeclared : goal.returns-then-not-is_undeclared
returns-then-not-is_undeclared g c =
    let m = c.args.text.now.shader.now in
    writes_as
    (ap (struct_text m c.args.handle) c.deref.ensures.value
    ∙ declared_row m c.args.handle c.args.ty.now c.in-Struct.members c.in-Struct.span
    c.in-Struct.is (sym c.is_undeclared.ensures ∙ c.if-not-is_undeclared.true))
    c.write.ensures

pub returns-else-not-is_undeclared : goal.returns-else-not-is_undeclared
returns-else-not-is_undeclared g c =
    writes_as
    (undeclared_row c.args.text.now.shader.now c.args.handle c.args.ty.now c.in-Struct.members
    c.in-Struct.span c.in-Struct.is (sym c.is_undeclared.ensures ∙ c.if-not-is_undeclared.false))
    (writes_nothing _)

pub returns-in_default : goal.returns-in_default
returns-in_default g c =
    writes_as
    (no_struct_row c.args.text.now.shader.now c.args.handle c.args.ty.now
    c.in_default.not-Struct)
    (writes_nothing _)
