use Rattle.std.proofs.Common.{◌∙◌, length, refl, sym}
use Rattle.std.specs.Prelude.{IsTrue}
use Rattle.std.proofs.lemmas.Option.{slice_get_read}
use Rattle.module_semantics.specs.Layouts.{module_rule}
use Rattle.naga_ir.specs.declared.types.StructMember.{StructMember}
use Rattle.naga_layout.specs.Types.{arrays_are_kept}
use Rattle.naga_tables.proofs.Searching.{all_passed, one_passed}
use Rattle.naga_tables.proofs.declarations.other_stride.Goals as goal

pub returns-then-not-keeps_arrays : goal.returns-then-not-keeps_arrays
returns-then-not-keeps_arrays c =
    let here = slice_get_read c.args.members.now (length c.args.members.now) c.loop-member.member-index
    c.member-item.result refl c.loop-member-test.true c.member-item.is in (
      c.loop-member.member-index,
      c.member-item.result,
      here,
      c.loop-member.invariant.formed,
      (refl, sym c.keeps_arrays.ensures ∙ c.if-not-keeps_arrays.true),
    )

pub loop-member-preserved : goal.loop-member-preserved
loop-member-preserved c =
    let m = c.args.module.now in
    let here = slice_get_read c.args.members.now (length c.args.members.now) c.loop-member.member-index
    c.member-item.result refl c.loop-member-test.true c.member-item.is in
    one_passed (λ i (s : StructMember). IsTrue (arrays_are_kept (module_rule m) m.types s.ty))
    c.args.members.now c.loop-member.member-index c.member-item.result here
    (sym c.keeps_arrays.ensures ∙ c.if-not-keeps_arrays.false) c.loop-member.invariant

pub returns : goal.returns
returns c =
    let m = c.args.module.now in
    all_passed (λ i (s : StructMember). IsTrue (arrays_are_kept (module_rule m) m.types s.ty))
    c.args.members.now c.loop-member.member-index c.loop-member-test.false c.loop-member.invariant
