use Rattle.std.proofs.Common.{◌≡◌, None, length, refl, sym}
use Rattle.std.proofs.lemmas.Option.{slice_get_read}
use Rattle.naga_tables.proofs.Searching.{all_passed, one_passed}
use Rattle.naga_tables.specs.Declarations.{member_refusal}
use Rattle.naga_ir.specs.declared.types.StructMember.{StructMember}
use Rattle.naga_tables.proofs.declarations.unsupported_in_members.Goals as goal

pub returns-in-Some : goal.returns-in-Some
returns-in-Some c =
    let here = slice_get_read c.args.members.now (length c.args.members.now) c.loop-member.member-index
    c.member-item.result refl c.loop-member-test.true c.member-item.is in
    (c.loop-member.member-index, c.member-item.result, here, c.loop-member.invariant.formed, sym c.in-Some.ensures)

pub loop-member-preserved : goal.loop-member-preserved
loop-member-preserved c =
    let here = slice_get_read c.args.members.now (length c.args.members.now) c.loop-member.member-index
    c.member-item.result refl c.loop-member-test.true c.member-item.is in
    one_passed (λ i (s : StructMember). member_refusal c.args.module.now s ≡ None) c.args.members.now
    c.loop-member.member-index c.member-item.result here (sym c.in_default.ensures) c.loop-member.invariant

pub returns : goal.returns
returns c =
    all_passed (λ i (s : StructMember). member_refusal c.args.module.now s ≡ None) c.args.members.now
    c.loop-member.member-index c.loop-member-test.false c.loop-member.invariant
