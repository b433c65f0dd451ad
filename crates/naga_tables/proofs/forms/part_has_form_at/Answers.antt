use Rattle.std.proofs.Common.{◌≡◌, ◌<◌, Some, arith, length, slice_get, subst, sym}
use Rattle.naga_naming.proofs.Refusal.{element}
use Rattle.naga_naming.specs.Reset.{members_of}
use Rattle.naga_tables.proofs.forms.part_has_form_at.Goals as goal

pub has_member_word-requires : goal.has_member_word-requires
has_member_word-requires c =
    let index = c.args.index in
    let members = c.in-Struct.members in
    let lt : index < length members.items =
    omega (arith, c.if-index-len-2.true, c.len-in-Struct.ensures, members.ok.0) in
    let member = element members.items index lt in
    record {
      named =
          c.requires.named.members c.args.whole c.index-2.result.now c.index-2.ensures index member.0
          (subst (λ it. slice_get (members_of it) index ≡ Some member.0) (sym c.in-Struct.is) member.1);
    }
