use Rattle.std.proofs.Common.{ap, sym}
use Rattle.naga_words.proofs.Writing.{writes_as, writes_then}
use Rattle.naga_wgsl_shared.specs.Attributes.{attributes_text}
use Rattle.naga_wgsl_out.proofs.StructRows.{member_has_form, member_is_named, member_has_type_form}
use Rattle.naga_wgsl_out.proofs.StructRows.{member_row}
use Rattle.naga_wgsl_out.specs.Structs.{given_size_attributes}
use Rattle.naga_wgsl_out.proofs.structs.StructText.write_member.Goals as goal

pub write_optional_binding-requires : goal.write_optional_binding-requires
write_optional_binding-requires g c =
    member_has_form c.args.self.now.text c.requires.can.can c.args.self.now.handle c.args.number c.args.member.now
    c.requires.there

pub write_typed-requires-clause-can : goal.write_typed-requires-clause-can
write_typed-requires-clause-can g c = c.requires.can.can.can

pub write_typed-requires-clause-named : goal.write_typed-requires-clause-named
write_typed-requires-clause-named g c =
    member_is_named c.args.self.now.text c.requires.can.can c.args.self.now.handle c.args.number c.args.member.now
    c.requires.there

pub write_typed-requires-clause-formed : goal.write_typed-requires-clause-formed
write_typed-requires-clause-formed g c =
    member_has_type_form c.args.self.now.text c.requires.can.can c.args.self.now.handle c.args.number
    c.args.member.now c.requires.there

pub returns : goal.returns
returns g c =
    writes_as
    (sym (member_row c.args.self.now.text.shader.now c.args.self.now.handle c.args.number c.args.member.now))
    (writes_then c.put.ensures
    (writes_then
    (writes_as (ap (λ o. attributes_text (given_size_attributes o)) c.requires.size) c.write_size.ensures)
    (writes_then c.write_optional_binding.ensures (writes_then c.write_typed.ensures c.put-2.ensures))))
