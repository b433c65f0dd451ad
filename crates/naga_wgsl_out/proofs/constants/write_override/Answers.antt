use Rattle.std.proofs.Common.{sym}
use Rattle.naga_words.proofs.Writing.{writes_as, writes_then}
use Rattle.naga_wgsl_out.proofs.ConstantRows.{override_is_formed, override_is_named}
use Rattle.naga_wgsl_out.proofs.ConstantRows.{override_has_type_form, override_row}
use Rattle.naga_wgsl_out.proofs.constants.write_override.Goals as goal

pub write_typed-requires-clause-named : goal.write_typed-requires-clause-named
write_typed-requires-clause-named g c =
    override_is_named c.args.text.now c.requires.can c.args.handle c.args.item.now
    c.requires.there

pub write_typed-requires-clause-formed : goal.write_typed-requires-clause-formed
write_typed-requires-clause-formed g c =
    override_has_type_form c.args.text.now c.requires.can c.args.handle c.args.item.now
    c.requires.there

pub write_value-requires-clause-has_form : goal.write_value-requires-clause-has_form
write_value-requires-clause-has_form g c =
    override_is_formed c.args.text.now c.requires.can c.args.handle c.args.item.now
    c.requires.there

pub returns : goal.returns
returns g c =
    writes_as (sym (override_row c.args.text.now.shader.now c.args.handle c.args.item.now))
    (writes_then c.write_id.ensures
    (writes_then c.put.ensures (writes_then c.write_typed.ensures c.write_value.ensures)))
