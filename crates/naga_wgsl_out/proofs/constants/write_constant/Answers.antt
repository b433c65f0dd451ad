use Rattle.naga_wgsl_out.proofs.ConstantRows.{constant_is_formed, constant_is_named}
use Rattle.naga_wgsl_out.proofs.ConstantRows.{constant_has_type_form}
use Rattle.naga_wgsl_out.proofs.constants.write_constant.Goals as goal

pub write_typed-requires-clause-named : goal.write_typed-requires-clause-named
write_typed-requires-clause-named g c =
    constant_is_named c.args.text.now c.requires.can c.args.handle c.args.constant.now
    c.requires.there

pub write_typed-requires-clause-formed : goal.write_typed-requires-clause-formed
write_typed-requires-clause-formed g c =
    constant_has_type_form c.args.text.now c.requires.can c.args.handle c.args.constant.now
    c.requires.there c.requires.named

pub write_first_value-requires-clause-has_form : goal.write_first_value-requires-clause-has_form
write_first_value-requires-clause-has_form g c =
    constant_is_formed c.args.text.now c.requires.can c.args.handle c.args.constant.now
    c.requires.there c.requires.named
