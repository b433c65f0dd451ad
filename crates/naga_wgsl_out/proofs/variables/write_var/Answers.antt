use Rattle.std.proofs.Common.{sym}
use Rattle.naga_words.proofs.Writing.{writes_as, writes_then}
use Rattle.naga_wgsl_out.proofs.VariableRows.{var_row, variable_is_formed, variable_is_named}
use Rattle.naga_wgsl_out.proofs.VariableRows.{variable_has_type_form}
use Rattle.naga_wgsl_out.proofs.variables.write_var.Goals as goal

pub write_typed-requires-clause-named : goal.write_typed-requires-clause-named
write_typed-requires-clause-named g c =
    variable_is_named c.args.text.now c.requires.can c.args.handle c.args.variable.now
    c.requires.there

pub write_typed-requires-clause-formed : goal.write_typed-requires-clause-formed
write_typed-requires-clause-formed g c =
    variable_has_type_form c.args.text.now c.requires.can c.args.handle c.args.variable.now
    c.requires.there

pub write_value-requires-clause-has_form : goal.write_value-requires-clause-has_form
write_value-requires-clause-has_form g c =
    variable_is_formed c.args.text.now c.requires.can c.args.handle c.args.variable.now
    c.requires.there

pub returns : goal.returns
returns g c =
    writes_as (sym (var_row c.args.text.now.shader.now c.args.handle c.args.variable.now))
    (writes_then c.put.ensures
    (writes_then c.write_space.ensures
    (writes_then c.put-2.ensures (writes_then c.write_typed.ensures c.write_value.ensures))))
