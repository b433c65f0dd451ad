use Rattle.std.proofs.Common.{sym, ◌∙◌}
use Rattle.naga_words.proofs.Writing.{writes_as}
use Rattle.naga_wgsl_fns.proofs.VariableRows.{handle_variable_value, memory_variable_value}
use Rattle.naga_wgsl_fns.proofs.functions.FunctionText.write_global_value.Goals as goal

pub returns-then-is_handle_variable : goal.returns-then-is_handle_variable
returns-then-is_handle_variable g c =
    writes_as (handle_variable_value c.args.self.now c.args.variable
    (sym c.is_handle_variable.ensures ∙ c.if-is_handle_variable.true))
    c.write_global_name.ensures

pub returns-else-is_handle_variable : goal.returns-else-is_handle_variable
returns-else-is_handle_variable g c =
    writes_as (memory_variable_value c.args.self.now c.args.variable
    (sym c.is_handle_variable.ensures ∙ c.if-is_handle_variable.false))
    c.write_global_address.ensures
