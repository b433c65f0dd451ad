use Rattle.std.proofs.Common.{◌∙◌, ap, sym}
use Rattle.naga_words.proofs.Writing.{writes_as}
use Rattle.naga_wgsl_out.proofs.ItemRows.{no_value_row, value_row}
use Rattle.naga_wgsl_out.specs.Items.{value_text}
use Rattle.naga_wgsl_out.proofs.declarations.write_value.Goals as goal

pub write_first_value-requires-clause-has_form : goal.write_first_value-requires-clause-has_form
write_first_value-requires-clause-has_form g c = c.requires.has_form c.in-Some.value c.in-Some.is

pub returns-in-Some : goal.returns-in-Some
returns-in-Some g c =
    let m = c.args.text.now.shader.now in
    writes_as (value_row m c.in-Some.value ∙ ap (value_text m) (sym c.in-Some.is))
    c.write_first_value.ensures

pub returns-in-None : goal.returns-in-None
returns-in-None g c =
    let m = c.args.text.now.shader.now in
    writes_as (sym (ap (value_text m) c.in-None.is ∙ no_value_row m)) c.put.ensures
