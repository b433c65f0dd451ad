use Rattle.std.proofs.Common.{◌∙◌, ap, codes, sym}
use Rattle.naga_form.specs.Attributes.{id_attributes}
use Rattle.naga_words.proofs.Writing.{writes_as, writes_nothing}
use Rattle.naga_wgsl_shared.specs.Attributes.{attributes_text, numbered_text}
use Rattle.naga_wgsl_out.proofs.ConstantRows.{id_row, no_id_row}
use Rattle.naga_wgsl_out.proofs.constants.write_id.Goals as goal

pub returns-in-Some : goal.returns-in-Some
returns-in-Some g c =
    writes_as
    (ap (numbered_text (codes "@id(")) c.from.ensures
    ∙ id_row c.in-Some.id
    ∙ ap (λ o. attributes_text (id_attributes o)) (sym c.in-Some.is))
    c.write_numbered.ensures

pub returns-in-None : goal.returns-in-None
returns-in-None g c =
    writes_as
    (no_id_row ∙ ap (λ o. attributes_text (id_attributes o)) (sym c.in-None.is))
    (writes_nothing _)
