use Rattle.std.proofs.Common.{◌∙◌, ap, sym}
use Rattle.naga_words.proofs.Writing.{writes_as, writes_nothing}
use Rattle.naga_wgsl_shared.specs.Attributes.{attributes_text}
use Rattle.naga_wgsl_out.proofs.StructRows.{no_size_row, size_row}
use Rattle.naga_wgsl_out.specs.Structs.{given_size_attributes}
use Rattle.naga_wgsl_out.proofs.structs.write_size.Goals as goal

pub returns-in-Some : goal.returns-in-Some
returns-in-Some g c =
    writes_as
    (size_row c.in-Some.size ∙ ap (λ o. attributes_text (given_size_attributes o)) (sym c.in-Some.is))
    c.write_numbered.ensures

pub returns-in-None : goal.returns-in-None
returns-in-None g c =
    writes_as
    (no_size_row ∙ ap (λ o. attributes_text (given_size_attributes o)) (sym c.in-None.is))
    (writes_nothing _)
