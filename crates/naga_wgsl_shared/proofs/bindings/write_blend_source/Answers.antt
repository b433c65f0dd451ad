use Rattle.std.proofs.Common.{◌∙◌, ap, sym}
use Rattle.naga_form.specs.Attributes.{attribute_of}
use Rattle.naga_words.proofs.Writing.{writes_as}
use Rattle.wgsl_text.specs.Attributes.{BlendSource, Numbered}
use Rattle.naga_wgsl_shared.proofs.AttributeRows.{source_row}
use Rattle.naga_wgsl_shared.specs.Attributes.{attributes_text}
use Rattle.naga_wgsl_shared.proofs.bindings.write_blend_source.Goals as goal

pub returns-in-Some : goal.returns-in-Some
returns-in-Some g c =
    writes_as
    (sym
    (ap (λ o. attributes_text (attribute_of (Numbered BlendSource) o)) c.in-Some.is
    ∙ source_row c.in-Some.number))
    c.write_numbered.ensures
