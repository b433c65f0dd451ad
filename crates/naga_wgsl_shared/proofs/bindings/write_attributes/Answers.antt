use Rattle.std.proofs.Common.{◌∙◌, ap, sym}
use Rattle.naga_words.proofs.Writing.{writes_as, writes_then}
use Rattle.naga_wgsl_shared.proofs.AttributeRows.{location_row}
use Rattle.naga_wgsl_shared.specs.Attributes.{binding_text}
use Rattle.naga_wgsl_shared.proofs.bindings.write_attributes.Goals as goal

pub returns-in-Location : goal.returns-in-Location
returns-in-Location g c =
    writes_as
    (sym
    (ap binding_text c.in-Location.is
    ∙ location_row c.in-Location.location c.in-Location.interpolation c.in-Location.sampling
    c.in-Location.blend_src c.in-Location.per_primitive))
    (writes_then c.write_numbered.ensures
    (writes_then c.write_blend_source.ensures
    (writes_then c.write_interpolation.ensures c.write_optional_chunk.ensures)))
