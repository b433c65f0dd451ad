use Rattle.std.proofs.Common.{◌∙◌, sym}
use Rattle.naga_form.specs.Attributes.{interpolation_told}
use Rattle.naga_words.proofs.Writing.{writes_as, writes_nothing}
use Rattle.naga_wgsl_shared.proofs.AttributeRows.{interpolated_row, sampled_row, untold_row}
use Rattle.naga_wgsl_shared.specs.Attributes.{attributes_text}
use Rattle.naga_wgsl_shared.proofs.bindings.write_needed_words.Goals as goal

pub returns-then-not-center : goal.returns-then-not-center
returns-then-not-center g c =
    let i = c.args.interpolation.now in
    let s = c.args.sampling.now in
    writes_as
    (sym
    ((λ j. attributes_text (interpolation_told c.args.perspective (c.if-not-center.true j) i s))
    ∙ sampled_row c.args.perspective i s))
    c.write_interpolated.ensures

pub returns-then-not-perspective : goal.returns-then-not-perspective
returns-then-not-perspective g c =
    let i = c.args.interpolation.now in
    let s = c.args.sampling.now in
    writes_as
    (sym
    ((λ j. attributes_text
    (interpolation_told (c.if-not-perspective.true j) (c.if-not-center.false j) i s))
    ∙ interpolated_row i s))
    c.write_worded.ensures

pub returns-else-not-perspective : goal.returns-else-not-perspective
returns-else-not-perspective g c =
    let i = c.args.interpolation.now in
    let s = c.args.sampling.now in
    writes_as
    (sym
    ((λ j. attributes_text
    (interpolation_told (c.if-not-perspective.false j) (c.if-not-center.false j) i s))
    ∙ untold_row i s))
    (writes_nothing _)
