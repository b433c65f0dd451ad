use Rattle.std.proofs.Common.{◌∙◌, sym}
use Rattle.naga_words.proofs.Writing.{writes_as, writes_nothing}
use Rattle.naga_wgsl_out.proofs.ConstantRows.{named_row, unnamed_row}
use Rattle.naga_wgsl_out.proofs.constants.write_if_named.Goals as goal

pub returns-then-is_some : goal.returns-then-is_some
returns-then-is_some g c =
    writes_as
    (named_row c.args.text.now.shader.now c.args.handle c.args.constant.now
    (sym c.is_some.ensures ∙ c.if-is_some.true))
    c.write_constant.ensures

pub returns-else-is_some : goal.returns-else-is_some
returns-else-is_some g c =
    writes_as
    (unnamed_row c.args.text.now.shader.now c.args.handle c.args.constant.now
    (sym c.is_some.ensures ∙ c.if-is_some.false))
    (writes_nothing _)
