use Rattle.std.proofs.Common.{◌∙◌, ap, sym, slice_get}
use Rattle.naga_ir.specs.Operands.{expression_operands, level_operands}
use Rattle.naga_ir.proofs.Sampled.{sampled}
use Rattle.naga_ir.proofs.expression.Expression.operand.Goals as goal

pub returns-in-ImageSample-clause-item : goal.returns-in-ImageSample-clause-item
returns-in-ImageSample-clause-item c =
    c.nth_present.ensures.item
    ∙ ap (λ operands. slice_get operands c.args.number)
    (sampled (level_operands c.in-ImageSample.level) c.in-ImageSample.image
    c.in-ImageSample.sampler c.in-ImageSample.coordinate c.in-ImageSample.array_index
    c.in-ImageSample.depth_ref c.level_handles-level.result.0 c.level_handles-level.result.1
    c.in-ImageSample.offset c.level_handles-level.ensures)
    ∙ ap (λ e. slice_get (expression_operands e) c.args.number) (sym c.in-ImageSample.is)
