use Rattle.std.proofs.Common.{ap, ◌∙◌}
use Rattle.naga_info.specs.declared.info.ExpressionInfo.{ExpressionInfo}
use Rattle.naga_acceptance.specs.Counts.{without_uses}
use Rattle.naga_acceptance.proofs.Counting.{length-without_uses, get_or-without_uses}
use Rattle.naga_acceptance.proofs.Writing.{IsFilled-start, IsFilled-more, IsFilled-read}
use Rattle.naga_acceptance.proofs.counts.clear_counts.Goals as goal

pub loop-info-init : goal.loop-info-init
loop-info-init c = IsFilled-start (without_uses c.args.infos.now) c.args.infos.now
    (length-without_uses c.args.infos.now)

without_count : ExpressionInfo → ExpressionInfo
without_count e = record e { ref_count = 0 }

pub loop-info-preserved : goal.loop-info-preserved
unfolding without_count
loop-info-preserved c =
    IsFilled-more (without_uses c.args.infos.now) c.args.infos.now c.loop-info.infos c.loop-info.info-index _
    c.loop-info-test.true c.loop-info.invariant
    (ap without_count (IsFilled-read (without_uses c.args.infos.now) c.args.infos.now c.loop-info.infos
    c.loop-info.info-index c.info-item.result c.loop-info.invariant)
    ∙ get_or-without_uses c.args.infos.now c.loop-info.info-index c.info-item.result _ c.loop-info-test.true)
