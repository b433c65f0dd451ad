use Rattle.std.proofs.Common.{ap, ◌∙◌}
use Rattle.std.proofs.lemmas.Bool.{or_parts}
use Rattle.operand_levels.specs.Levels.{with_bound}
use Rattle.operand_levels.proofs.Raising.{all_through, points_go_on}
use Rattle.operand_levels.proofs.levels.bind_in_entry_points.Goals as goal

pub loop-index-preserved : goal.loop-index-preserved
loop-index-preserved c = (
  points_go_on (λ p. p.function) c.args.entry_points.now c.loop-index.index c.index-entry_points-index.result
      c.loop-index.infos c.bind_at.new.infos _ c.loop-index-test.true
      (c.in_ok-raises.ensures.bound
      ∙ ap (λ p. with_bound c.loop-index.infos c.loop-index.index p.function) c.index-entry_points-index.is)
      c.loop-index.invariant.0,
  all_through _ c.loop-index.infos c.bind_at.new.infos c.loop-index.invariant.1 c.bind_at.ensures.raised,
  λ none. (let parts = or_parts c.loop-index.raises c.in_ok-raises.field-0 none in
      c.in_ok-raises.ensures.unchanged parts.1 ∙ c.loop-index.invariant.2 parts.0),
)
