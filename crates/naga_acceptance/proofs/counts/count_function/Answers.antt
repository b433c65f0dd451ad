use Rattle.std.proofs.Common.{◌≡◌, ◌≤◌, ◌∙◌, ap, arith, length}
use Rattle.naga_acceptance.proofs.Counting.{counted_by_uses}
use Rattle.naga_acceptance.proofs.Writing.{take_put_back}
use Rattle.naga_acceptance.proofs.counts.count_function.Goals as goal

pub returns : goal.returns
returns c =
    let same : length c.add_block_uses.new.infos ≡ length c.info.inside.expressions.items =
    c.add_block_uses.auto.infos ∙ c.add_function_uses.auto.infos ∙ c.clear_counts.auto.infos
    ∙ ap length c.as_mut_slice-infos.ensures.value
    in let room : length c.add_block_uses.new.infos ≤ c.info.inside.expressions.len =
    omega (
      arith,
      c.add_block_uses.auto.infos,
      c.add_function_uses.auto.infos,
      c.clear_counts.auto.infos,
      c.as_mut_slice-infos.ensures.len,
    )
    in take_put_back c.info.inside.expressions.len c.add_block_uses.new.infos
    c.info.inside.expressions.items same room
    ∙ c.add_block_uses.ensures
    ∙ rw (
      c.add_function_uses.ensures,
      c.clear_counts.ensures,
      c.as_mut_slice-infos.ensures.value,
      c.info.view_is,
    ) (counted_by_uses c.args.function.now c.args.info.now)
