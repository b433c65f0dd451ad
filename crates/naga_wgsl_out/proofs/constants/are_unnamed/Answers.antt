use Rattle.std.proofs.Common.{◌∙◌, ap}
use Rattle.std.specs.List.{list_all}
use Rattle.std.specs.Option.{is_none}
use Rattle.module_semantics.proofs.Fitting.{list_all-pairs}
use Rattle.naga_wgsl_out.proofs.constants.are_unnamed.Goals as goal

pub loop-constant-init : goal.loop-constant-init
loop-constant-init c =
    ap (λ ps. list_all (λ p. is_none p.1.name) ps)
    (c.into_iter-constant-iterator.ensures.into_iter_gives ∙ c.iter-constant-items.ensures)
    ∙ list_all-pairs (λ k. is_none k.name) 0 c.args.constants.now
