use Rattle.std.proofs.Common.{[], ◌∷◌}
use Rattle.naga_names.specs.Progress.{local_item}
use Rattle.naga_names.proofs.Progress.{gives_same, leaves_turn_one}
use Rattle.naga_names.proofs.namer.items.Naming.name_locals.Goals as goal

pub loop-handle-preserved : goal.loop-handle-preserved
loop-handle-preserved c =
    leaves_turn_one (λ p. local_item c.args.owner.now p.0 p.1) c.in-Some.ensures.steps c.loop-handle.invariant
    (gives_same (λ i. (c.local.ensures.is i, c.label_or-label.ensures i) ∷ []) c.name.ensures.named)
