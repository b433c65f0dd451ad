use Rattle.std.proofs.Common.{ap, sym, ◌∙◌}
use Rattle.std.specs.List.{flat_map}
use Rattle.naga_naming.specs.declared.key.NameKey.TheVariants as key
use Rattle.naga_naming.specs.Reset.{labelled_global, with_parts}
use Rattle.naga_names.proofs.Progress.{gives_same, leaves_all, leaves_turn}
use Rattle.naga_names.proofs.namer.items.Naming.name_globals.Goals as goal

pub loop-handle-init : goal.loop-handle-init
loop-handle-init c = leaves_all _ (ap (flat_map (λ p. labelled_global c.args.types.now p.0 p.1))
    (sym (c.into_iter-handle-iterator.ensures.into_iter_gives ∙ c.iter-handle-items.ensures)))

pub loop-handle-preserved : goal.loop-handle-preserved
loop-handle-preserved c =
    leaves_turn (λ p. labelled_global c.args.types.now p.0 p.1) c.in-Some.ensures.steps c.loop-handle.invariant
    (gives_same (λ i. with_parts (c.is_external-has_parts.ensures i)
    (key.ExternalTextureGlobalVariable c.in-Some.handle) (
      key.GlobalVariable c.in-Some.handle,
      c.label_or-label.ensures i,
    )) c.name_with_parts.ensures)
