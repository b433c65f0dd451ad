use Rattle.std.proofs.Common.{ap, sym, ◌∙◌, refl}
use Rattle.std.specs.List.{flat_map}
use Rattle.naga_naming.specs.Reset.{with_parts}
use Rattle.naga_names.specs.Progress.{argument_items, argument_key, part_key}
use Rattle.naga_names.proofs.Progress.{gives_same, gives_up_key, argument_unfit, leaves_turn}
use Rattle.naga_names.proofs.Progress.{at_index}
use Rattle.naga_names.proofs.namer.items.Naming.name_arguments.Goals as goal

pub returns-in_default : goal.returns-in_default
returns-in_default c =
    c.loop-index.invariant.rest _
    (gives_same (sym (ap (flat_map (λ p. argument_items c.args.owner.now c.args.types.now p.0 p.1))
    (at_index c.args.arguments.now c.loop-index.index c.index-arguments-index.result
    c.loop-index-test.true c.index-arguments-index.is)))
    (gives_up_key _ _ _ _ refl c.refuse.ensures.refusal
    (argument_unfit c.args.owner.now c.loop-index.index c.in_default.ensures)))

pub loop-index-preserved : goal.loop-index-preserved
loop-index-preserved c =
    let the_key = c.argument.ensures.is ∙ ap (argument_key c.args.owner.now) c.in-Ok.ensures.1 in
    leaves_turn (λ p. argument_items c.args.owner.now c.args.types.now p.0 p.1)
    (at_index c.args.arguments.now c.loop-index.index c.index-arguments-index.result c.loop-index-test.true
    c.index-arguments-index.is) c.loop-index.invariant
    (gives_same (λ i. with_parts (c.has_parts-has_parts.ensures i) (part_key (the_key i))
    (the_key i, c.label_or-label.ensures i)) c.name_with_parts.ensures)
