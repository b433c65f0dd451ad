use Rattle.std.proofs.Common.{◌∷◌}
use Rattle.std.specs.List.{flat_map, enumerate_from}
use Rattle.naga_naming.specs.declared.key.NameKey.TheVariants as key
use Rattle.naga_naming.specs.Reset.{labelled_members}
use Rattle.naga_naming.specs.Outputs.{words_in, labelled_type_by}
use Rattle.naga_names.proofs.Progress.{gives_same, gives_then, leaves_turn, leaves_none}
use Rattle.naga_names.proofs.namer.items.Naming.name_types.Goals as goal

pub loop-handle-preserved : goal.loop-handle-preserved
loop-handle-preserved c =
    leaves_turn (λ p. labelled_type_by (words_in c.in-Ok.outputs) p.0 p.1) c.in-Some.ensures.steps
    c.loop-handle.invariant
    (gives_same (λ i. (key.Type_ c.in-Some.handle, c.type_label-label.ensures i)
    ∷ labelled_members c.in-Some.handle (c.members_of.ensures i))
    (gives_then c.name.ensures.named c.name_members.ensures))

pub returns : goal.returns
returns c =
    gives_same (λ i. flat_map (λ p. labelled_type_by (λ t. c.in-Ok.ensures t i) p.0 p.1)
    (enumerate_from 0 c.args.types.now))
    (leaves_none (λ p. labelled_type_by (words_in c.in-Ok.outputs) p.0 p.1) c.in-None.ensures.steps.0
    c.loop-handle.invariant)
