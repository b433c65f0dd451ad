use Rattle.std.proofs.Common.{◌∷◌, ◌++◌, ap, sym, ◌∙◌}
use Rattle.std.specs.List.{flat_map}
use Rattle.naga_naming.specs.declared.key.NameKey.TheVariants as key
use Rattle.naga_naming.specs.Reset.{labelled_function, labelled_arguments, labelled_locals}
use Rattle.naga_names.proofs.Progress.{gives_same, gives_then, leaves_all, leaves_turn}
use Rattle.naga_names.proofs.namer.items.Naming.name_functions.Goals as goal

pub loop-handle-init : goal.loop-handle-init
loop-handle-init c = leaves_all _ (ap (flat_map (λ p. labelled_function c.args.types.now p.0 p.1))
    (sym (c.into_iter-handle-iterator.ensures.into_iter_gives ∙ c.iter-handle-items.ensures)))

pub loop-handle-preserved : goal.loop-handle-preserved
loop-handle-preserved c =
    let function = c.in-Some.function.now in
    leaves_turn (λ p. labelled_function c.args.types.now p.0 p.1) c.in-Some.ensures.steps c.loop-handle.invariant
    (gives_same (λ i. (key.Function c.in-Some.handle, c.label_or-label.ensures i) ∷
    (labelled_arguments c.args.types.now c.in-Some.handle (c.deref.ensures.value i) ++
    labelled_locals c.in-Some.handle function.local_variables))
    (gives_then c.name.ensures.named (gives_then c.name_arguments.ensures c.name_locals.ensures)))
