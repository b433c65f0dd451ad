use Rattle.std.proofs.Common.{ap, sym, ◌∙◌, ◌∷◌, ◌++◌, ◌^◌, refl, codes, string_bytes}
use Rattle.std.specs.List.{flat_map, enumerate_from}
use Rattle.naga_naming.specs.declared.key.NameKey.TheVariants as key
use Rattle.naga_naming.specs.Naming.{label_or}
use Rattle.naga_naming.specs.Reset.{labelled_entry_point, labelled_entry_arguments}
use Rattle.naga_naming.specs.Reset.{labelled_entry_locals}
use Rattle.naga_naming.proofs.Reset.{not_below}
use Rattle.naga_names.proofs.Progress.{gives_same, gives_then, gives_up_key, leaves_turn, at_index}
use Rattle.naga_names.proofs.Progress.{one_each}
use Rattle.naga_names.proofs.namer.items.Naming.name_entry_points.Goals as goal

pub returns-in_default : goal.returns-in_default
returns-in_default c =
    c.loop-index.invariant.rest _
    (gives_same (sym
    (ap (flat_map (λ p. labelled_entry_point p.0 p.1))
    (at_index c.args.entry_points.now c.loop-index.index c.index-entry_points-index.result
    c.loop-index-test.true c.index-entry_points-index.is)))
    (gives_up_key _ _ _ _ refl c.refuse.ensures.refusal (not_below c.loop-index.index (2 ^ 16) c.in_default.ensures)))

pub loop-index-preserved : goal.loop-index-preserved
loop-index-preserved c =
    let entry_point = c.index-entry_points-index.result in
    let n = c.in-Ok.index in
    let locals = labelled_entry_locals n entry_point.function.local_variables in
    leaves_turn (λ p. labelled_entry_point p.0 p.1)
    (at_index c.args.entry_points.now c.loop-index.index entry_point c.loop-index-test.true
    c.index-entry_points-index.is) c.loop-index.invariant
    (gives_same
    ((λ i. (key.EntryPoint n, c.as_str.ensures.value i)
    ∷ (one_each (λ p. (key.EntryPointArgument n p.0, label_or p.1.name (codes "param")))
    (enumerate_from 0 c.deref.result.now) i ++ locals))
    ∙ (λ i. (key.EntryPoint n, string_bytes entry_point.name)
    ∷ (labelled_entry_arguments n (c.deref.ensures.value i) ++ locals))
    ∙ ap (λ n. labelled_entry_point n entry_point) c.in-Ok.ensures.1)
    (gives_then c.name.ensures.named (gives_then c.name_arguments.ensures c.name_locals.ensures)))
