use Rattle.std.proofs.Common.{ℕ, List, length, sym, ap, ◌∙◌, ◌++◌}
use Rattle.naga_naming.specs.Keys.{names_in}
use Rattle.naga_naming.specs.Reset.{labelled_types, labelled_entry_points, labelled_functions}
use Rattle.naga_naming.specs.Reset.{labelled_globals, labelled_overrides}
use Rattle.naga_naming.proofs.Reset.{same_type_names}
use Rattle.naga_names.proofs.Progress.{gives_alike, gives_same, gives_then, no_refusal}
use Rattle.naga_names.proofs.Progress.{module_refused, module_named}
use Rattle.naga_names.proofs.namer.items.Naming.name_items.Goals as goal

pub returns-then-is_some : goal.returns-then-is_some
returns-then-is_some c =
    let m = c.args.module.now in
    module_refused _ _ m
    (gives_same (λ i. labelled_types (c.deref.ensures.value i) m.types ++
    (labelled_entry_points (c.deref-2.ensures.value i) ++
    (labelled_functions m.types m.functions ++ labelled_globals m.types m.global_variables)))
    (gives_alike c.make_room.ensures (gives_then c.name_types.ensures
    (gives_then c.name_entry_points.ensures
    (gives_then c.name_functions.ensures c.name_globals.ensures)))))
    (sym c.is_some.ensures ∙ c.if-is_some.true)

pub returns : goal.returns
returns c =
    let m = c.args.module.now in
    module_named _ _ m
    (gives_same (λ i. labelled_types (c.deref.ensures.value i) m.types ++
    (labelled_entry_points (c.deref-2.ensures.value i) ++
    (labelled_functions m.types m.functions ++ labelled_globals m.types m.global_variables)))
    (gives_alike c.make_room.ensures (gives_then c.name_types.ensures
    (gives_then c.name_entry_points.ensures
    (gives_then c.name_functions.ensures c.name_globals.ensures)))))
    _ (no_refusal _ (sym c.is_some.ensures ∙ c.if-is_some.false))
    (gives_then c.name_constants.ensures.named
    (gives_same (ap (λ (names : ℕ → List ℕ). labelled_overrides names m.overrides)
    (same_type_names (names_in c.name_globals.new.output) (names_in c.name_constants.new.output)
    (length m.types) c.name_constants.ensures.kept)) c.name_overrides.ensures))
