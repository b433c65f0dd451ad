use Rattle.std.proofs.Common.{◌≡◌, ℕ, map, length, codes}
use Rattle.naga_naming.specs.Keys.{names_in}
use Rattle.naga_naming.specs.declared.key.NameKey.TheVariants as key
use Rattle.naga_naming.specs.Reset.{labelled_overrides, type_names_in, value_label}
use Rattle.naga_names.specs.Progress.{progress, Leaves}
use Rattle.naga_names.proofs.namer.items.Naming.name_overrides.Given as goal

abbrev pub invariant-loop-handle : goal.invariant-loop-handle
invariant-loop-handle l = record {
  named : Leaves (progress l.initial.self l.initial.output) (progress l.self l.output)
      (labelled_overrides (type_names_in (names_in l.initial.output) (length l.types)) l.overrides)
      (map (λ p. (
        key.Override p.0,
        value_label (type_names_in (names_in l.initial.output) (length l.types))
            (codes "override_") p.1.name p.1.ty,
      )) l.handle-iterator);
  kept : (t : ℕ) → names_in l.output (key.Type_ t) ≡ names_in l.initial.output (key.Type_ t);
}
