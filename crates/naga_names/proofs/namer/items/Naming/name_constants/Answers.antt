use Rattle.std.proofs.Common.{ℕ, List, [], ◌∷◌, map, length, codes, refl, ap, sym, ◌∙◌}
use Rattle.naga_naming.specs.Keys.{names_in}
use Rattle.naga_naming.specs.declared.key.NameKey.TheVariants as key
use Rattle.naga_naming.specs.Reset.{type_names_in, value_label}
use Rattle.naga_naming.proofs.Reset.{same_type_names}
use Rattle.naga_names.proofs.Progress.{gives_same, leaves_all, leaves_turn_one}
use Rattle.naga_names.proofs.namer.items.Naming.name_constants.Goals as goal

pub loop-handle-init : goal.loop-handle-init
loop-handle-init c = record {
  named =
      leaves_all _ (ap
      (map (λ p. (
        key.Constant p.0,
        value_label (type_names_in (names_in c.args.output.now)
            (length c.args.types.now)) (codes "const_") p.1.name p.1.ty,
      )))
      (sym (c.into_iter-handle-iterator.ensures.into_iter_gives ∙ c.iter-handle-items.ensures)));
  kept = λ t. refl;
}

pub loop-handle-preserved : goal.loop-handle-preserved
loop-handle-preserved c = record {
  named =
      leaves_turn_one
      (λ p. (
        key.Constant p.0,
        value_label (type_names_in (names_in c.args.output.now) (length c.args.types.now))
            (codes "const_") p.1.name p.1.ty,
      )) c.in-Some.ensures.steps c.loop-handle.invariant.named
      (gives_same
      (ap (λ (names : ℕ → List ℕ). (
        key.Constant c.in-Some.handle,
        value_label names (codes "const_") c.in-Some.constant.now.name c.in-Some.constant.now.ty,
      ) ∷ [])
      (same_type_names (names_in c.args.output.now) (names_in c.loop-handle.output)
      (length c.args.types.now) c.loop-handle.invariant.kept))
      c.name_value.ensures.named);
  kept = λ t. c.name_value.ensures.kept t ∙ c.loop-handle.invariant.kept t;
}
