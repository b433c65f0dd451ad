-- Values are of one type exactly where acceptance takes their types for alike.
use Rattle.std.proofs.Common.{◌≡◌, None, length, sym, ap, ◌∙◌}
use Rattle.std.specs.Prelude.{IsTrue, unwrap_or, ◌↔◌}
use Rattle.std.proofs.lemmas.Slice.Eq.{bytes_eq-Decides}
use Rattle.naga_info.specs.declared.info.ModuleInfo.{ModuleInfo}
use Rattle.naga_info.specs.declared.info.TypeResolution.{TypeResolution}
use Rattle.naga_ir.specs.declared.module.Module.{Module}
use Rattle.module_semantics.specs.acceptance.Accepted.{is_accepted}
use Rattle.module_semantics.specs.AlikeTypes.{are_alike, type_identity}
use Rattle.module_semantics.specs.Names.{TypesAreDistinguished}
use Rattle.module_semantics.specs.acceptance.Ranges.{resolution_fits}
use Rattle.module_semantics.specs.TypeIdentity.{identity, word_of_unspelled_type}
use Rattle.module_semantics.specs.Types.{spelled_resolution, type_names, type_of_values}
use Rattle.module_semantics.proofs.TypeIdentity.{word_tells}
use Rattle.naga_form.proofs.declarations.AcceptedGroups.{fit_of, types_are_counted}
use Rattle.naga_form.proofs.types.SameValues.{numbers_by_values, values_by_numbers}
use Rattle.naga_form.proofs.types.SameValues.{word_in, word_of_type}

-- types without a spelling have values of one type only where they are told by the same
pub unspelled_apart : (m : Module) (a b : TypeResolution) →
    spelled_resolution (type_names m) a ≡ None → spelled_resolution (type_names m) b ≡ None →
    type_of_values m a ≡ type_of_values m b → identity m.types a ≡ identity m.types b
unspelled_apart m a b x y e =
    word_tells m.types a b
    (sym (ap (λ o. unwrap_or o (word_of_unspelled_type (identity m.types a))) x)
    ∙ (sym (word_of_type m a) ∙ (ap word_in e ∙ (word_of_type m b
    ∙ ap (λ o. unwrap_or o (word_of_unspelled_type (identity m.types b))) y))))

-- types in range of an accepted module, whose structs and overrides are told by their names
pub alike_distinguished : (m : Module) (info : ModuleInfo) → IsTrue (is_accepted m info) →
    TypesAreDistinguished m →
    (a b : TypeResolution) → IsTrue (resolution_fits (length m.overrides) (length m.types) a) →
    IsTrue (resolution_fits (length m.overrides) (length m.types) b) →
    (type_of_values m a ≡ type_of_values m b) ↔ IsTrue (are_alike m.types a b)
alike_distinguished m info accepted distinguished a b p q =
    let are = types_are_counted m info accepted distinguished in
    let x = fit_of m info accepted a p in
    let y = fit_of m info accepted b q in
    let decides = bytes_eq-Decides (type_identity m.types a) (type_identity m.types b) in (
      λ e. decides.1 (numbers_by_values m are a b x y e),
      λ same. values_by_numbers m are a b x y (decides.0 same),
    )
