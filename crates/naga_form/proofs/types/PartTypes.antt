-- The types of an accepted module: their parts stand before them, and they name structs and overrides
-- by the module's names.
use Rattle.std.proofs.Common.{◌≡◌, ℕ, ◌≤◌, ◌+◌, true, length, Option, Some, None, refl, sym, ap}
use Rattle.std.proofs.Common.{subst, ◌∙◌, slice_get, arith}
use Rattle.std.specs.Prelude.{IsTrue}
use Rattle.std.specs.Option.{option_map}
use Rattle.std.proofs.lemmas.Bool.{and_parts, ltb-true}
use Rattle.std.proofs.lemmas.Option.{same_Some}
use Rattle.naga_info.specs.Resolution.{inner_of}
use Rattle.naga_info.specs.declared.info.ModuleInfo.{ModuleInfo}
use Rattle.naga_info.specs.declared.info.TypeResolution.{TypeResolution}
use Rattle.naga_info.specs.declared.info.TypeResolution.TheVariants.{Handle, Value}
use Rattle.naga_ir.specs.declared.module.Module.{Module}
use Rattle.naga_ir.specs.declared.types.Type_.{Type_}
use Rattle.naga_ir.specs.declared.types.TypeInner.{TypeInner}
use Rattle.naga_ir.specs.declared.types.TypeInner.TheVariants as inner
use Rattle.naga_naming.specs.Keys.{NameMap}
use Rattle.naga_naming.specs.declared.key.NameKey.TheVariants as key
use Rattle.naga_spelling.specs.Contexts.{name_or_nothing}
use Rattle.naga_spelling.specs.Spelling.{end_of_base, length_within}
use Rattle.module_semantics.proofs.Lists.{numbered_at}
use Rattle.module_semantics.specs.acceptance.Accepted.{is_accepted}
use Rattle.module_semantics.specs.acceptance.InfoSizes.{resolution_is_fit}
use Rattle.module_semantics.specs.Names.{HasNamesOf, module_names}
use Rattle.module_semantics.specs.acceptance.Ranges.{parts_before, numbers_in_range}
use Rattle.module_semantics.specs.acceptance.Ranges.{parts_stand_before, resolution_fits}
use Rattle.naga_form.proofs.declarations.AcceptedGroups.{types_are_fit, types_range}
use Rattle.naga_form.proofs.types.SameValues.{or_nothing}
use Rattle.naga_form.proofs.types.WrittenTypes.{AreNamedAlike}

-- what stands before a type has handles below it
pub ends_before : (types : ℕ) (it : TypeInner) → parts_before types it ≡ true → end_of_base it ≤ types
ends_before types (inner.Pointer base space) is =
    let lt = ltb-true base types is in omega (arith, lt)
ends_before types (inner.Array base size stride) is =
    let lt = ltb-true base types is in omega (arith, lt)
ends_before types (inner.BindingArray base size) is =
    let lt = ltb-true base types is in omega (arith, lt)
ends_before types _ is = omega arith

module _ (m : Module) (info : ModuleInfo) (accepted : IsTrue (is_accepted m info)) where
  -- the parts of a type stand before it
  pub type_before : (h : ℕ) (t : Type_) → slice_get m.types h ≡ Some t → end_of_base t.inner ≤ h
  type_before h t at =
      let here : 0 + h ≡ h = omega arith in
      ends_before h t.inner
      (sym (ap (λ n. parts_before n t.inner) here) ∙ numbered_at (λ here (t : Type_). parts_before here t.inner) 0
      m.types h t
      (and_parts (parts_stand_before m.types) _ (types_range m info accepted)).0 at)

  -- so do those of a type that is known
  pub known_before : (r : TypeResolution) →
      resolution_fits (length m.overrides) (length m.types) r ≡ true → (it : TypeInner) →
      inner_of r m.types ≡ Some it → end_of_base it ≤ length m.types
  known_before (Handle h) fits it is = by (slice_get m.types h) refl is
    where
      by : (o : Option Type_) → slice_get m.types h ≡ o → option_map (λ t. t.inner) o ≡ Some it →
          end_of_base it ≤ length m.types
      by None at is = absurd cc
      by (Some t) at is =
          let lt = ltb-true h (length m.types) fits in
          let before = type_before h t at in
          subst (λ it. end_of_base it ≤ length m.types) (same_Some t.inner it is)
          (omega (arith, lt, before))
  known_before (Value own) fits it is =
      let one = and_parts (resolution_is_fit (Value own)) _ fits in
      let two = and_parts (parts_before (length m.types) own) _ one.1 in
      subst (λ it. end_of_base it ≤ length m.types) (same_Some own it is)
      (ends_before (length m.types) own two.0)

  -- a type by itself names an override that there is
  pub known_within : (r : TypeResolution) →
      resolution_fits (length m.overrides) (length m.types) r ≡ true → (it : TypeInner) →
      r ≡ Value it → length_within (length m.overrides) it ≡ true
  known_within r fits it is = by it (sym (ap (resolution_fits (length m.overrides) (length m.types)) is) ∙ fits)
    where
      by : (it : TypeInner) →
          resolution_fits (length m.overrides) (length m.types) (Value it) ≡ true →
          length_within (length m.overrides) it ≡ true
      by it fits =
          let one = and_parts (resolution_is_fit (Value it)) _ fits in
          let two = and_parts (parts_before (length m.types) it) (numbers_in_range (length m.overrides) it) one.1 in
          (and_parts (length_within (length m.overrides) it) _ two.1).0

  -- names that the map of a module has are the module's own
  pub named_alike : (names : NameMap) → HasNamesOf m names →
      AreNamedAlike m.types (length m.overrides) names (module_names m)
  named_alike names has = record {
    names = λ h t at.
        ap name_or_nothing (has.types h t at) ∙ sym (or_nothing (module_names m (key.Type_ h)));
    told = λ o lt.
        ap name_or_nothing (has.overrides o lt) ∙ sym (or_nothing (module_names m (key.Override o)));
    lengths = (types_are_fit m info accepted).within;
  }
