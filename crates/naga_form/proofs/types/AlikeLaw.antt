-- Types are alike by their numbers exactly where they are alike by what they are read as.
use Rattle.std.proofs.Common.{◌≡◌, ℕ, Bool, true, false, List, [], ◌∷◌, refl, sym, ap, ◌∙◌, Option}
use Rattle.std.proofs.Common.{Some, None, slice_get, if◌then◌else◌}
use Rattle.std.specs.Prelude.{◌↔◌, unwrap_or}
use Rattle.std.specs.List.{list_all}
use Rattle.std.specs.Option.{option_map}
use Rattle.std.proofs.lemmas.Bool.{and_parts, not-true}
use Rattle.std.proofs.lemmas.Option.{same_Some}
use Rattle.std.proofs.lemmas.Slice.Eq.{bytes_eq-Decides}
use Rattle.naga_info.specs.declared.info.TypeResolution.{TypeResolution}
use Rattle.naga_info.specs.declared.info.TypeResolution.TheVariants.{Handle, Value}
use Rattle.naga_info.specs.Resolution.{inner_of}
use Rattle.naga_ir.specs.declared.types.Type_.{Type_}
use Rattle.naga_ir.specs.declared.types.TypeInner.{TypeInner}
use Rattle.naga_spelling.specs.Spelling.{is_struct}
use Rattle.module_semantics.specs.AlikeTypes.{are_alike, type_key, type_identity, handle_key}
use Rattle.module_semantics.specs.AlikeTypes.{found_key_by, key_within, inner_key_by}
use Rattle.module_semantics.specs.acceptance.InfoSizes.{type_is_fit, resolution_is_fit}
use Rattle.module_semantics.specs.acceptance.InfoSizes.{is_handle_pointer}
use Rattle.module_semantics.specs.TypeIdentity.{level, Identity, Nothing, StructAt, Itself, identity}
use Rattle.module_semantics.specs.TypeIdentity.{identity_at, identity_code, word_of_unspelled_type}
use Rattle.module_semantics.proofs.Lists.{list_all_at}
use Rattle.module_semantics.proofs.TypeIdentity.{word_tells}
use Rattle.naga_form.specs.Readable.{AreAlike, SpelledAlike, Unsupported, handle_names}
use Rattle.naga_form.proofs.types.AlikeTypes.{key_read, key_is_read, other_read}
use Rattle.naga_form.proofs.types.AlikeNumbers.{tree_numbers, own_handle, handles_are_distinguished}
use Rattle.naga_form.proofs.types.AlikeNumbers.{resolution_is_distinguished, key_is_distinguished}
use Rattle.naga_form.proofs.types.AlikeNumbers.{no_numbers}

-- a type without a form is told by what it is
abbrev pub by_itself : Option TypeInner → Identity
by_itself None = Nothing
by_itself (Some it) = Itself it

abbrev pub itself : Identity → Option TypeInner
itself (Itself it) = Some it
itself _ = None

pub itself_back : (o : Option TypeInner) → itself (by_itself o) ≡ o
itself_back None = refl
itself_back (Some it) = refl

module _ (types : List Type_) where
  pub distinguished_by_itself : (r : TypeResolution) → resolution_is_fit r ≡ true → type_key types r ≡ None →
      identity types r ≡ by_itself (inner_of r types)
  unfolding handle_key
  distinguished_by_itself (Handle h) fit unsupported = found (slice_get types h) unsupported
    where
      named : (it : TypeInner) (b : Bool) (form : Option (List ℕ)) →
          (if b then Some (level 8 h 0 0 0 0) else form) ≡ None → (if b then StructAt h else Itself it) ≡ Itself it
      named it true form e = absurd (cc)
      named it false form e = refl

      found : (o : Option Type_) → found_key_by (key_within h types) h o ≡ None →
          identity_at h (option_map (λ t. t.inner) o) ≡ by_itself (option_map (λ t. t.inner) o)
      found None e = refl
      found (Some t) e = named t.inner (is_struct t.inner) (inner_key_by (key_within h types) t.inner) e
  distinguished_by_itself (Value it) fit unsupported =
      let parts = and_parts _ _ fit in
      ap (λ b. if b then Nothing else Itself it) (not-true (is_struct it) parts.0)

  module _ (named : (h : ℕ) (t : Type_) → slice_get types h ≡ Some t → is_handle_pointer t.inner ≡ false) where
    -- the numbers of a form are not those of a type without one
    pub key_apart : (r : TypeResolution) → resolution_is_fit r ≡ true → (it code : List ℕ) → type_key types r
        ≡ Some it → it ≡ 32 ∷ code → ⊥
    key_apart r fit it code at e =
        let distinguished : Some it ≡
        Some ((tree_numbers own_handle) (key_read (handle_names types) it)) =
        sym at ∙ key_is_distinguished own_handle (handle_names types)
        (handles_are_distinguished types) named r (resolution_is_distinguished types r) fit
        ∙ ap (option_map (tree_numbers own_handle)) (key_is_read (handle_names types) r
        ∙ ap (option_map (key_read (handle_names types))) at)
        in
        let nothing : it ≡ [] =
        same_Some it ((tree_numbers own_handle) (key_read (handle_names types) it)) distinguished
        ∙ (ap (λ w. (tree_numbers own_handle) (key_read (handle_names types) w)) e
        ∙ (ap (tree_numbers own_handle) (other_read (handle_names types) code)
        ∙ no_numbers own_handle))
        in
        let other : 32 ∷ code ≡ [] = sym e ∙ nothing in
        absurd (cc)

    from_numbers : (a b : TypeResolution) → resolution_is_fit a ≡ true → resolution_is_fit b ≡ true →
        type_identity types a ≡ type_identity types b → AreAlike types a b
    from_numbers a b p q e = by (type_key types a) refl (type_key types b) refl e
      where
        by : (x : Option (List ℕ)) → type_key types a ≡ x → (y : Option (List ℕ)) →
            type_key types b ≡ y → unwrap_or x (word_of_unspelled_type (identity types a)) ≡
            unwrap_or y (word_of_unspelled_type (identity types b)) → AreAlike types a b
        by (Some x) at (Some y) bt e =
            SpelledAlike (key_read (handle_names types) x)
            (key_is_read (handle_names types) a ∙ ap (option_map (key_read (handle_names types))) at)
            (key_is_read (handle_names types) b ∙ ap (option_map (key_read (handle_names types)))
            (bt ∙ ap Some (sym e)))
        by (Some x) at None bt e = absurd (key_apart a p x (identity_code (identity types b)) at e)
        by None at (Some y) bt e = absurd (key_apart b q y (identity_code (identity types a)) bt (sym e))
        by None at None bt e =
            let same = sym (distinguished_by_itself a p at)
            ∙ (word_tells types a b e ∙ distinguished_by_itself b q bt) in
            Unsupported (key_is_read (handle_names types) a
            ∙ ap (option_map (key_read (handle_names types))) at)
            (key_is_read (handle_names types) b
            ∙ ap (option_map (key_read (handle_names types))) bt)
            (sym (itself_back (inner_of a types)) ∙ (ap itself same ∙ itself_back (inner_of b types)))

    to_numbers : (a b : TypeResolution) → resolution_is_fit a ≡ true → resolution_is_fit b ≡ true →
        AreAlike types a b → type_identity types a ≡ type_identity types b
    to_numbers a b p q (SpelledAlike t x y) =
        let of_a = key_is_distinguished own_handle (handle_names types)
        (handles_are_distinguished types) named a (resolution_is_distinguished types a) p
        ∙ ap (option_map (tree_numbers own_handle)) x in
        let of_b = key_is_distinguished own_handle (handle_names types)
        (handles_are_distinguished types) named b (resolution_is_distinguished types b) q
        ∙ ap (option_map (tree_numbers own_handle)) y in
        ap (λ o. unwrap_or o (word_of_unspelled_type (identity types a))) of_a
        ∙ sym (ap (λ o. unwrap_or o (word_of_unspelled_type (identity types b))) of_b)
    to_numbers a b p q (Unsupported x y same) =
        let of_a = key_is_distinguished own_handle (handle_names types)
        (handles_are_distinguished types) named a (resolution_is_distinguished types a) p
        ∙ ap (option_map (tree_numbers own_handle)) x in
        let of_b = key_is_distinguished own_handle (handle_names types)
        (handles_are_distinguished types) named b (resolution_is_distinguished types b) q
        ∙ ap (option_map (tree_numbers own_handle)) y in
        let distinguished = distinguished_by_itself a p of_a
        ∙ (ap by_itself same ∙ sym (distinguished_by_itself b q of_b)) in
        ap (λ o. unwrap_or o (word_of_unspelled_type (identity types a))) of_a
        ∙ (ap word_of_unspelled_type distinguished
        ∙ sym (ap (λ o. unwrap_or o (word_of_unspelled_type (identity types b))) of_b))

-- each type of a module that has only such types
pub each_named : (types : List Type_) → list_all type_is_fit types ≡ true → (h : ℕ) (t : Type_) →
    slice_get types h ≡ Some t → is_handle_pointer t.inner ≡ false
each_named types fits h t at = not-true (is_handle_pointer t.inner) (list_all_at type_is_fit types h t fits at)

pub alike_by_numbers : (types : List Type_) (a b : TypeResolution) →
    list_all type_is_fit types ≡ true → resolution_is_fit a ≡ true → resolution_is_fit b ≡ true →
    (are_alike types a b ≡ true) ↔ AreAlike types a b
alike_by_numbers types a b fits p q =
    let named = each_named types fits in
    let decides = bytes_eq-Decides (type_identity types a) (type_identity types b) in
    (λ e. from_numbers types named a b p q (decides.0 e), λ alike. decides.1 (to_numbers types named a b p q alike))
