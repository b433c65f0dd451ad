-- Values are of one type exactly where their types are told by the same numbers: so the words under
-- the names of an accepted module tell types as the numbers do.
--
-- Structs and overrides are to be told by their names, which acceptance does not ask, and lengths to
-- be numbers of 32 bits.
use Rattle.std.proofs.Common.{◌≡◌, ℕ, zero, suc, ◌<◌, Bool, true, false, List, [], ◌∷◌, refl, sym}
use Rattle.std.proofs.Common.{ap, ◌∙◌, Option, Some, None, slice_get, length, arith, if◌then◌else◌}
use Rattle.std.proofs.Common.{codes, ◌^◌, get_or, subst, ◌++◌, nat_eq, nat_lt}
use Rattle.std.specs.Prelude.{unwrap_or, ◌&&◌}
use Rattle.std.specs.List.{list_all}
use Rattle.std.specs.Str.{bytes_eq}
use Rattle.std.specs.Option.{option_map, option_map_or, is_some, is_none}
use Rattle.std.specs.Int.NonZero.{non_zero_u32_get}
use Rattle.std.proofs.lemmas.Bool.{ltb-true, true≢false, and_parts, and_from}
use Rattle.std.proofs.lemmas.Slice.Eq.{bytes_eq-Decides}
use Rattle.std.proofs.lemmas.Option.{slice_get_within}
use Rattle.wgsl_words.specs.Words.{scalar_word, space_word}
use Rattle.naga_ir.specs.declared.module.Module.{Module}
use Rattle.naga_ir.specs.declared.types.ScalarKind.{ScalarKind}
use Rattle.naga_ir.specs.declared.types.ScalarKind.TheVariants as scalars
use Rattle.naga_ir.specs.declared.types.ArraySize.{ArraySize}
use Rattle.naga_ir.specs.declared.types.ArraySize.TheVariants as size
use Rattle.naga_ir.specs.declared.types.Type_.{Type_}
use Rattle.naga_ir.specs.declared.types.TypeInner.{TypeInner}
use Rattle.naga_ir.specs.declared.types.TypeInner.TheVariants as inner
use Rattle.naga_ir.specs.declared.types.Scalar.{Scalar}
use Rattle.naga_info.specs.declared.info.TypeResolution.{TypeResolution}
use Rattle.naga_info.specs.declared.info.TypeResolution.TheVariants.{Handle, Value}
use Rattle.naga_info.specs.Resolution.{inner_of}
use Rattle.naga_naming.specs.declared.key.NameKey.{NameKey}
use Rattle.naga_naming.specs.declared.key.NameKey.TheVariants as key
use Rattle.naga_naming.specs.Reset.{labelled_items}
use Rattle.naga_naming.proofs.NamedItems.{Stands, constant_stands, global_stands, override_stands}
use Rattle.naga_naming.proofs.NamedItems.{type_stands}
use Rattle.naga_spelling.specs.Contexts.{Names, name_or_nothing}
use Rattle.naga_spelling.specs.Spelling.{is_struct, size_within, length_within}
use Rattle.wgsl_text.specs.Reading.{printed_type, ReadsType}
use Rattle.wgsl_text.specs.Text.{tokens}
use Rattle.wgsl_text.specs.Types.{TypeSpecifier, IsType}
use Rattle.wgsl_text.specs.Words.{IsIdentifier}
use Rattle.wgsl_text.proofs.Reading.{type_has_one_reading}
use Rattle.shader_runs.specs.Value.{ValueType, BooleanType, IntegerType, PointerType, OtherType}
use Rattle.module_semantics.specs.AlikeTypes.{type_key, type_identity, handle_key, inner_key_by}
use Rattle.module_semantics.specs.AlikeTypes.{key_within, found_key_by, named_key_by, over_scalar}
use Rattle.module_semantics.specs.AlikeTypes.{image_key, pointer_key, value_key, access_number}
use Rattle.naga_ir.specs.declared.image.ImageClass.{ImageClass}
use Rattle.naga_ir.specs.declared.image.ImageClass.TheVariants as class
use Rattle.naga_ir.specs.declared.image.ImageDimension.{ImageDimension}
use Rattle.module_semantics.specs.acceptance.InfoSizes.{type_is_fit, resolution_is_fit}
use Rattle.module_semantics.specs.Names.{TypesAreDistinguished, constant_name, global_name}
use Rattle.module_semantics.specs.Names.{override_name}
use Rattle.module_semantics.specs.Names.{module_names, name_in, wgsl_names}
use Rattle.module_semantics.specs.Types.{type_of_values, word_of_values, values_of, scalar_values}
use Rattle.module_semantics.specs.Types.{type_names, spelled_resolution}
use Rattle.module_semantics.specs.TypeIdentity.{identity, identity_code, word_of_unspelled_type}
use Rattle.module_semantics.specs.TypeIdentity.{level, kind_number, truth_number, dimension_number}
use Rattle.module_semantics.specs.TypeIdentity.{component_count, cooperative_number, matrix_role_number}
use Rattle.module_semantics.specs.TypeIdentity.{space_number, length_kind, length_number}
use Rattle.module_semantics.proofs.TypeIdentity.{word_tells}
use Rattle.naga_form.specs.Readable.{AreNamed, ResolutionIsWithin, LengthIsWithin, InnerIsWithin}
use Rattle.naga_form.specs.TypeTrees.{resolution_tree}
use Rattle.naga_form.proofs.types.AlikeLaw.{key_apart, distinguished_by_itself, each_named}
use Rattle.naga_form.proofs.types.AlikeLaw.{by_itself, itself, itself_back}
use Rattle.naga_form.proofs.types.AlikeNumbers.{AreDistinguished, InnerIsDistinguished}
use Rattle.naga_form.proofs.types.AlikeNumbers.{LengthIsDistinguished, ResolutionIsDistinguished}
use Rattle.naga_form.proofs.types.AlikeNumbers.{named_numbers, key_is_distinguished, tree_numbers}
use Rattle.naga_form.proofs.types.AlikeTypes.{key_read, key_is_read}
use Rattle.naga_form.proofs.names.Names.{item_is_identifier}
use Rattle.naga_form.proofs.types.TypeTrees.{resolution_is, resolution_row}
use Rattle.wgsl_text.proofs.Text.{text-append}
use Rattle.naga_form.proofs.operators.TypedWords.{no_blank}

-- ---- the greatest number below a limit that passes a test
abbrev search_below : (ℕ → Bool) → ℕ → Option ℕ
search_below p zero = None
search_below p (suc n) = if p n then Some n else search_below p n

found_below : (p : ℕ → Bool) (n h : ℕ) → h < n → p h ≡ true → ((k : ℕ) → k < n → p k ≡ true → k ≡ h) →
    search_below p n ≡ Some h
found_below p zero h lt is only = absurd (omega (arith, lt))
found_below p (suc n) h lt is only =
    by (p n) refl (λ not_here. found_below p n h (before not_here) is (λ k le at. only k (omega (arith, le)) at))
  where
    before : p n ≡ false → h < n
    before not_n = let other : (n ≡ h → ⊥) = λ e. true≢false (sym is ∙ (ap p (sym e) ∙ not_n)) in
        omega (arith, lt, other)

    by : (b : Bool) → p n ≡ b → (p n ≡ false → search_below p n ≡ Some h) →
        (if b then Some n else search_below p n) ≡ Some h
    by true at more = ap Some (only n (omega arith) at)
    by false at more = more at

none_below : (p : ℕ → Bool) (n : ℕ) → ((k : ℕ) → k < n → p k ≡ false) → search_below p n ≡ None
none_below p zero not_so = refl
none_below p (suc n) not_so =
    (λ i. if not_so n (omega arith) i then Some n else search_below p n)
    ∙ none_below p n (λ k lt. not_so k (omega (arith, lt)))

-- ---- what is asked of lengths
-- a length is a number of 32 bits
abbrev pub LengthIsCounted : ArraySize → Type 0
LengthIsCounted (size.Constant number) = non_zero_u32_get number < 2 ^ 32
LengthIsCounted _ = Unit {0}

abbrev pub InnerIsCounted : TypeInner → Type 0
InnerIsCounted (inner.Array base n stride) = LengthIsCounted n
InnerIsCounted (inner.BindingArray base n) = LengthIsCounted n
InnerIsCounted _ = Unit {0}

-- a type that is fit, whose length is counted, and an override's length there
abbrev pub IsFit : Module → TypeResolution → Type 0
IsFit m (Handle h) = Unit {0}
IsFit m (Value it) =
    (resolution_is_fit (Value it) ≡ true) × InnerIsCounted it × (length_within (length m.overrides) it ≡ true)

-- the types of the module are fit
pub record TypesAreFit (m : Module) : Type 0 where
  pub fits : list_all type_is_fit m.types ≡ true
  pub counted : (h : ℕ) (t : Type_) → slice_get m.types h ≡ Some t → InnerIsCounted t.inner
  pub within : (h : ℕ) (t : Type_) → slice_get m.types h ≡ Some t → length_within (length m.overrides) t.inner ≡ true

-- and structs and overrides are told by their names
pub record TypesAreCounted (m : Module) : Type 0 where
  pub names : TypesAreDistinguished m
  pub types : TypesAreFit m

-- ---- values
abbrev pub word_in : ValueType → List ℕ
word_in BooleanType = codes "bool"
word_in (IntegerType w) = w
word_in (PointerType w) = w
word_in (OtherType w) = w

scalar_word_in : (k : ScalarKind) (w : List ℕ) → word_in (scalar_values k w) ≡ w
scalar_word_in scalars.Bool w = by (bytes_eq w (codes "bool")) refl
  where
    by : (b : Bool) → bytes_eq w (codes "bool") ≡ b → word_in (if b then BooleanType else OtherType w) ≡ w
    by true at = sym ((bytes_eq-Decides w (codes "bool")).0 at)
    by false at = refl
scalar_word_in _ w = refl

values_word : (it : TypeInner) (w : List ℕ) → word_in (values_of it w) ≡ w
values_word (inner.Scalar s) w = scalar_word_in s.kind w
values_word _ w = refl

pub word_of_type : (m : Module) (r : TypeResolution) → word_in (type_of_values m r) ≡ word_of_values m r
word_of_type m r = by (inner_of r m.types)
  where
    by : (o : Option TypeInner) → word_in (option_map_or (λ it. values_of it (word_of_values m r)) o
        (OtherType (word_of_values m r))) ≡ word_of_values m r
    by None = refl
    by (Some it) = values_word it (word_of_values m r)

-- ---- trees
pub or_nothing : (o : Option (List ℕ)) → name_or_nothing o ≡ unwrap_or o []
or_nothing None = refl
or_nothing (Some w) = refl

module _ (m : Module) where
  -- an item within the list
  there : {X : Type 0} (xs : List X) (i : ℕ) → i < length xs → (x : X) × (slice_get xs i ≡ Some x)
  there [] i lt = absurd (omega (arith, lt))
  there (x ∷ xs) zero lt = (x, refl)
  there (x ∷ xs) (suc i) lt = there xs i (omega (arith, lt))

  type_item : (h : ℕ) → h < length m.types → (label : List ℕ) × Stands (labelled_items (wgsl_names m) m)
      (key.Type_ h, label)
  type_item h lt = let k = there m.types h lt in (_, type_stands (wgsl_names m) m h k.0 k.1)

  override_item : (o : ℕ) → o < length m.overrides → (label : List ℕ) × Stands (labelled_items (wgsl_names m) m)
      (key.Override o, label)
  override_item o lt = let k = there m.overrides o lt in (_, override_stands (wgsl_names m) m o k.0 k.1)

  struct_identifier : (h : ℕ) → h < length m.types → IsIdentifier ((type_names m).struct_name h)
  struct_identifier h lt = let a = type_item h lt in
      subst IsIdentifier (sym (or_nothing (module_names m (key.Type_ h)))) (item_is_identifier m (key.Type_ h, a.0) a.1)

  pub override_is_identifier : (o : ℕ) → o < length m.overrides → IsIdentifier (override_name (module_names m) o)
  override_is_identifier o lt = let a = override_item o lt in item_is_identifier m (key.Override o, a.0) a.1

  pub override_identifier : (o : ℕ) → o < length m.overrides → IsIdentifier ((type_names m).override_name o)
  override_identifier o lt =
      subst IsIdentifier (sym (or_nothing (module_names m (key.Override o)))) (override_is_identifier o lt)

  -- and constants and variables
  pub constant_identifier : (c : ℕ) → c < length m.constants → IsIdentifier (constant_name (module_names m) c)
  constant_identifier c lt = let k = there m.constants c lt in
      item_is_identifier m (key.Constant c, _) (constant_stands (wgsl_names m) m c k.0 k.1)

  pub global_identifier : (v : ℕ) → v < length m.global_variables → IsIdentifier (global_name (module_names m) v)
  global_identifier v lt = let k = there m.global_variables v lt in
      item_is_identifier m (key.GlobalVariable v, _) (global_stands (wgsl_names m) m v k.0 k.1)

module _ (m : Module) (types : TypesAreFit m) where
  size_is : (n : ArraySize) → LengthIsCounted n → size_within (length m.overrides) n ≡ true →
      LengthIsWithin (length m.overrides) n
  size_is (size.Constant number) counted within = counted
  size_is (size.Pending o) counted within = ltb-true o (length m.overrides) within
  size_is size.Dynamic counted within = tt

  inner_within : (it : TypeInner) → InnerIsCounted it → length_within (length m.overrides) it ≡ true →
      InnerIsWithin (length m.overrides) it
  inner_within (inner.Array base n stride) counted within = size_is n counted within
  inner_within (inner.BindingArray base n) counted within = size_is n counted within
  inner_within _ counted within = tt

  are_named : AreNamed (type_names m) (length m.overrides)
  are_named = record {
    structs = λ h t at is. struct_identifier m h (slice_get_within m.types h t at);
    overrides = override_identifier m;
    lengths = λ h t at. inner_within t.inner (types.counted h t at) (types.within h t at);
  }

  is_within : (r : TypeResolution) → IsFit m r → ResolutionIsWithin (length m.overrides) r
  is_within (Handle h) fit = tt
  is_within (Value it) fit = inner_within it fit.1 fit.2

  pub tree_is : (r : TypeResolution) → IsFit m r → (t : TypeSpecifier) → resolution_tree (type_names m) r
      ≡ Some t → IsType t
  tree_is r fit t at = resolution_is (type_names m) (length m.overrides) are_named r (is_within r fit) t at

-- ---- names of structs and overrides
module _ (m : Module) (are : TypesAreCounted m) where
  abbrev names : Names
  names = type_names m

  same_name : (a b : NameKey) → name_or_nothing (module_names m a) ≡ name_or_nothing (module_names m b) →
      name_in (module_names m) a ≡ name_in (module_names m) b
  same_name a b e = sym (or_nothing (module_names m a)) ∙ (e ∙ or_nothing (module_names m b))

  -- a struct with this name
  abbrev is_struct_at : ℕ → Bool
  is_struct_at h = option_map_or (λ t. is_struct t.inner) (slice_get m.types h) false

  abbrev is_struct_named : List ℕ → ℕ → Bool
  is_struct_named w h = is_struct_at h && bytes_eq (names.struct_name h) w

  struct_at : (h : ℕ) → is_struct_at h ≡ true → (t : Type_) × (slice_get m.types h ≡ Some t)
      × (is_struct t.inner ≡ true)
  struct_at h is = by (slice_get m.types h) refl is
    where
      by : (o : Option Type_) → slice_get m.types h ≡ o → option_map_or (λ t. is_struct t.inner) o false
          ≡ true → (t : Type_) × (slice_get m.types h ≡ Some t) × (is_struct t.inner ≡ true)
      by None at is = absurd cc
      by (Some t) at is = (t, at, is)

  -- the handle of what has this name
  abbrev handle_named : List ℕ → ℕ
  handle_named w =
      unwrap_or (search_below (is_struct_named w) (length m.types))
      (unwrap_or (search_below (λ o. bytes_eq (names.override_name o) w) (length m.overrides)) 0)

  struct_handle : (h : ℕ) (t : Type_) → slice_get m.types h ≡ Some t → is_struct t.inner ≡ true →
      handle_named (names.struct_name h) ≡ h
  struct_handle h t at is =
      ap (λ x. unwrap_or x
      (unwrap_or (search_below (λ o. bytes_eq (names.override_name o) (names.struct_name h))
      (length m.overrides)) 0))
      (found_below (is_struct_named (names.struct_name h)) (length m.types) h (slice_get_within m.types h t at)
      (and_from (is_struct_at h) (bytes_eq (names.struct_name h) (names.struct_name h))
      (ap (λ o. option_map_or (λ t. is_struct t.inner) o false) at ∙ is)
      ((bytes_eq-Decides (names.struct_name h) (names.struct_name h)).1 refl))
      only)
    where
      only : (k : ℕ) → k < length m.types → is_struct_named (names.struct_name h) k ≡ true → k ≡ h
      only k le named =
          let parts = and_parts (is_struct_at k) (bytes_eq (names.struct_name k) (names.struct_name h)) named in
          let u = struct_at k parts.0 in
          are.names.structs k h u.0 t u.1 at u.2 is
          (same_name (key.Type_ k) (key.Type_ h)
          ((bytes_eq-Decides (names.struct_name k) (names.struct_name h)).0 parts.1))

  override_handle : (o : ℕ) → o < length m.overrides → handle_named (names.override_name o) ≡ o
  override_handle o lt =
      ap (λ x. unwrap_or x
      (unwrap_or (search_below (λ k. bytes_eq (names.override_name k) (names.override_name o))
      (length m.overrides)) 0))
      (none_below (is_struct_named (names.override_name o)) (length m.types)
      (λ h le. not_both h (is_struct_named (names.override_name o) h) refl))
      ∙ ap (λ x. unwrap_or x 0)
      (found_below (λ k. bytes_eq (names.override_name k) (names.override_name o)) (length m.overrides) o lt
      ((bytes_eq-Decides (names.override_name o) (names.override_name o)).1 refl)
      (λ k le at. are.names.overrides k o le lt
      (same_name (key.Override k) (key.Override o)
      ((bytes_eq-Decides (names.override_name k) (names.override_name o)).0 at))))
    where
      not_both : (h : ℕ) (b : Bool) → is_struct_named (names.override_name o) h ≡ b →
          is_struct_named (names.override_name o) h ≡ false
      not_both h true named =
          let parts = and_parts (is_struct_at h) (bytes_eq (names.struct_name h) (names.override_name o)) named in
          let t = struct_at h parts.0 in
          absurd (are.names.apart h o t.0 t.1 t.2 lt
          (same_name (key.Type_ h) (key.Override o)
          ((bytes_eq-Decides (names.struct_name h) (names.override_name o)).0 parts.1)))
      not_both h false named = named

  size_distinguished : (n : ArraySize) → size_within (length m.overrides) n ≡ true →
      LengthIsDistinguished handle_named names n
  size_distinguished (size.Constant number) within = tt
  size_distinguished (size.Pending o) within =
      let lt = ltb-true o (length m.overrides) within in
      named_numbers handle_named (names.override_name o) (override_identifier m o lt)
      ∙ ap (λ x. level 8 x 0 0 0 0) (override_handle o lt)
  size_distinguished size.Dynamic within = tt

  inner_distinguished : (it : TypeInner) → length_within (length m.overrides) it ≡ true →
      InnerIsDistinguished handle_named names it
  inner_distinguished (inner.Array base n stride) within = size_distinguished n within
  inner_distinguished (inner.BindingArray base n) within = size_distinguished n within
  inner_distinguished _ within = tt

  are_distinguished : AreDistinguished handle_named names
  are_distinguished = record {
    structs = λ h t at is. let lt = slice_get_within m.types h t at in
        named_numbers handle_named (names.struct_name h) (struct_identifier m h lt)
        ∙ ap (λ x. level 8 x 0 0 0 0) (struct_handle h t at is);
    lengths = λ h t at. inner_distinguished t.inner (are.types.within h t at);
  }

  is_fit : (r : TypeResolution) → IsFit m r → resolution_is_fit r ≡ true
  is_fit (Handle h) fit = refl
  is_fit (Value it) fit = fit.0

  is_distinguished : (r : TypeResolution) → IsFit m r →
      ResolutionIsDistinguished handle_named names r
  is_distinguished (Handle h) fit = tt
  is_distinguished (Value it) fit = inner_distinguished it fit.2

  -- ---- forms and spellings
  -- a type's numbers by its tree
  numbers_of : (r : TypeResolution) → IsFit m r → type_key m.types r ≡ option_map (tree_numbers handle_named)
      (resolution_tree names r)
  numbers_of r fit = key_is_distinguished handle_named names are_distinguished
      (each_named m.types are.types.fits) r (is_distinguished r fit) (is_fit r fit)

  -- the tree by the numbers
  pub tree_of : (r : TypeResolution) → resolution_tree names r ≡ option_map (key_read names) (type_key m.types r)
  tree_of r = key_is_read names r

  -- the spelling by the tree
  pub spelling_of : (r : TypeResolution) →
      spelled_resolution names r ≡ option_map printed_type (resolution_tree names r)
  spelling_of r = resolution_row text-append names (λ handle. true) r

  pub one_tree : (t u : TypeSpecifier) → IsType t → IsType u → printed_type t ≡ printed_type u → t ≡ u
  one_tree t u p q e =
      let one = type_has_one_reading t p in let two = type_has_one_reading u q in
      two.only t (subst (λ w. ReadsType (tokens w) t) e one.read)

  -- a spelling begins with no blank
  no_blank_in : (t : TypeSpecifier) → IsType t → (code : List ℕ) → printed_type t ≡ 32 ∷ code → ⊥
  no_blank_in t is code e = no_blank (printed_type t) code (t, (is, refl)) e

  -- ---- words and numbers
  abbrev word_of : Option TypeSpecifier → TypeResolution → List ℕ
  word_of o r = unwrap_or (option_map printed_type o) (word_of_unspelled_type (identity m.types r))

  abbrev identity_of : Option TypeSpecifier → TypeResolution → List ℕ
  identity_of o r = unwrap_or (option_map (tree_numbers handle_named) o) (word_of_unspelled_type (identity m.types r))

  word_is : (r : TypeResolution) → word_of_values m r ≡ word_of (resolution_tree names r) r
  word_is r = ap (λ o. unwrap_or o (word_of_unspelled_type (identity m.types r))) (spelling_of r)

  identity_is : (r : TypeResolution) → IsFit m r → type_identity m.types r ≡ identity_of (resolution_tree names r) r
  identity_is r fit = ap (λ o. unwrap_or o (word_of_unspelled_type (identity m.types r))) (numbers_of r fit)

  -- words that are the same are of types with the same numbers
  pub numbers_by_words : (a b : TypeResolution) → IsFit m a → IsFit m b → word_of_values m a
      ≡ word_of_values m b → type_identity m.types a ≡ type_identity m.types b
  numbers_by_words a b p q e =
      identity_is a p ∙ (by (resolution_tree names a) refl (resolution_tree names b) refl
      (sym (word_is a) ∙ (e ∙ word_is b)) ∙ sym (identity_is b q))
    where
      by : (x : Option TypeSpecifier) → resolution_tree names a ≡ x → (y : Option TypeSpecifier) →
          resolution_tree names b ≡ y → word_of x a ≡ word_of y b → identity_of x a ≡ identity_of y b
      by (Some t) at (Some u) bt e =
          ap (tree_numbers handle_named) (one_tree t u (tree_is m are.types a p t at)
          (tree_is m are.types b q u bt) e)
      by (Some t) at None bt e =
          absurd (no_blank_in t (tree_is m are.types a p t at) (identity_code (identity m.types b)) e)
      by None at (Some u) bt e =
          absurd (no_blank_in u (tree_is m are.types b q u bt) (identity_code (identity m.types a)) (sym e))
      by None at None bt e = e

  -- and the other way
  abbrev key_word : Option (List ℕ) → TypeResolution → List ℕ
  key_word o r = unwrap_or (option_map printed_type (option_map (key_read names) o))
      (word_of_unspelled_type (identity m.types r))

  word_by_key : (r : TypeResolution) → word_of_values m r ≡ key_word (type_key m.types r) r
  word_by_key r = word_is r ∙ ap (λ o. word_of o r) (tree_of r)

  apart : (r : TypeResolution) → IsFit m r → (it code : List ℕ) → type_key m.types r ≡ Some it → it ≡ 32 ∷ code → ⊥
  apart r fit = key_apart m.types (each_named m.types are.types.fits) r (is_fit r fit)

  -- the same, with the form of the other type
  record AlikeKeys (a b : TypeResolution) : Type 0 where
    words : word_of_values m a ≡ word_of_values m b
    kinds : (type_key m.types a ≡ type_key m.types b)
        × ((type_key m.types a ≡ None) → identity m.types a ≡ identity m.types b)

  alike_keys : (a b : TypeResolution) → IsFit m a → IsFit m b → type_identity m.types a
      ≡ type_identity m.types b → AlikeKeys a b
  alike_keys a b p q e = by (type_key m.types a) refl (type_key m.types b) refl e
    where
      by : (x : Option (List ℕ)) → type_key m.types a ≡ x → (y : Option (List ℕ)) →
          type_key m.types b ≡ y → unwrap_or x (word_of_unspelled_type (identity m.types a)) ≡
          unwrap_or y (word_of_unspelled_type (identity m.types b)) → AlikeKeys a b
      by (Some x) at (Some y) bt e = record {
        words = word_by_key a ∙ (ap (λ o. key_word o a) at
            ∙ (ap (λ z. printed_type (key_read names z)) e ∙ sym (word_by_key b ∙ ap (λ o. key_word o b) bt)));
        kinds = (at ∙ (ap Some e ∙ sym bt), λ none. absurd (cc));
      }
      by (Some x) at None bt e = absurd (apart a p x (identity_code (identity m.types b)) at e)
      by None at (Some y) bt e = absurd (apart b q y (identity_code (identity m.types a)) bt (sym e))
      by None at None bt e = record {
        words = word_by_key a ∙ (ap (λ o. key_word o a) at ∙ (e ∙ sym (word_by_key b ∙ ap (λ o. key_word o b) bt)));
        kinds = (at ∙ sym bt, λ none. word_tells m.types a b e);
      }

  -- where values are of one type, the types are told by the same numbers
  pub numbers_by_values : (a b : TypeResolution) → IsFit m a → IsFit m b → type_of_values m a
      ≡ type_of_values m b → type_identity m.types a ≡ type_identity m.types b
  numbers_by_values a b p q e = numbers_by_words a b p q (sym (word_of_type m a) ∙ (ap word_in e ∙ word_of_type m b))

  -- ---- which values a type has, by its form
  abbrev scalar_numbered : (kind : ℕ) → List ℕ → ValueType
  scalar_numbered kind w =
      if nat_lt kind 2 then IntegerType w else (if nat_eq kind 3 then scalar_values scalars.Bool w else OtherType w)

  scalar_of_number : (k : ScalarKind) (w : List ℕ) → scalar_values k w ≡ scalar_numbered (kind_number k) w
  scalar_of_number scalars.Bool w = refl
  scalar_of_number _ w = refl

  -- of the kind of type with this tag, over a scalar of the kind with this number
  abbrev values_numbered : (tag kind : ℕ) → List ℕ → ValueType
  values_numbered tag kind w =
      if nat_eq tag 0 then scalar_numbered kind w else (if nat_eq tag 5 then PointerType w else OtherType w)

  abbrev values_by_key : Option (List ℕ) → Option TypeInner → List ℕ → ValueType
  values_by_key (Some form) o w = values_numbered (get_or form 0 0) (get_or form 1 0) w
  values_by_key None o w = option_map_or (λ it. values_of it w) o (OtherType w)

  -- the tag of a form is that of its type
  abbrev IsOfTag : Option (List ℕ) → TypeInner → Type 0
  IsOfTag o it = (w : List ℕ) → values_of it w ≡ values_by_key o (Some it) w

  over_tag : (tag : ℕ) (s : Scalar) (c d e : ℕ) (it : TypeInner) →
      ((w : List ℕ) → values_of it w ≡ values_numbered tag (kind_number s.kind) w) →
      IsOfTag (over_scalar tag s c d e) it
  over_tag tag s c d e it is w = by (is_some (scalar_word s))
    where
      by : (b : Bool) → values_of it w
          ≡ values_by_key (if b then Some (level tag (kind_number s.kind) s.width c d e) else None) (Some it) w
      by true = is w
      by false = refl

  mapped_tag : (f : List ℕ → List ℕ) (it : TypeInner) (w : List ℕ) →
      ((x : List ℕ) → values_of it w ≡ values_numbered (get_or (f x) 0 0) (get_or (f x) 1 0) w) →
      (o : Option (List ℕ)) → values_of it w ≡ values_by_key (option_map f o) (Some it) w
  mapped_tag f it w is None = refl
  mapped_tag f it w is (Some x) = is x

  image_tag : (dim : ImageDimension) (arrayed : Bool) (c : ImageClass) →
      IsOfTag (image_key dim arrayed c) (inner.Image dim arrayed c)
  image_tag dim arrayed (class.Sampled kind multi) w = by (is_some (scalar_word (record { kind = kind; width = 4 })))
    where
      by : (b : Bool) →
          OtherType w ≡ values_by_key
          (if b then Some
          (level 9 (dimension_number dim) (truth_number arrayed) 0 (kind_number kind)
          (truth_number multi)) else None)
          (Some (inner.Image dim arrayed (class.Sampled kind multi))) w
      by true = refl
      by false = refl
  image_tag dim arrayed _ w = refl

  inner_tag : (f : ℕ → Option (List ℕ)) (it : TypeInner) → IsOfTag (inner_key_by f it) it
  inner_tag f (inner.Scalar s) w = over_tag 0 s 0 0 0 (inner.Scalar s) (scalar_of_number s.kind) w
  inner_tag f (inner.Vector n s) w = over_tag 1 s (component_count n) 0 0 (inner.Vector n s) (λ w. refl) w
  inner_tag f (inner.Matrix columns rows s) w = over_tag 2 s (component_count columns) (component_count rows) 0
      (inner.Matrix columns rows s) (λ w. refl) w
  inner_tag f (inner.CooperativeMatrix columns rows s role) w =
      over_tag 3 s (cooperative_number columns) (cooperative_number rows) (matrix_role_number role)
      (inner.CooperativeMatrix columns rows s role) (λ w. refl) w
  inner_tag f (inner.Atomic s) w = over_tag 4 s 0 0 0 (inner.Atomic s) (λ w. refl) w
  inner_tag f (inner.Pointer base at) w =
      mapped_tag (λ it. level 5 (space_number at) (access_number at) 0 0 0 ++ it) (inner.Pointer base at) w
      (λ x. refl) (f base)
  inner_tag f (inner.ValuePointer n s at) w = by (is_none (space_word at))
    where
      by : (b : Bool) → PointerType w ≡ values_by_key (if b then None else pointer_key at (value_key n s))
          (Some (inner.ValuePointer n s at)) w
      by true = refl
      by false = mapped_tag (λ it. level 5 (space_number at) (access_number at) 0 0 0 ++ it)
          (inner.ValuePointer n s at) w (λ x. refl) (value_key n s)
  inner_tag f (inner.Array base n stride) w =
      mapped_tag (λ it. level 6 (length_kind n) (length_number n) 0 0 0 ++ it) (inner.Array base n stride) w
      (λ x. refl) (f base)
  inner_tag f (inner.BindingArray base n) w =
      mapped_tag (λ it. level 7 (length_kind n) (length_number n) 0 0 0 ++ it) (inner.BindingArray base n) w
      (λ x. refl) (f base)
  inner_tag f (inner.Image dim arrayed c) w = image_tag dim arrayed c w
  inner_tag f _ w = refl

  abbrev ValuesAre : Option (List ℕ) → Option TypeInner → Type 0
  ValuesAre form o = (w : List ℕ) → option_map_or (λ it. values_of it w) o (OtherType w) ≡ values_by_key form o w

  found_tag : (f : ℕ → Option (List ℕ)) (h : ℕ) (o : Option Type_) →
      ValuesAre (found_key_by f h o) (option_map (λ t. t.inner) o)
  found_tag f h None w = refl
  found_tag f h (Some t) w = by t.inner
    where
      by : (it : TypeInner) → values_of it w ≡ values_by_key (named_key_by f h it) (Some it) w
      by (inner.Struct members span) = refl
      by (inner.Scalar s) = inner_tag f (inner.Scalar s) w
      by (inner.Vector n s) = inner_tag f (inner.Vector n s) w
      by (inner.Matrix columns rows s) = inner_tag f (inner.Matrix columns rows s) w
      by (inner.CooperativeMatrix columns rows s role) = inner_tag f (inner.CooperativeMatrix columns rows s role) w
      by (inner.Atomic s) = inner_tag f (inner.Atomic s) w
      by (inner.Pointer base at) = inner_tag f (inner.Pointer base at) w
      by (inner.ValuePointer n s at) = inner_tag f (inner.ValuePointer n s at) w
      by (inner.Array base n stride) = inner_tag f (inner.Array base n stride) w
      by (inner.BindingArray base n) = inner_tag f (inner.BindingArray base n) w
      by (inner.Image dim arrayed c) = inner_tag f (inner.Image dim arrayed c) w
      by (inner.Sampler comparison) = refl
      by (inner.AccelerationStructure vertex_return) = refl
      by (inner.RayQuery vertex_return) = refl

  values_are : (r : TypeResolution) → ValuesAre (type_key m.types r) (inner_of r m.types)
  unfolding handle_key
  values_are (Handle h) w = found_tag (key_within h m.types) h (slice_get m.types h) w
  values_are (Value it) w = inner_tag (handle_key m.types) it w

  one_key : (a b : TypeResolution) → IsFit m a → IsFit m b → (o : Option (List ℕ)) →
      type_key m.types a ≡ o → (k : AlikeKeys a b) →
      (w : List ℕ) → values_by_key (type_key m.types a) (inner_of a m.types) w ≡ values_by_key
      (type_key m.types b) (inner_of b m.types) w
  one_key a b p q (Some x) at k w =
      ap (λ o. values_by_key o (inner_of a m.types) w) at
      ∙ sym (ap (λ o. values_by_key o (inner_of b m.types) w) (sym k.kinds.0 ∙ at))
  one_key a b p q None at k w =
      let inners = inner_by_identity a b (distinguished_by_itself m.types a (is_fit a p) at)
      (distinguished_by_itself m.types b (is_fit b q) (sym k.kinds.0 ∙ at)) (k.kinds.1 at) in
      λ i. values_by_key (k.kinds.0 i) (inners i) w
    where
      inner_by_identity : (a b : TypeResolution) →
          identity m.types a ≡ by_itself (inner_of a m.types) →
          identity m.types b ≡ by_itself (inner_of b m.types) →
          identity m.types a ≡ identity m.types b → inner_of a m.types ≡ inner_of b m.types
      inner_by_identity a b x y e = sym (itself_back (inner_of a m.types))
          ∙ (ap itself (sym x ∙ (e ∙ y)) ∙ itself_back (inner_of b m.types))

  -- and where types are told by the same numbers, their values are of one type
  pub values_by_numbers : (a b : TypeResolution) → IsFit m a → IsFit m b → type_identity m.types a
      ≡ type_identity m.types b → type_of_values m a ≡ type_of_values m b
  values_by_numbers a b p q e =
      let k = alike_keys a b p q e in
      values_are a (word_of_values m a)
      ∙ (one_key a b p q (type_key m.types a) refl k (word_of_values m a)
      ∙ (sym (values_are b (word_of_values m a))
      ∙ ap (λ w. option_map_or (λ it. values_of it w) (inner_of b m.types) (OtherType w))
      k.words))
