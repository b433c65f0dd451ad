-- How a part is named: an element by its number, a component by its letter, a member by its name.
-- Of types alike one name is of one number, so that parts and swizzles of one word are of one type.
use Rattle.std.proofs.Common.{◌≡◌, ◌<◌, ◌≤◌, ℕ, zero, suc, Bool, true, false, List, [], ◌∷◌, ◌++◌}
use Rattle.std.proofs.Common.{refl, sym, ap, ◌∙◌, subst, length, Option, Some, None, slice_get}
use Rattle.std.proofs.Common.{get_or, if◌then◌else◌, nat_eq, nat_lt, ◌&&◌, arith, unwrap_or}
use Rattle.std.specs.Option.{option_map, option_map_or, option_and_then, is_some}
use Rattle.std.proofs.lemmas.Bool.{ltb-true, true≢false}
use Rattle.std.proofs.lemmas.Option.{same_Some}
use denote.Enum.Declared.{tag_of}
use Rattle.naga_ir.specs.contracts.expression.SwizzleComponent.{the_type as components}
use Rattle.naga_ir.specs.declared.expression.SwizzleComponent.{SwizzleComponent}
use Rattle.naga_ir.specs.declared.expression.SwizzleComponent.TheVariants as component
use Rattle.naga_ir.specs.declared.module.Module.{Module}
use Rattle.naga_ir.specs.declared.types.AddressSpace.{AddressSpace}
use Rattle.naga_ir.specs.declared.types.Scalar.{Scalar}
use Rattle.naga_ir.specs.declared.types.StructMember.{StructMember}
use Rattle.naga_ir.specs.declared.types.TypeInner.{TypeInner}
use Rattle.naga_ir.specs.declared.types.TypeInner.TheVariants as inner
use Rattle.naga_ir.specs.declared.types.Type_.{Type_}
use Rattle.naga_ir.specs.declared.types.VectorSize.{VectorSize}
use Rattle.naga_ir.specs.declared.types.VectorSize.TheVariants as vector
use Rattle.naga_info.specs.Resolution.{inner_of, handle_of}
use Rattle.naga_info.specs.declared.info.ModuleInfo.{ModuleInfo}
use Rattle.naga_info.specs.declared.info.TypeResolution.{TypeResolution}
use Rattle.naga_info.specs.declared.info.TypeResolution.TheVariants.{Handle, Value}
use Rattle.naga_naming.specs.Reset.{members_of}
use Rattle.naga_naming.specs.declared.key.NameKey.TheVariants as key
use Rattle.shader_runs.specs.Value.{Selector, MemberNamed, ElementAt}
use Rattle.wgsl_words.specs.Words.{scalar_word}
use Rattle.module_semantics.specs.acceptance.AgreeingOperators.{Group, word_key, swizzle_key}
use Rattle.module_semantics.specs.AlikeTypes.{type_key, type_identity, handle_key, key_within}
use Rattle.module_semantics.specs.AlikeTypes.{found_key_by, named_key_by, pointer_key, over_scalar}
use Rattle.module_semantics.specs.ExpressionShapes.{own_selector, selector, component_letters, letter}
use Rattle.module_semantics.specs.ExpressionShapes.{swizzle_letters}
use Rattle.module_semantics.specs.acceptance.InfoSizes.{resolution_is_fit}
use Rattle.module_semantics.specs.Names.{module_names, name_in, ItemsAreDistinguished}
use Rattle.module_semantics.specs.acceptance.Ranges.{parts_before}
use Rattle.module_semantics.specs.TypeIdentity.{level, component_count, kind_number, identity}
use Rattle.module_semantics.specs.TypeIdentity.{word_of_unspelled_type}
use Rattle.module_semantics.specs.TypeParts.{is_part_number, value_part_count}
use Rattle.naga_form.proofs.operators.Signatures.{declared_for}
use Rattle.naga_naming.proofs.Refusal.{element}

-- ---- the struct of which a type's numbers tell, by itself or through a pointer
abbrev pub struct_told : List ℕ → Option ℕ
struct_told x =
    if nat_eq (get_or x 0 0) 8 then Some (get_or x 1 0) else (
    if nat_eq (get_or x 0 0) 5 && nat_eq (get_or x 6 0) 8 then Some (get_or x 7 0) else None)

-- the number of a letter
abbrev number_of : List ℕ → ℕ
number_of w = if nat_eq (get_or w 0 0) 120 then 0 else (if nat_eq (get_or w 0 0) 121 then 1 else
    (if nat_eq (get_or w 0 0) 122 then 2 else 3))

letters_tell : (i j : ℕ) (w : List ℕ) → slice_get component_letters i ≡ Some w → slice_get component_letters j
    ≡ Some w → i ≡ j
letters_tell i j w at bt = sym (distinguished i w at) ∙ distinguished j w bt
  where
    distinguished : (i : ℕ) (w : List ℕ) → slice_get component_letters i ≡ Some w → number_of w ≡ i
    distinguished zero w at = ap number_of (sym (same_Some _ w at))
    distinguished (suc zero) w at = ap number_of (sym (same_Some _ w at))
    distinguished (suc (suc zero)) w at = ap number_of (sym (same_Some _ w at))
    distinguished (suc (suc (suc zero))) w at = ap number_of (sym (same_Some _ w at))
    distinguished (suc (suc (suc (suc i)))) w at = absurd cc

one_letter : (i : ℕ) (w : List ℕ) → slice_get component_letters i ≡ Some w → length w ≡ 1
one_letter zero w at = ap length (sym (same_Some _ w at))
one_letter (suc zero) w at = ap length (sym (same_Some _ w at))
one_letter (suc (suc zero)) w at = ap length (sym (same_Some _ w at))
one_letter (suc (suc (suc zero))) w at = ap length (sym (same_Some _ w at))
one_letter (suc (suc (suc (suc i)))) w at = absurd cc

module _ (m : Module) (info : ModuleInfo) where
  -- how the part at an index is named
  pub data Named (r : TypeResolution) (index : ℕ) (s : Selector) : Type 0 where
    ByNumber : s ≡ ElementAt index → Named r index s
    ByLetter : (w : List ℕ) → slice_get component_letters index ≡ Some w → s ≡ MemberNamed w →
        struct_told (type_identity m.types r) ≡ None → Named r index s
    ByName : (h : ℕ) (t : Type_) (k : StructMember) → slice_get m.types h ≡ Some t →
        slice_get (members_of t.inner) index ≡ Some k →
        s ≡ MemberNamed (name_in (module_names m) (key.StructMember h index)) →
        struct_told (type_identity m.types r) ≡ Some h → Named r index s

  -- ---- what numbers tell of a struct
  abbrev identity_by : Option (List ℕ) → TypeResolution → List ℕ
  identity_by form r = unwrap_or form (word_of_unspelled_type (identity m.types r))

  -- none of a vector
  vector_tells_none : (n : VectorSize) (s : Scalar) (r : TypeResolution) →
      struct_told (identity_by (over_scalar 1 s (component_count n) 0 0) r) ≡ None
  vector_tells_none n s r = by (is_some (scalar_word s))
    where
      by : (b : Bool) →
          struct_told
          (identity_by (if b then Some (level 1 (kind_number s.kind) s.width (component_count n) 0 0) else None)
          r) ≡ None
      by true = refl
      by false = refl

  pointee_vector : (at : AddressSpace) (n : VectorSize) (s : Scalar) (r : TypeResolution) →
      struct_told (identity_by (pointer_key at (over_scalar 1 s (component_count n) 0 0)) r) ≡ None
  pointee_vector at n s r = by (is_some (scalar_word s))
    where
      by : (b : Bool) →
          struct_told
          (identity_by (pointer_key at
          (if b then Some (level 1 (kind_number s.kind) s.width (component_count n) 0 0) else None)) r) ≡ None
      by true = refl
      by false = refl

  -- ---- names
  -- what a type's numbers are to tell: no struct of a vector, and a struct by its handle
  abbrev VectorsTell : TypeResolution → (form : Option (List ℕ)) → TypeInner → Type 0
  VectorsTell r form (inner.Vector n scalar) = struct_told (identity_by form r) ≡ None
  VectorsTell r form _ = Unit {0}

  -- the struct at this handle
  record IsStructAt (r : TypeResolution) (form : Option (List ℕ)) (whole : Option ℕ) (it : TypeInner) : Type 0 where
    h : ℕ
    t : Type_
    whole_is : whole ≡ Some h
    there : slice_get m.types h ≡ Some t
    itself : t.inner ≡ it
    distinguished : struct_told (identity_by form r) ≡ Some h

  abbrev StructsTell : TypeResolution → (form : Option (List ℕ)) → (whole : Option ℕ) → TypeInner → Type 0
  StructsTell r form whole (inner.Struct members span) = IsStructAt r form whole (inner.Struct members span)
  StructsTell r form whole _ = Unit {0}

  module _ (g : Group) where
    -- of the parts of what a type has itself, or through a pointer
    named : (r : TypeResolution) (whole : Option ℕ) (form : Option (List ℕ)) →
        type_key m.types r ≡ form → (index : ℕ) (s : Selector) (it : TypeInner) →
        VectorsTell r form it → StructsTell r form whole it →
        own_selector (declared_for m info g) whole it index ≡ Some s →
        option_map_or (λ count. nat_lt index count) (value_part_count it) true ≡ true → Named r index s
    named r whole form is_form index s (inner.Vector n scalar) vectors structs selected within =
        by (slice_get component_letters index) refl selected
      where
        by : (o : Option (List ℕ)) → slice_get component_letters index ≡ o →
            Some (option_map_or MemberNamed o (ElementAt index)) ≡ Some s → Named r index s
        by (Some w) at e =
            ByLetter w at (sym (same_Some _ s e)) (ap (λ f. struct_told (identity_by f r)) is_form ∙ vectors)
        by None at e = ByNumber (sym (same_Some _ s e))
    named r whole form is_form index s (inner.Matrix columns rows scalar) vectors structs selected within =
        ByNumber (sym (same_Some _ s selected))
    named r whole form is_form index s (inner.Array base size stride) vectors structs selected within =
        ByNumber (sym (same_Some _ s selected))
    named r whole form is_form index s (inner.BindingArray base size) vectors structs selected within =
        ByNumber (sym (same_Some _ s selected))
    named r whole form is_form index s (inner.Struct members span) vectors structs selected within =
        let member = element members.items index (ltb-true index (length members.items) within) in
        ByName structs.h structs.t member.0 structs.there
        (ap (λ it. slice_get (members_of it) index) structs.itself ∙ member.1)
        (sym (same_Some _ s selected)
        ∙ ap (λ o. MemberNamed (option_map_or (λ h. name_in (module_names m) (key.StructMember h index))
        o [])) structs.whole_is)
        (ap (λ f. struct_told (identity_by f r)) is_form ∙ structs.distinguished)
    named r whole form is_form index s _ vectors structs selected within = absurd cc

    -- through a pointer
    pointee_vectors : (r : TypeResolution) (base : ℕ) (at : AddressSpace) (f : ℕ → Option (List ℕ))
        (it : TypeInner) → VectorsTell r (pointer_key at (named_key_by f base it)) it
    pointee_vectors r base at f (inner.Vector n scalar) = pointee_vector at n scalar r
    pointee_vectors r base at f _ = tt

    pointee_structs : (r : TypeResolution) (base : ℕ) (at : AddressSpace) (f : ℕ → Option (List ℕ))
        (t : Type_) → slice_get m.types base ≡ Some t → (it : TypeInner) → t.inner ≡ it →
        StructsTell r (pointer_key at (named_key_by f base it)) (Some base) it
    pointee_structs r base at f t there (inner.Struct members span) is =
        record { h = base; t = t; whole_is = refl; there = there; itself = is; distinguished = refl }
    pointee_structs r base at f t there _ is = tt

    pointed : (r : TypeResolution) (base : ℕ) (at : AddressSpace) (f : ℕ → Option (List ℕ)) →
        type_key m.types r ≡ pointer_key at (found_key_by f base (slice_get m.types base)) →
        (index : ℕ) (s : Selector) →
        selector (declared_for m info g) (handle_of r) (inner.Pointer base at) index ≡ Some s →
        is_part_number m.types (inner.Pointer base at) index ≡ true → Named r index s
    pointed r base at f form index s selected within = by (slice_get m.types base) refl form selected within
      where
        by : (o : Option Type_) → slice_get m.types base ≡ o → type_key m.types r
            ≡ pointer_key at (found_key_by f base o) →
            option_and_then (λ it. own_selector (declared_for m info g) (Some base) it index)
            (option_map (λ t. t.inner) o) ≡ Some s →
            option_map_or (λ count. nat_lt index count)
            (option_and_then value_part_count (option_map (λ t. t.inner) o)) true ≡ true → Named r index s
        by None there form selected within = absurd cc
        by (Some t) there form selected within =
            named r (Some base) (pointer_key at (named_key_by f base t.inner)) form index s t.inner
            (pointee_vectors r base at f t.inner) (pointee_structs r base at f t there t.inner refl) selected within

    -- of a type by itself
    of_value : (it : TypeInner) → resolution_is_fit (Value it) ≡ true → (index : ℕ) (s : Selector) →
        selector (declared_for m info g) None it index ≡ Some s →
        is_part_number m.types it index ≡ true → Named (Value it) index s
    unfolding handle_key
    of_value (inner.Pointer base at) fit index s selected within =
        pointed (Value (inner.Pointer base at)) base at (key_within base m.types) refl index s selected within
    of_value (inner.ValuePointer (Some size) scalar at) fit index s selected within =
        ByNumber (sym (same_Some _ s selected))
    of_value (inner.ValuePointer None scalar at) fit index s selected within = absurd cc
    of_value (inner.Vector n scalar) fit index s selected within =
        named (Value (inner.Vector n scalar)) None
        (type_key m.types (Value (inner.Vector n scalar))) refl index s (inner.Vector n scalar)
        (vector_tells_none n scalar (Value (inner.Vector n scalar))) tt selected within
    of_value (inner.Struct members span) fit index s selected within = absurd (true≢false (sym fit))
    of_value (inner.Matrix columns rows scalar) fit index s selected within = ByNumber (sym (same_Some _ s selected))
    of_value (inner.Array base size stride) fit index s selected within = ByNumber (sym (same_Some _ s selected))
    of_value (inner.BindingArray base size) fit index s selected within = ByNumber (sym (same_Some _ s selected))
    of_value _ fit index s selected within = absurd cc

    -- of a type of the module
    module _ (before : (h : ℕ) (t : Type_) → slice_get m.types h ≡ Some t → parts_before h t.inner ≡ true) where
      of_handle : (h : ℕ) (t : Type_) → slice_get m.types h ≡ Some t →
          (it : TypeInner) → t.inner ≡ it →
          type_key m.types (Handle h) ≡ named_key_by (key_within h m.types) h it →
          (index : ℕ) (s : Selector) →
          selector (declared_for m info g) (Some h) it index ≡ Some s → is_part_number m.types it index ≡ true →
          Named (Handle h) index s
      of_handle zero t there (inner.Pointer base at) is form index s selected within =
          let lt : base < zero = ltb-true base zero (sym (ap (parts_before zero) is) ∙ before zero t there) in
          absurd (omega (arith, lt))
      of_handle (suc h) t there (inner.Pointer base at) is form index s selected within =
          pointed (Handle (suc h)) base at (key_within h m.types) form index s selected within
      of_handle h t there (inner.ValuePointer (Some size) scalar at) is form index s selected within =
          ByNumber (sym (same_Some _ s selected))
      of_handle h t there (inner.ValuePointer None scalar at) is form index s selected within = absurd cc
      of_handle h t there (inner.Vector n scalar) is form index s selected within =
          named (Handle h) (Some h) (over_scalar 1 scalar (component_count n) 0 0) form index s
          (inner.Vector n scalar) (vector_tells_none n scalar (Handle h)) tt selected within
      of_handle h t there (inner.Struct members span) is form index s selected within =
          named (Handle h) (Some h) (Some (level 8 h 0 0 0 0)) form index s (inner.Struct members span) tt
          (record { h = h; t = t; whole_is = refl; there = there; itself = is; distinguished = refl }) selected within
      of_handle h t there (inner.Matrix columns rows scalar) is form index s selected within =
          ByNumber (sym (same_Some _ s selected))
      of_handle h t there (inner.Array base size stride) is form index s selected within =
          ByNumber (sym (same_Some _ s selected))
      of_handle h t there (inner.BindingArray base size) is form index s selected within =
          ByNumber (sym (same_Some _ s selected))
      of_handle h t there _ is form index s selected within = absurd cc

      pub part_named : (r : TypeResolution) → resolution_is_fit r ≡ true → (index : ℕ) (s : Selector) →
          option_and_then (λ it. selector (declared_for m info g) (handle_of r) it index) (inner_of r m.types)
          ≡ Some s →
          option_map_or (λ it. is_part_number m.types it index) (inner_of r m.types) false ≡ true → Named r index s
      unfolding handle_key
      part_named (Value it) fit index s selected within = of_value it fit index s selected within
      part_named (Handle h) fit index s selected within = by (slice_get m.types h) refl refl selected within
        where
          by : (o : Option Type_) → slice_get m.types h ≡ o → type_key m.types (Handle h)
              ≡ found_key_by (key_within h m.types) h (slice_get m.types h) →
              option_and_then (λ it. selector (declared_for m info g) (Some h) it index)
              (option_map (λ t. t.inner) o) ≡ Some s →
              option_map_or (λ it. is_part_number m.types it index) (option_map (λ t. t.inner) o) false ≡ true →
              Named (Handle h) index s
          by None there form selected within = absurd cc
          by (Some t) there form selected within =
              of_handle h t there t.inner refl (form ∙ ap (found_key_by (key_within h m.types) h) there) index s
              selected within

  -- ---- of types alike
  -- where one tells of a struct, so does the other
  distinguished_alike : (r q : TypeResolution) (h : ℕ) →
      type_identity m.types r ≡ type_identity m.types q →
      struct_told (type_identity m.types r) ≡ None →
      struct_told (type_identity m.types q) ≡ Some h → ⊥
  distinguished_alike r q h e none some = let clash : None ≡ Some h = sym none
      ∙ (ap struct_told e ∙ some) in absurd cc

  member_named : (v w : List ℕ) (s : Selector) → s ≡ MemberNamed v → s ≡ MemberNamed w → v ≡ w
  member_named v w s x y = let same : MemberNamed v ≡ MemberNamed w = sym x ∙ y in cc

  not_both : (i : ℕ) (w : List ℕ) (s : Selector) → s ≡ ElementAt i → s ≡ MemberNamed w → ⊥
  not_both i w s x y = let same : ElementAt i ≡ MemberNamed w = sym x ∙ y in absurd cc

  -- one name is of one number
  pub one_number : ItemsAreDistinguished m → (r q : TypeResolution) (i j : ℕ) (s : Selector) →
      type_identity m.types r ≡ type_identity m.types q → Named r i s → Named q j s → i ≡ j
  one_number items r q i j s e (ByNumber x) (ByNumber y) = let same : ElementAt i ≡ ElementAt j = sym x ∙ y in cc
  one_number items r q i j s e (ByNumber x) (ByLetter w at y distinguished) =
      absurd (not_both i w s x y)
  one_number items r q i j s e (ByNumber x) (ByName h t k there member y distinguished) = absurd (not_both i _ s x y)
  one_number items r q i j s e (ByLetter w at x distinguished) (ByNumber y) =
      absurd (not_both j w s y x)
  one_number items r q i j s e (ByLetter w at x distinguished) (ByLetter v bt y other) =
      letters_tell i j w at (bt ∙ ap Some (member_named v w s y x))
  one_number items r q i j s e (ByLetter w at x distinguished) (ByName h t k there member y other) =
      absurd (distinguished_alike r q h e distinguished other)
  one_number items r q i j s e (ByName h t k there member x distinguished) (ByNumber y) = absurd (not_both j _ s y x)
  one_number items r q i j s e (ByName h t k there member x distinguished) (ByLetter w at y other) =
      absurd (distinguished_alike q r h (sym e) other distinguished)
  one_number items r q i j s e (ByName h t k there member x distinguished) (ByName g u l found other_member y other) =
      let handles : h ≡ g = same_Some h g (sym distinguished ∙ (ap struct_told e ∙ other))
      in
      let types : u ≡ t = same_Some u t (sym found ∙ (ap (slice_get m.types) (sym handles) ∙ there)) in
      items.members h t there i j k l member (ap (λ t. slice_get (members_of t.inner) j) (sym types) ∙ other_member)
      (member_named _ _ s x y ∙ ap (λ h. name_in (module_names m) (key.StructMember h j)) (sym handles))

  -- ---- swizzles
  -- a name of several letters is that of no part of a vector
  pub no_part : (r q : TypeResolution) (i : ℕ) (s : Selector) (w : List ℕ) →
      type_identity m.types r ≡ type_identity m.types q →
      struct_told (type_identity m.types q) ≡ None → s ≡ MemberNamed w → 2 ≤ length w →
      Named r i s → ⊥
  no_part r q i s w e distinguished y long (ByNumber x) = not_both i w s x y
  no_part r q i s w e distinguished y long (ByLetter v at x other) =
      let one : length w ≡ 1 = ap length (member_named w v s y x) ∙ one_letter i v at in omega (arith, one, long)
  no_part r q i s w e distinguished y long (ByName h t k there member x other) =
      distinguished_alike q r h (sym e) distinguished other

  -- a vector's numbers tell of no struct
  pub vector_is_none : (r : TypeResolution) (n : VectorSize) (scalar : Scalar) → inner_of r m.types
      ≡ Some (inner.Vector n scalar) → struct_told (type_identity m.types r) ≡ None
  unfolding handle_key
  vector_is_none (Value it) n scalar is = by it (same_Some _ _ is)
    where
      by : (it : TypeInner) → it ≡ inner.Vector n scalar →
          struct_told (type_identity m.types (Value it)) ≡ None
      by it is = subst (λ it. struct_told (type_identity m.types (Value it)) ≡ None) (sym is)
          (vector_tells_none n scalar (Value (inner.Vector n scalar)))
  vector_is_none (Handle h) n scalar is = by (slice_get m.types h) refl is
    where
      by : (o : Option Type_) → slice_get m.types h ≡ o → option_map (λ t. t.inner) o
          ≡ Some (inner.Vector n scalar) → struct_told (type_identity m.types (Handle h)) ≡ None
      by None at is = absurd cc
      by (Some t) at is =
          ap (λ o. struct_told (identity_by (found_key_by (key_within h m.types) h o) (Handle h))) at
          ∙ (ap (λ it. struct_told (identity_by (named_key_by (key_within h m.types) h it) (Handle h)))
          (same_Some _ _ is)
          ∙ vector_tells_none n scalar (Handle h))

-- the byte of a letter, and which it is
abbrev pub byte : SwizzleComponent → ℕ
byte component.X = 120
byte component.Y = 121
byte component.Z = 122
byte component.W = 119

abbrev which : ℕ → ℕ
which b = if nat_eq b 120 then 0 else (if nat_eq b 121 then 1 else (if nat_eq b 122 then 2 else 3))

pub letter_is : (c : SwizzleComponent) → letter c ≡ byte c ∷ []
letter_is component.X = refl
letter_is _ = refl

which_is : (c : SwizzleComponent) → which (byte c) ≡ tag_of components c
which_is component.X = refl
which_is _ = refl

abbrev which_at : List ℕ → ℕ → ℕ
which_at w place = option_map_or which (slice_get w place) 0

abbrev pub key_read : List ℕ → List ℕ
key_read w = word_key 5 (length w) (which_at w 0) (which_at w 1) (which_at w 2) (which_at w 3)

-- they tell its key
pub swizzle_distinguished : (size : VectorSize) (pattern : List SwizzleComponent) → length pattern ≡ 4 →
    key_read (swizzle_letters size pattern) ≡ swizzle_key size pattern
swizzle_distinguished size [] four = absurd cc
swizzle_distinguished size (a ∷ []) four = absurd (omega (arith, four))
swizzle_distinguished size (a ∷ b ∷ []) four = absurd (omega (arith, four))
swizzle_distinguished size (a ∷ b ∷ c ∷ []) four = absurd (omega (arith, four))
swizzle_distinguished vector.Bi (a ∷ b ∷ c ∷ d ∷ rest) four =
    (λ i. key_read (letter_is a i ++ (letter_is b i ++ []))) ∙ (λ i. word_key 5 2 (which_is a i) (which_is b i) 0 0)
swizzle_distinguished vector.Tri (a ∷ b ∷ c ∷ d ∷ rest) four =
    (λ i. key_read (letter_is a i ++ (letter_is b i ++ (letter_is c i ++ []))))
    ∙ (λ i. word_key 5 3 (which_is a i) (which_is b i) (which_is c i) 0)
swizzle_distinguished vector.Quad (a ∷ b ∷ c ∷ d ∷ rest) four =
    (λ i. key_read (letter_is a i ++ (letter_is b i ++ (letter_is c i ++ (letter_is d i ++ [])))))
    ∙ (λ i. word_key 5 4 (which_is a i) (which_is b i) (which_is c i) (which_is d i))

-- they are two or more
pub letters_are_several : (size : VectorSize) (pattern : List SwizzleComponent) → length pattern ≡ 4 →
    2 ≤ length (swizzle_letters size pattern)
letters_are_several size [] four = absurd cc
letters_are_several size (a ∷ []) four = absurd (omega (arith, four))
letters_are_several size (a ∷ b ∷ []) four = absurd (omega (arith, four))
letters_are_several size (a ∷ b ∷ c ∷ []) four = absurd (omega (arith, four))
letters_are_several vector.Bi (a ∷ b ∷ c ∷ d ∷ rest) four =
    let long : length (swizzle_letters vector.Bi (a ∷ b ∷ c ∷ d ∷ rest)) ≡ 2 =
    λ i. length (letter_is a i ++ (letter_is b i ++ [])) in omega (arith, long)
letters_are_several vector.Tri (a ∷ b ∷ c ∷ d ∷ rest) four =
    let long : length (swizzle_letters vector.Tri (a ∷ b ∷ c ∷ d ∷ rest)) ≡ 3 =
    λ i. length (letter_is a i ++ (letter_is b i ++ (letter_is c i ++ []))) in omega (arith, long)
letters_are_several vector.Quad (a ∷ b ∷ c ∷ d ∷ rest) four =
    let long : length (swizzle_letters vector.Quad (a ∷ b ∷ c ∷ d ∷ rest)) ≡ 4 =
    λ i. length (letter_is a i ++ (letter_is b i ++ (letter_is c i ++ (letter_is d i ++ [])))) in
    omega (arith, long)
