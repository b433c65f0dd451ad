-- Pointers that are told by the same numbers lead to parts of one kind. Where these are no members,
-- they are told by the same numbers; and members are those of one struct.
--
-- A pointer that has a form is told by its space and by the form of what it points to, and this
-- tells the form of each part. A pointer without a form is the same by itself.
--
-- Members need not be told by the same numbers: pointers to a struct are alike in storage spaces whose
-- access has one word, and pointers to its member are not where this has no form.
--
-- Throughout, a and b are types that are told by the same numbers, and ia and ib are the types by
-- themselves, at and to are spaces, and index names a part.
use Rattle.std.proofs.Common.{◌≡◌, ◌<◌, ◌≤◌, ◌+◌, ℕ, zero, suc, Bool, true, false, List, ◌∷◌}
use Rattle.std.proofs.Common.{◌++◌, drop, refl, sym, ap, ◌∙◌, subst}
use Rattle.std.proofs.Common.{Option, Some, None, slice_get, get_or, if◌then◌else◌, nat_eq, arith}
use Rattle.std.specs.Prelude.{IsTrue, not, unwrap_or}
use Rattle.std.specs.Option.{option_map, option_map_or, option_and_then, is_some, is_none}
use Rattle.std.proofs.lemmas.Bool.{and_parts, ltb-true, not-true, true≢false}
use Rattle.std.proofs.lemmas.Option.{same_Some}
use Rattle.naga_ir.specs.declared.image.ImageClass.{ImageClass}
use Rattle.naga_ir.specs.declared.image.ImageClass.TheVariants as class
use Rattle.naga_ir.specs.declared.image.ImageDimension.{ImageDimension}
use Rattle.naga_ir.specs.declared.module.Module.{Module}
use Rattle.naga_ir.specs.declared.types.AddressSpace.{AddressSpace}
use Rattle.naga_ir.specs.declared.types.ArraySize.{ArraySize}
use Rattle.naga_ir.specs.declared.types.ArraySize.TheVariants as length
use Rattle.naga_ir.specs.declared.types.AddressSpace.TheVariants as space
use Rattle.naga_ir.specs.declared.types.Scalar.{Scalar}
use Rattle.naga_ir.specs.declared.types.TypeInner.{TypeInner}
use Rattle.naga_ir.specs.declared.types.TypeInner.TheVariants as inner
use Rattle.naga_ir.specs.declared.types.Type_.{Type_}
use Rattle.naga_ir.specs.declared.types.VectorSize.{VectorSize}
use Rattle.naga_info.specs.Resolution.{inner_of}
use Rattle.naga_info.specs.declared.info.TypeResolution.{TypeResolution}
use Rattle.naga_info.specs.declared.info.TypeResolution.TheVariants.{Handle, Value}
use Rattle.wgsl_words.specs.Words.{scalar_word, space_word}
use Rattle.naga_ir.specs.declared.types.ScalarKind.TheVariants as kind
use Rattle.module_semantics.specs.AlikeTypes.{type_key, type_identity, handle_key}
use Rattle.module_semantics.specs.AlikeTypes.{key_within, found_key_by, named_key_by, inner_key_by}
use Rattle.module_semantics.specs.AlikeTypes.{over_scalar, value_key, pointer_key, value_pointer_key}
use Rattle.module_semantics.specs.AlikeTypes.{array_key, image_key, access_number}
use Rattle.module_semantics.specs.acceptance.InfoSizes.{is_handle_space, is_handle_pointer}
use Rattle.module_semantics.specs.acceptance.InfoSizes.{resolution_is_fit}
use Rattle.naga_spelling.specs.Spelling.{is_struct}
use Rattle.module_semantics.specs.acceptance.Ranges.{parts_before}
use Rattle.module_semantics.proofs.KeyDepths.{PartsStand, at_depth}
use Rattle.module_semantics.specs.TypeIdentity.{identity, identity_code, word_of_unspelled_type}
use Rattle.module_semantics.specs.TypeIdentity.{level, kind_number, length_kind, length_number}
use Rattle.module_semantics.specs.TypeIdentity.{component_count, space_number, truth_number}
use Rattle.module_semantics.specs.TypeIdentity.{dimension_number}
use Rattle.module_semantics.specs.TypeParts.{part_type, pointed_part, member_type, inner_at}
use Rattle.module_semantics.specs.TypeParts.{element_count}
use Rattle.module_semantics.proofs.TypeIdentity.{word_tells}
use Rattle.naga_form.proofs.types.AlikeLaw.{key_apart, distinguished_by_itself, each_named, itself}
use Rattle.naga_form.proofs.types.AlikeLaw.{itself_back}
use Rattle.naga_form.proofs.types.SameValues.{TypesAreCounted, IsFit}

-- a pointer to a type of the module, or to a value without one
abbrev pub is_pointer : TypeInner → Bool
is_pointer (inner.Pointer base at) = true
is_pointer (inner.ValuePointer n s at) = true
is_pointer _ = false

-- ---- kinds of parts
-- what the parts of a place are: none, elements or columns, so many where it is known, so many
-- components, or the members of the
-- struct with this handle
pub data PartKind : Type 0 where
  NoKind : PartKind
  ElementKind : (count : Option ℕ) → PartKind
  ComponentKind : (count : ℕ) → PartKind
  MemberKind : (base : ℕ) → PartKind

-- of a type of the module
abbrev pub kind_at : (base : ℕ) → TypeInner → PartKind
kind_at base (inner.Vector n s) = ComponentKind (component_count n)
kind_at base (inner.Matrix columns rows s) = ElementKind (Some (component_count columns))
kind_at base (inner.Array item count stride) = ElementKind (element_count count)
kind_at base (inner.BindingArray item count) = ElementKind (element_count count)
kind_at base (inner.Struct members span) = MemberKind base
kind_at base _ = NoKind

-- of what a pointer points to
abbrev pub pointee_kind : List Type_ → TypeInner → PartKind
pointee_kind types (inner.Pointer base at) = option_map_or (kind_at base) (inner_at types base) NoKind
pointee_kind types (inner.ValuePointer (Some n) s at) = ComponentKind (component_count n)
pointee_kind types _ = NoKind

-- the members of a struct
abbrev pub has_members : PartKind → Bool
has_members (MemberKind base) = true
has_members _ = false

-- how many elements an array of this form has, where it tells
abbrev count_of_key : List ℕ → Option ℕ
count_of_key y = if nat_eq (get_or y 1 0) 0 then Some (get_or y 2 0) else None

-- it is how many the array has
counted_by_key : (n : ArraySize) → element_count n
    ≡ (if nat_eq (length_kind n) 0 then Some (length_number n) else None)
counted_by_key (length.Constant number) = refl
counted_by_key _ = refl

-- by the form of the whole, which is no struct
abbrev kind_of_key : List ℕ → PartKind
kind_of_key y =
    if nat_eq (get_or y 0 0) 1 then ComponentKind (get_or y 3 0) else (
    if nat_eq (get_or y 0 0) 2 then ElementKind (Some (get_or y 3 0)) else (
    if nat_eq (get_or y 0 0) 6 then ElementKind (count_of_key y) else (
    if nat_eq (get_or y 0 0) 7 then ElementKind (count_of_key y) else NoKind)))

-- the form of a part, by the numbers of the space and the form of the whole, which is no struct
abbrev part_key : (number access : ℕ) → List ℕ → Option (List ℕ)
part_key number access y =
    if nat_eq (get_or y 0 0) 1 then Some
    (level 5 number access 0 0 0 ++ level 0 (get_or y 1 0) (get_or y 2 0) 0 0 0) else (
    if nat_eq (get_or y 0 0) 2 then Some
    (level 5 number access 0 0 0 ++ level 1 (get_or y 1 0) (get_or y 2 0) (get_or y 4 0) 0 0) else (
    if nat_eq (get_or y 0 0) 6 then Some (level 5 number access 0 0 0 ++ drop 6 y) else (
    if nat_eq (get_or y 0 0) 7 then Some (level 5 number access 0 0 0 ++ drop 6 y) else None)))

module _ (m : Module) (are : TypesAreCounted m) (stand : PartsStand m.types) where
  -- both are missing, or both are there, fit and told by the same numbers
  abbrev pub PartsAlike : Option TypeResolution → Option TypeResolution → Type 0
  PartsAlike None None = Unit {0}
  PartsAlike (Some r) (Some s) = (type_identity m.types r ≡ type_identity m.types s) × IsFit m r × IsFit m s
  PartsAlike _ _ = ⊥

  -- ---- what a form tells of parts
  abbrev PartIs : Option (List ℕ) → Option TypeResolution → Type 0
  PartIs None None = Unit {0}
  PartIs (Some z) (Some p) = type_key m.types p ≡ Some z
  PartIs _ _ = ⊥

  -- ---- pointers by their forms
  abbrev following : AddressSpace → List ℕ → List ℕ
  following at y = level 5 (space_number at) (access_number at) 0 0 0 ++ y

  -- what a pointer of this form points to: a type that is no struct, or one
  data Pointed (it : TypeInner) (form : List ℕ) : Type 0 where
    Plain : (number access : ℕ) (y : List ℕ) → form ≡ level 5 number access 0 0 0 ++ y → nat_eq (get_or y 0 0) 8
        ≡ false →
        ((index : Option ℕ) → PartIs (part_key number access y) (part_type m.types it index)) →
        pointee_kind m.types it ≡ kind_of_key y → Pointed it form
    Whole : (at : AddressSpace) (h : ℕ) → form ≡ following at (level 8 h 0 0 0 0) → it ≡ inner.Pointer h at →
        pointee_kind m.types it ≡ MemberKind h → Pointed it form

  -- a space that is not that of handles has a word
  has_word : (at : AddressSpace) → is_handle_space at ≡ false → is_none (space_word at) ≡ false
  has_word space.Handle not_handle = absurd (true≢false not_handle)
  has_word _ not_handle = refl

  -- a pointer to a value of a form
  value_pointer : (at : AddressSpace) → is_none (space_word at) ≡ false →
      (form : Option (List ℕ)) (y : List ℕ) → form ≡ Some y → value_pointer_key at form ≡ Some (following at y)
  value_pointer at named form y is = (λ i. if named i then None else pointer_key at form) ∙ ap (pointer_key at) is

  scalar_is : (tag : ℕ) (s : Scalar) (c d e : ℕ) → is_some (scalar_word s) ≡ true → over_scalar tag s c d e
      ≡ Some (level tag (kind_number s.kind) s.width c d e)
  scalar_is tag s c d e word = λ i. if word i then Some (level tag (kind_number s.kind) s.width c d e) else None

  -- what has no parts
  abbrev OfNoParts : Option (List ℕ) → Type 0
  OfNoParts None = Unit {0}
  OfNoParts (Some y) =
      (nat_eq (get_or y 0 0) 8 ≡ false) × ((number access : ℕ) → part_key number access y ≡ None)
      × (kind_of_key y ≡ NoKind)

  over_no_parts : (tag : ℕ) (s : Scalar) (c d e : ℕ) →
      OfNoParts (Some (level tag (kind_number s.kind) s.width c d e)) → OfNoParts (over_scalar tag s c d e)
  over_no_parts tag s c d e none = by (is_some (scalar_word s))
    where
      by : (b : Bool) → OfNoParts (if b then Some (level tag (kind_number s.kind) s.width c d e) else None)
      by true = none
      by false = tt

  pointer_no_parts : (at : AddressSpace) (o : Option (List ℕ)) → OfNoParts (pointer_key at o)
  pointer_no_parts at None = tt
  pointer_no_parts at (Some y) = (refl, λ number access. refl, refl)

  value_pointer_no_parts : (at : AddressSpace) (o : Option (List ℕ)) → OfNoParts (value_pointer_key at o)
  value_pointer_no_parts at o = by (is_none (space_word at))
    where
      by : (b : Bool) → OfNoParts (if b then None else pointer_key at o)
      by true = tt
      by false = pointer_no_parts at o

  image_no_parts : (dim : ImageDimension) (arrayed : Bool) (c : ImageClass) → OfNoParts (image_key dim arrayed c)
  image_no_parts dim arrayed (class.Sampled kind multi) = by (is_some (scalar_word (record { kind = kind; width = 4 })))
    where
      by : (b : Bool) →
          OfNoParts (if b then Some (level 9 (dimension_number dim) (truth_number arrayed) 0 (kind_number kind)
          (truth_number multi)) else None)
      by true = (refl, λ number access. refl, refl)
      by false = tt
  image_no_parts dim arrayed (class.Depth multi) = (refl, λ number access. refl, refl)
  image_no_parts dim arrayed (class.Storage format access) = (refl, λ number access. refl, refl)
  image_no_parts dim arrayed class.External = (refl, λ number access. refl, refl)

  -- ---- a pointer to a type of the module
  module _ (base : ℕ) (at : AddressSpace) (t : Type_) (there : slice_get m.types base ≡ Some t)
      (named : is_none (space_word at) ≡ false) where
    parts_are : (it : TypeInner) → t.inner ≡ it → (index : Option ℕ) →
        part_type m.types (inner.Pointer base at) index ≡ pointed_part at it index
    parts_are it is index =
        ap (λ o. option_and_then (λ it. pointed_part at it index) (option_map (λ t. t.inner) o)) there
        ∙ ap (λ it. pointed_part at it index) is

    kind_is : (it : TypeInner) → t.inner ≡ it → pointee_kind m.types (inner.Pointer base at) ≡ kind_at base it
    kind_is it is = ap (λ o. option_map_or (kind_at base) (option_map (λ t. t.inner) o) NoKind) there
        ∙ ap (kind_at base) is

    plain : (it : TypeInner) → t.inner ≡ it → (y : List ℕ) → nat_eq (get_or y 0 0) 8 ≡ false →
        ((index : Option ℕ) → PartIs (part_key (space_number at) (access_number at) y)
        (pointed_part at it index)) → kind_at base it ≡ kind_of_key y →
        (form : Option (List ℕ)) → form ≡ Some y → (x : List ℕ) → form ≡ Some x →
        Pointed (inner.Pointer base at) (following at x)
    plain it is y other parts kind form f x g =
        Plain (space_number at) (access_number at) y (ap (following at) (same_Some x y (sym g ∙ f))) other
        (λ index. subst (PartIs (part_key (space_number at) (access_number at) y))
        (sym (parts_are it is index)) (parts index))
        (kind_is it is ∙ kind)

    partless : (it : TypeInner) → t.inner ≡ it → ((index : Option ℕ) → pointed_part at it index ≡ None) →
        kind_at base it ≡ NoKind →
        (form : Option (List ℕ)) → OfNoParts form → (x : List ℕ) → form ≡ Some x →
        Pointed (inner.Pointer base at) (following at x)
    partless it is none kind None lacks x g = absurd cc
    partless it is none kind (Some y) lacks x g =
        plain it is y lacks.0
        (λ index. subst (λ o. PartIs o (pointed_part at it index))
        (sym (lacks.1 (space_number at) (access_number at))) (subst (PartIs None) (sym (none index)) tt))
        (kind ∙ sym lacks.2) (Some y) refl x g

    module _ (n : ℕ) (deep : base ≤ n) where
      -- an array's elements
      elements : (it : TypeInner) → t.inner ≡ it → (element : ℕ) (size : List ℕ → List ℕ) →
          ((z : List ℕ) → nat_eq (get_or (size z) 0 0) 8 ≡ false) →
          ((z : List ℕ) → part_key (space_number at) (access_number at) (size z) ≡ Some (following at z)) →
          ((index : Option ℕ) → pointed_part at it index ≡ Some (Value (inner.Pointer element at))) →
          ((z : List ℕ) → kind_at base it ≡ kind_of_key (size z)) →
          element < base →
          (o : Option (List ℕ)) → key_within n m.types element ≡ o → (x : List ℕ) → option_map size o ≡ Some x →
          Pointed (inner.Pointer base at) (following at x)
      elements it is element size other form parts kind before None f x g = absurd cc
      elements it is element size other form parts kind before (Some z) f x g =
          plain it is (size z) (other z)
          (λ index. subst (λ o. PartIs o (pointed_part at it index)) (sym (form z))
          (subst (PartIs (Some (following at z))) (sym (parts index))
          (ap (pointer_key at) (sym (at_depth m.types stand n element (depth before deep)) ∙ f))))
          (kind z) (Some (size z)) refl x g
        where
          depth : element < base → base ≤ n → element < n
          depth a b = omega (arith, a, b)

      pointee : (it : TypeInner) → t.inner ≡ it → (x : List ℕ) → named_key_by (key_within n m.types) base it
          ≡ Some x → Pointed (inner.Pointer base at) (following at x)
      pointee (inner.Scalar s) is x g = partless (inner.Scalar s) is (λ index. refl) refl _
          (over_no_parts 0 s 0 0 0 (refl, λ number access. refl, refl)) x g
      pointee (inner.Vector k s) is x g = by (is_some (scalar_word s)) refl g
        where
          by : (b : Bool) → is_some (scalar_word s) ≡ b →
              (if b then Some (level 1 (kind_number s.kind) s.width (component_count k) 0 0)
              else None) ≡ Some x → Pointed (inner.Pointer base at) (following at x)
          by false word g = absurd cc
          by true word g =
              plain (inner.Vector k s) is (level 1 (kind_number s.kind) s.width (component_count k) 0 0) refl
              (λ index. value_pointer at named (over_scalar 0 s 0 0 0) _ (scalar_is 0 s 0 0 0 word)) refl _ refl x g
      pointee (inner.Matrix columns rows s) is x g = by (is_some (scalar_word s)) refl g
        where
          by : (b : Bool) → is_some (scalar_word s) ≡ b →
              (if b then Some (level 2 (kind_number s.kind) s.width (component_count columns)
              (component_count rows) 0) else None) ≡ Some x →
              Pointed (inner.Pointer base at) (following at x)
          by false word g = absurd cc
          by true word g =
              plain (inner.Matrix columns rows s) is
              (level 2 (kind_number s.kind) s.width (component_count columns) (component_count rows) 0) refl
              (λ index. value_pointer at named (over_scalar 1 s (component_count rows) 0 0) _
              (scalar_is 1 s (component_count rows) 0 0 word)) refl _ refl x g
      pointee (inner.CooperativeMatrix columns rows s role) is x g =
          partless (inner.CooperativeMatrix columns rows s role) is (λ index. refl) refl _
          (over_no_parts 3 s _ _ _ (refl, λ number access. refl, refl)) x g
      pointee (inner.Atomic s) is x g = partless (inner.Atomic s) is (λ index. refl) refl _
          (over_no_parts 4 s 0 0 0 (refl, λ number access. refl, refl)) x g
      pointee (inner.Pointer other to) is x g = partless (inner.Pointer other to) is (λ index. refl) refl _
          (pointer_no_parts to (key_within n m.types other)) x g
      pointee (inner.ValuePointer k s to) is x g =
          partless (inner.ValuePointer k s to) is (λ index. refl) refl _ (value_pointer_no_parts to (value_key k s)) x g
      pointee (inner.Array element size stride) is x g =
          elements (inner.Array element size stride) is element
          (λ it. level 6 (length_kind size) (length_number size) 0 0 0 ++ it)
          (λ z. refl) (λ z. refl) (λ index. refl) (λ z. ap ElementKind (counted_by_key size))
          (ltb-true element base (sym (ap (parts_before base) is) ∙ stand base t there))
          (key_within n m.types element) refl x g
      pointee (inner.BindingArray element size) is x g =
          elements (inner.BindingArray element size) is element
          (λ it. level 7 (length_kind size) (length_number size) 0 0 0 ++ it)
          (λ z. refl) (λ z. refl) (λ index. refl) (λ z. ap ElementKind (counted_by_key size))
          (ltb-true element base (sym (ap (parts_before base) is) ∙ stand base t there))
          (key_within n m.types element) refl x g
      pointee (inner.Struct members span) is x g =
          Whole at base (ap (following at) (sym (same_Some _ x g))) refl (kind_is (inner.Struct members span) is)
      pointee (inner.Image dim arrayed c) is x g =
          partless (inner.Image dim arrayed c) is (λ index. refl) refl _ (image_no_parts dim arrayed c) x g
      pointee (inner.Sampler comparison) is x g = partless (inner.Sampler comparison) is (λ index. refl) refl _
          (refl, λ number access. refl, refl) x g
      pointee (inner.AccelerationStructure vertex_return) is x g =
          partless (inner.AccelerationStructure vertex_return) is (λ index. refl) refl _
          (refl, λ number access. refl, refl) x g
      pointee (inner.RayQuery vertex_return) is x g = partless (inner.RayQuery vertex_return) is
          (λ index. refl) refl _ (refl, λ number access. refl, refl) x g

  -- what is pointed to stands in the module where it has a form
  pointed_module : (base : ℕ) (at : AddressSpace) → is_handle_space at ≡ false →
      (n : ℕ) → base ≤ n → (o : Option (List ℕ)) → key_within (suc n) m.types base ≡ o →
      (x : List ℕ) → pointer_key at o ≡ Some x → Pointed (inner.Pointer base at) x
  pointed_module base at free n deep None f x g = absurd cc
  pointed_module base at free n deep (Some y) f x g =
      subst (Pointed (inner.Pointer base at)) (same_Some _ x g) (by (slice_get m.types base) refl f)
    where
      by : (o : Option Type_) → slice_get m.types base ≡ o → found_key_by (key_within n m.types) base o
          ≡ Some y → Pointed (inner.Pointer base at) (following at y)
      by None there f = absurd cc
      by (Some t) there f = pointee base at t there (has_word at free) n deep t.inner refl y f

  pointed_value : (size : Option VectorSize) (s : Scalar) (at : AddressSpace) (x : List ℕ) →
      value_pointer_key at (value_key size s) ≡ Some x → Pointed (inner.ValuePointer size s at) x
  pointed_value size s at x g = by (is_none (space_word at)) refl g
    where
      after_word : (size : Option VectorSize) → is_none (space_word at) ≡ false →
          (b : Bool) → is_some (scalar_word s) ≡ b →
          (x : List ℕ) → pointer_key at (value_key size s) ≡ Some x →
          Pointed (inner.ValuePointer size s at) x
      after_word None named true word x g =
          Plain (space_number at) (access_number at) (level 0 (kind_number s.kind) s.width 0 0 0)
          (same_Some x _ (sym g ∙ ap (pointer_key at) (scalar_is 0 s 0 0 0 word))) refl
          (λ index. tt) refl
      after_word (Some k) named true word x g =
          Plain (space_number at) (access_number at)
          (level 1 (kind_number s.kind) s.width (component_count k) 0 0)
          (same_Some x _ (sym g
          ∙ ap (pointer_key at) (scalar_is 1 s (component_count k) 0 0 word))) refl
          (λ index. value_pointer at named (over_scalar 0 s 0 0 0) _ (scalar_is 0 s 0 0 0 word)) refl
      after_word None named false word x g =
          let none : None ≡ Some x =
          sym (ap (λ b. pointer_key at (if b then Some (level 0 (kind_number s.kind) s.width 0 0 0)
          else None)) word) ∙ g in absurd cc
      after_word (Some k) named false word x g =
          let none : None ≡ Some x =
          sym (ap (λ b. pointer_key at
          (if b then Some (level 1 (kind_number s.kind) s.width (component_count k) 0 0) else None)) word)
          ∙ g in absurd cc

      by : (b : Bool) → is_none (space_word at) ≡ b → (if b then None else pointer_key at (value_key size s))
          ≡ Some x → Pointed (inner.ValuePointer size s at) x
      by true named g = absurd cc
      by false named g = after_word size named (is_some (scalar_word s)) refl x g

  -- a pointer that is fit is in no space of handles
  abbrev pub IsFree : TypeInner → Type 0
  IsFree (inner.Pointer base at) = is_handle_space at ≡ false
  IsFree _ = Unit {0}

  free_by : (it : TypeInner) → is_handle_pointer it ≡ false → IsFree it
  free_by (inner.Pointer base at) free = free
  free_by _ free = tt

  pub is_free : (r : TypeResolution) (it : TypeInner) → IsFit m r → inner_of r m.types ≡ Some it → IsFree it
  is_free (Value it) other fit at =
      let parts = and_parts (not (is_struct it)) (not (is_handle_pointer it)) fit.0 in
      subst IsFree (same_Some it other at) (free_by it (not-true (is_handle_pointer it) parts.1))
  is_free (Handle h) it fit at = by (slice_get m.types h) refl at
    where
      by : (o : Option Type_) → slice_get m.types h ≡ o → option_map (λ t. t.inner) o ≡ Some it → IsFree it
      by None there at = absurd cc
      by (Some t) there at =
          subst IsFree (same_Some t.inner it at) (free_by t.inner (each_named m.types are.types.fits h t there))

  pointed : (r : TypeResolution) (it : TypeInner) → IsFree it → inner_of r m.types ≡ Some it →
      is_pointer it ≡ true → (x : List ℕ) → type_key m.types r ≡ Some x → Pointed it x
  unfolding handle_key
  pointed (Value it) other free at pointer x form =
      by other free pointer (ap (λ it. inner_key_by (handle_key m.types) it) (sym (same_Some it other at)) ∙ form)
    where
      by : (it : TypeInner) → IsFree it → is_pointer it ≡ true → inner_key_by (handle_key m.types) it ≡ Some x →
          Pointed it x
      by (inner.Pointer base at) free pointer form = pointed_module base at free base (omega arith)
          (key_within (suc base) m.types base) refl x form
      by (inner.ValuePointer n s at) free pointer form = pointed_value n s at x form
      by _ free pointer form = absurd (true≢false (sym pointer))
  pointed (Handle h) it free at pointer x form = by h (slice_get m.types h) refl at form
    where
      of_handle : (h : ℕ) (t : Type_) → slice_get m.types h ≡ Some t →
          (it : TypeInner) → t.inner ≡ it → IsFree it → is_pointer it ≡ true →
          named_key_by (key_within h m.types) h it ≡ Some x → Pointed it x
      of_handle zero t there (inner.Pointer base at) is free pointer form = absurd cc
      of_handle (suc n) t there (inner.Pointer base at) is free pointer form =
          pointed_module base at free n
          (depth (ltb-true base (suc n) (sym (ap (parts_before (suc n)) is) ∙ stand (suc n) t there)))
          (key_within (suc n) m.types base) refl x form
        where
          depth : base < suc n → base ≤ n
          depth lt = omega (arith, lt)
      of_handle h t there (inner.ValuePointer k s at) is free pointer form = pointed_value k s at x form
      of_handle h t there _ is free pointer form = absurd (true≢false (sym pointer))

      by : (h : ℕ) (o : Option Type_) → slice_get m.types h ≡ o → option_map (λ t. t.inner) o ≡ Some it →
          found_key_by (key_within h m.types) h (slice_get m.types h) ≡ Some x → Pointed it x
      by h None there at form = absurd cc
      by h (Some t) there at form =
          of_handle h t there it (same_Some t.inner it at) free pointer
          (ap (named_key_by (key_within h m.types) h) (sym (same_Some t.inner it at))
          ∙ (sym (ap (found_key_by (key_within h m.types) h) there) ∙ form))

  -- ---- a part of a pointer is fit
  abbrev pub FitPart : Option TypeResolution → Type 0
  FitPart None = Unit {0}
  FitPart (Some r) = IsFit m r

  not_false : (b : Bool) → b ≡ false → not b ≡ true
  not_false b is = ap not is

  pointer_fits : (ty : ℕ) (at : AddressSpace) → is_handle_space at ≡ false → IsFit m (Value (inner.Pointer ty at))
  pointer_fits ty at free = (not_false (is_handle_space at) free, tt, refl)

  pointed_fits : (at : AddressSpace) → is_handle_space at ≡ false → (it : TypeInner) (index : Option ℕ) →
      FitPart (pointed_part at it index)
  pointed_fits at free (inner.Vector n s) index = (refl, tt, refl)
  pointed_fits at free (inner.Matrix columns rows s) index = (refl, tt, refl)
  pointed_fits at free (inner.Array base count stride) index = pointer_fits base at free
  pointed_fits at free (inner.BindingArray base count) index = pointer_fits base at free
  pointed_fits at free (inner.Struct members span) index = by (member_type members.items index)
    where
      by : (o : Option ℕ) → FitPart (option_map (λ ty. Value (inner.Pointer ty at)) o)
      by None = tt
      by (Some ty) = pointer_fits ty at free
  pointed_fits at free _ index = tt

  pub part_fits : (it : TypeInner) → IsFree it → is_pointer it ≡ true → (index : Option ℕ) →
      FitPart (part_type m.types it index)
  part_fits (inner.Pointer base at) free pointer index = by (inner_at m.types base)
    where
      by : (o : Option TypeInner) → FitPart (option_and_then (λ it. pointed_part at it index) o)
      by None = tt
      by (Some it) = pointed_fits at free it index
  part_fits (inner.ValuePointer None s at) free pointer index = tt
  part_fits (inner.ValuePointer (Some n) s at) free pointer index = (refl, tt, refl)
  part_fits _ free pointer index = absurd (true≢false (sym pointer))

  -- ---- two that are told by the same numbers
  data Alike (a b : TypeResolution) : Type 0 where
    OneKey : (x : List ℕ) → type_key m.types a ≡ Some x → type_key m.types b ≡ Some x → Alike a b
    Itselves : inner_of a m.types ≡ inner_of b m.types → Alike a b

  fit_of : (r : TypeResolution) → IsFit m r → resolution_is_fit r ≡ true
  fit_of (Handle h) fit = refl
  fit_of (Value it) fit = fit.0

  alike : (a b : TypeResolution) → IsFit m a → IsFit m b → type_identity m.types a ≡ type_identity m.types b → Alike a b
  alike a b p q e = by (type_key m.types a) refl (type_key m.types b) refl e
    where
      apart : (r : TypeResolution) → IsFit m r → (it code : List ℕ) → type_key m.types r ≡ Some it → it ≡ 32 ∷ code → ⊥
      apart r fit = key_apart m.types (each_named m.types are.types.fits) r (fit_of r fit)

      by : (x : Option (List ℕ)) → type_key m.types a ≡ x → (y : Option (List ℕ)) →
          type_key m.types b ≡ y → unwrap_or x (word_of_unspelled_type (identity m.types a)) ≡
          unwrap_or y (word_of_unspelled_type (identity m.types b)) → Alike a b
      by (Some x) at (Some y) bt e = OneKey x at (bt ∙ ap Some (sym e))
      by (Some x) at None bt e = absurd (apart a p x (identity_code (identity m.types b)) at e)
      by None at (Some y) bt e = absurd (apart b q y (identity_code (identity m.types a)) bt (sym e))
      by None at None bt e =
          let same = sym (distinguished_by_itself m.types a (fit_of a p) at)
          ∙ (word_tells m.types a b e ∙ distinguished_by_itself m.types b (fit_of b q) bt) in
          Itselves (sym (itself_back (inner_of a m.types)) ∙ (ap itself same ∙ itself_back (inner_of b m.types)))

  parts_of_key : (z : Option (List ℕ)) (o u : Option TypeResolution) → PartIs z o → PartIs z u → FitPart o →
      FitPart u → PartsAlike o u
  parts_of_key None None None f g p q = tt
  parts_of_key None (Some r) u f g p q = absurd f
  parts_of_key None None (Some s) f g p q = absurd g
  parts_of_key (Some z) None u f g p q = absurd f
  parts_of_key (Some z) (Some r) None f g p q = absurd g
  parts_of_key (Some z) (Some r) (Some s) f g p q = (
    ap (λ o. unwrap_or o (word_of_unspelled_type (identity m.types r))) f
        ∙ sym (ap (λ o. unwrap_or o (word_of_unspelled_type (identity m.types s))) g),
    p,
    q,
  )

  -- levels that are the same are of one space and one pointee
  record OneLevel (n a : ℕ) (y : List ℕ) (k b : ℕ) (z : List ℕ) : Type 0 where
    numbers : n ≡ k
    accesses : a ≡ b
    followings : y ≡ z

  one_level : (n a : ℕ) (y : List ℕ) (k b : ℕ) (z : List ℕ) (x : List ℕ) → x ≡ level 5 n a 0 0 0 ++ y →
      x ≡ level 5 k b 0 0 0 ++ z → OneLevel n a y k b z
  one_level n a y k b z x f g =
      let same : level 5 n a 0 0 0 ++ y ≡ level 5 k b 0 0 0 ++ z = sym f ∙ g in
      record {
        numbers = ap (λ x. get_or x 1 0) same;
        accesses = ap (λ x. get_or x 2 0) same;
        followings = ap (drop 6) same;
      }

  -- a struct's form is none of a type that is none
  not_whole : {A : Type 0} (y : List ℕ) (h : ℕ) → nat_eq (get_or y 0 0) 8 ≡ false → y ≡ level 8 h 0 0 0 0 → A
  not_whole y h other is = absurd (true≢false (sym (ap (λ y. nat_eq (get_or y 0 0) 8) is) ∙ other))

  one_kind : (k : PartKind) (y z : List ℕ) → k ≡ kind_of_key y → y ≡ z → k ≡ kind_of_key z
  one_kind k y z f same = f ∙ ap kind_of_key same

  -- where what is pointed to is no struct by its form, it is none
  no_members_of_key : (y : List ℕ) → has_members (kind_of_key y) ≡ false
  no_members_of_key y = by (nat_eq (get_or y 0 0) 1) (nat_eq (get_or y 0 0) 2) (nat_eq (get_or y 0 0) 6)
      (nat_eq (get_or y 0 0) 7)
    where
      by : (a b c d : Bool) →
          has_members (if a then ComponentKind (get_or y 3 0) else
          (if b then ElementKind (Some (get_or y 3 0)) else
          (if c then ElementKind (count_of_key y) else (if d then ElementKind (count_of_key y) else NoKind)))) ≡ false
      by true b c d = refl
      by false true c d = refl
      by false false true d = refl
      by false false false true = refl
      by false false false false = refl

  -- ---- promise
  -- Two pointers: to one and the same; to parts of one kind, that are told by the same numbers; or to one
  -- struct, in spaces that are told by the same.
  pub data AlikePlaces (ia ib : TypeInner) : Type 0 where
    Same : ia ≡ ib → AlikePlaces ia ib
    OneKind : pointee_kind m.types ia ≡ pointee_kind m.types ib → has_members (pointee_kind m.types ia) ≡ false →
        ((index : Option ℕ) → PartsAlike (part_type m.types ia index) (part_type m.types ib index)) → AlikePlaces ia ib
    OneStruct : (base : ℕ) (at to : AddressSpace) → ia ≡ inner.Pointer base at → ib ≡ inner.Pointer base to →
        pointee_kind m.types ia ≡ MemberKind base →
        ((o : Option (List ℕ)) → pointer_key at o ≡ pointer_key to o) → AlikePlaces ia ib

  pub alike_places : (a b : TypeResolution) → IsFit m a → IsFit m b → type_identity m.types a
      ≡ type_identity m.types b →
      (ia ib : TypeInner) → inner_of a m.types ≡ Some ia → inner_of b m.types ≡ Some ib → is_pointer ia ≡ true →
      is_pointer ib ≡ true → AlikePlaces ia ib
  alike_places a b p q e ia ib at bt first second = by (alike a b p q e)
    where
      free : IsFree ia
      free = is_free a ia p at

      loose : IsFree ib
      loose = is_free b ib q bt

      same_numbers : (n k x y : ℕ) → n ≡ x → k ≡ y → (o : Option (List ℕ)) →
          option_map (λ it. level 5 n k 0 0 0 ++ it) o ≡ option_map (λ it. level 5 x y 0 0 0 ++ it) o
      same_numbers n k x y f g o = λ i. option_map (λ it. level 5 (f i) (g i) 0 0 0 ++ it) o

      both : (x : List ℕ) → Pointed ia x → Pointed ib x → AlikePlaces ia ib
      both x (Plain n k y f other parts kind) (Plain l j z g another others other_kind) =
          let one = one_level n k y l j z x f g in
          OneKind (one_kind (pointee_kind m.types ia) y z kind one.followings ∙ sym other_kind)
          (ap has_members kind ∙ no_members_of_key y) (λ index.
          parts_of_key (part_key n k y) (part_type m.types ia index) (part_type m.types ib index) (parts index)
          (subst (λ o. PartIs o (part_type m.types ib index))
          (sym (λ i. part_key (one.numbers i) (one.accesses i) (one.followings i))) (others index))
          (part_fits ia free first index) (part_fits ib loose second index))
      both x (Plain n k y f other parts kind) (Whole at h g is members) =
          not_whole y h other (one_level n k y (space_number at) (access_number at)
          (level 8 h 0 0 0 0) x f g).followings
      both x (Whole at h f is members) (Plain n k y g other parts kind) =
          not_whole y h other (one_level n k y (space_number at) (access_number at)
          (level 8 h 0 0 0 0) x g f).followings
      both x (Whole at h f is members) (Whole to j g other others) =
          let one = one_level (space_number at) (access_number at) (level 8 h 0 0 0 0) (space_number to)
          (access_number to) (level 8 j 0 0 0 0) x f g in
          let bases : h ≡ j = ap (λ y. get_or y 1 0) one.followings in
          OneStruct h at to is (other ∙ ap (λ base. inner.Pointer base to) (sym bases)) members
          (same_numbers (space_number at) (access_number at) (space_number to) (access_number to) one.numbers
          one.accesses)

      by : Alike a b → AlikePlaces ia ib
      by (OneKey x f g) = both x (pointed a ia free at first x f) (pointed b ib loose bt second x g)
      by (Itselves same) = Same (same_Some ia ib (sym at ∙ (same ∙ bt)))

-- ---- why no struct
abbrev storage : (bits : ℕ) → AddressSpace
storage bits = space.Storage (record { 0 = bits })
