-- Parts of what a pointer points to: of which kind they are, the steps that lead to them, and the
-- types of the pointers to them.
use Rattle.std.proofs.Common.{◌≡◌, ℕ, zero, suc, ◌<◌, pos, Bool, true, false, cond, refl, sym, ap}
use Rattle.std.proofs.Common.{◌∙◌, subst, length, Option, Some, None, slice_get, if◌then◌else◌}
use Rattle.std.proofs.Common.{codes, nat_lt, Vec, Global}
use Rattle.std.specs.Option.{option_map, option_map_or, option_and_then, is_some}
use Rattle.std.specs.Str.{bytes_eq}
use Rattle.std.proofs.lemmas.Bool.{ltb-true}
use Rattle.std.proofs.lemmas.Option.{same_Some}
use Rattle.naga_ir.specs.declared.module.Module as ir_module
use Rattle.naga_ir.specs.declared.types.AddressSpace.{AddressSpace}
use Rattle.naga_ir.specs.declared.types.StructMember.{StructMember}
use Rattle.naga_ir.specs.declared.types.TypeInner.{TypeInner}
use Rattle.naga_ir.specs.declared.types.TypeInner.TheVariants as inner
use Rattle.naga_ir.specs.declared.types.Type_.{Type_}
use Rattle.naga_info.specs.Resolution.{inner_of}
use Rattle.naga_info.specs.declared.info.ModuleInfo.{ModuleInfo}
use Rattle.naga_info.specs.declared.info.TypeResolution.{TypeResolution}
use Rattle.naga_info.specs.declared.info.TypeResolution.TheVariants.{Value}
use Rattle.naga_naming.proofs.Refusal.{element}
use Rattle.naga_ir.specs.declared.types.ScalarKind.{ScalarKind}
use Rattle.naga_ir.specs.declared.types.ScalarKind.TheVariants as kind
use Rattle.shader_runs.specs.Value.{Bytes, Selector, MemberNamed, ElementAt, At, BooleanType}
use Rattle.shader_runs.specs.Value.{PointerType, OtherType, Parts, NoParts, Elements, Components}
use Rattle.shader_runs.specs.Value.{step_to, step_to_component, step_to_element, component_number}
use Rattle.module_semantics.specs.ExpressionShapes.{ModuleDeclarations, own_selector, selector}
use Rattle.module_semantics.specs.ExpressionShapes.{component_letters}
use Rattle.module_semantics.specs.ExpressionContexts.{declared}
use Rattle.module_semantics.specs.PlaceParts.{parts_at, pointee_parts, member_word}
use Rattle.module_semantics.specs.TypeIdentity.{component_count}
use Rattle.module_semantics.specs.Types.{type_of_values, word_of_values, values_of, scalar_values}
use Rattle.module_semantics.specs.TypeParts.{part_type, pointed_part, inner_at, member_type}
use Rattle.module_semantics.specs.TypeParts.{is_part_number, value_part_count, element_count}
use Rattle.naga_form.proofs.types.AlikeParts.{is_pointer, PartKind, NoKind, ElementKind}
use Rattle.naga_form.proofs.types.AlikeParts.{ComponentKind, kind_at, pointee_kind}

-- ---- pointers
-- the values of all others are no places
no_scalar_points : (k : ScalarKind) (w v : Bytes) → scalar_values k w ≡ PointerType v → ⊥
no_scalar_points kind.Bool w v e = by (bytes_eq w (codes "bool")) e
  where
    by : (b : Bool) → (if b then BooleanType else OtherType w) ≡ PointerType v → ⊥
    by true e = absurd cc
    by false e = absurd cc
no_scalar_points _ w v e = absurd cc

pointers_alone : (it : TypeInner) (w v : Bytes) → values_of it w ≡ PointerType v → is_pointer it ≡ true
pointers_alone (inner.Scalar s) w v e = absurd (no_scalar_points s.kind w v e)
pointers_alone (inner.Pointer base space) w v e = refl
pointers_alone (inner.ValuePointer size s space) w v e = refl
pointers_alone _ w v e = absurd cc

module _ (m : ir_module.Module) where
  -- a type whose values are pointers
  pub record PointsAs (r : TypeResolution) : Type 0 where
    pub it : TypeInner
    pub itself : inner_of r m.types ≡ Some it
    pub points : is_pointer it ≡ true

  pub points_as : (r : TypeResolution) (w : Bytes) → type_of_values m r ≡ PointerType w → PointsAs r
  points_as r w e = by (inner_of r m.types) refl e
    where
      by : (o : Option TypeInner) → inner_of r m.types ≡ o →
          option_map_or (λ it. values_of it (word_of_values m r)) o (OtherType (word_of_values m r))
          ≡ PointerType w → PointsAs r
      by None at e = absurd cc
      by (Some it) at e = record { it = it; itself = at; points = pointers_alone it (word_of_values m r) w e }

  -- the parts of pointers are pointers
  abbrev pub GivesPointers : TypeResolution → Type 0
  GivesPointers r = type_of_values m r ≡ PointerType (word_of_values m r)

  pointed_points : (space : AddressSpace) (it : TypeInner) (index : Option ℕ) (r : TypeResolution) →
      pointed_part space it index ≡ Some r → GivesPointers r
  pointed_points space (inner.Vector n s) index r at = subst GivesPointers (same_Some _ r at) refl
  pointed_points space (inner.Matrix columns rows s) index r at = subst GivesPointers (same_Some _ r at) refl
  pointed_points space (inner.Array base count stride) index r at = subst GivesPointers (same_Some _ r at) refl
  pointed_points space (inner.BindingArray base count) index r at = subst GivesPointers (same_Some _ r at) refl
  pointed_points space (inner.Struct members span) index r at = by (member_type members.items index) at
    where
      by : (o : Option ℕ) → option_map (λ ty. Value (inner.Pointer ty space)) o ≡ Some r → GivesPointers r
      by None at = absurd cc
      by (Some ty) at = subst GivesPointers (same_Some _ r at) refl
  pointed_points space _ index r at = absurd cc

  pub part_points : (it : TypeInner) → is_pointer it ≡ true → (index : Option ℕ) (r : TypeResolution) →
      part_type m.types it index ≡ Some r → GivesPointers r
  part_points (inner.Pointer base space) points index r at = by (inner_at m.types base) at
    where
      by : (o : Option TypeInner) → option_and_then (λ it. pointed_part space it index) o ≡ Some r → GivesPointers r
      by None at = absurd cc
      by (Some it) at = pointed_points space it index r at
  part_points (inner.ValuePointer (Some n) s space) points index r at = subst GivesPointers (same_Some _ r at) refl
  part_points (inner.ValuePointer None s space) points index r at = absurd cc
  part_points _ points index r at = absurd cc

  -- a type whose values are pointers spelled so is spelled so itself
  pub own_word : (r : TypeResolution) (w : Bytes) → type_of_values m r ≡ PointerType w → word_of_values m r ≡ w
  own_word r w e = by (inner_of r m.types) refl e
    where
      by : (o : Option TypeInner) → inner_of r m.types ≡ o →
          option_map_or (λ it. values_of it (word_of_values m r)) o (OtherType (word_of_values m r))
          ≡ PointerType w → word_of_values m r ≡ w
      by None at e = absurd cc
      by (Some (inner.Scalar s)) at e = absurd (no_scalar_points s.kind (word_of_values m r) w e)
      by (Some (inner.Pointer base space)) at e = cc
      by (Some (inner.ValuePointer size s space)) at e = cc
      by (Some _) at e = absurd cc

-- ---- what is there
pub some_there : {X : Type 0} (o : Option X) → is_some o ≡ true → (x : X) × (o ≡ Some x)
some_there None is = absurd cc
some_there (Some x) is = (x, refl)

-- ---- kinds of parts
-- a computed index leads to them
abbrev pub are_elements : PartKind → Bool
are_elements (ElementKind count) = true
are_elements (ComponentKind count) = true
are_elements _ = false

-- parts of this kind that an index leads to, with this spelling of a pointer to each
abbrev pub parts_of_kind : PartKind → Bytes → Parts
parts_of_kind (ElementKind count) w = Elements count w
parts_of_kind (ComponentKind count) w = Components count w
parts_of_kind _ w = NoParts

-- the step to a component with a letter
letter_step : (count index : ℕ) → nat_lt index count ≡ true → (letter : Bytes) →
    slice_get component_letters index ≡ Some letter →
    option_and_then (step_to_component count) (component_number letter) ≡ Some (At (pos index))
letter_step count zero within letter at =
    subst (λ w. option_and_then (step_to_component count) (component_number w) ≡ Some (At (pos 0)))
    (same_Some _ letter at) (ap (λ b. cond b (Some (At (pos 0))) None) within)
letter_step count (suc zero) within letter at =
    subst (λ w. option_and_then (step_to_component count) (component_number w) ≡ Some (At (pos 1)))
    (same_Some _ letter at) (ap (λ b. cond b (Some (At (pos 1))) None) within)
letter_step count (suc (suc zero)) within letter at =
    subst (λ w. option_and_then (step_to_component count) (component_number w) ≡ Some (At (pos 2)))
    (same_Some _ letter at) (ap (λ b. cond b (Some (At (pos 2))) None) within)
letter_step count (suc (suc (suc zero))) within letter at =
    subst (λ w. option_and_then (step_to_component count) (component_number w) ≡ Some (At (pos 3)))
    (same_Some _ letter at) (ap (λ b. cond b (Some (At (pos 3))) None) within)
letter_step count (suc (suc (suc (suc index)))) within letter at = absurd cc

-- ---- parts through pointers
module _ (m : ir_module.Module) (info : ModuleInfo) (known : ℕ → Option TypeResolution) where
  abbrev context : ModuleDeclarations
  context = declared m info known

  -- the member of a struct that a pointer points to
  pub record IsMember (it : TypeInner) (index : ℕ) (s : Selector) : Type 0 where
    pub base : ℕ
    pub at : AddressSpace
    pub itself : it ≡ inner.Pointer base at
    pub struct : Type_
    pub there : slice_get m.types base ≡ Some struct
    pub members : Vec StructMember Global
    pub span : ℕ
    pub struct_is : struct.inner ≡ inner.Struct members span
    pub member : StructMember
    pub member_there : slice_get members.items index ≡ Some member
    pub selected : s ≡ MemberNamed (member_word m base index)

  -- The part that a selector names: the same as that of any index, to which it leads, or a member.
  pub data IsPart (it : TypeInner) (index : ℕ) (s : Selector) : Type 0 where
    ElementPart : (p : TypeResolution) → part_type m.types it (Some index) ≡ Some p → part_type m.types it None
        ≡ Some p →
        ((w : Bytes) → step_to (parts_of_kind (pointee_kind m.types it) w) s ≡ Some (At (pos index))) →
        IsPart it index s
    MemberPart : IsMember it index s → IsPart it index s

  module _ (index : ℕ) (s : Selector) where
    following : (base : ℕ) (t : Type_) → slice_get m.types base ≡ Some t → (it : TypeInner) → t.inner ≡ it →
        inner_at m.types base ≡ Some it
    following base t there it is = ap (option_map (λ t. t.inner)) there ∙ ap Some is

    element_after : (base : ℕ) (space : AddressSpace) (t : Type_) → slice_get m.types base ≡ Some t →
        (it : TypeInner) → t.inner ≡ it →
        (p : TypeResolution) → pointed_part space it (Some index) ≡ Some p → pointed_part space it None ≡ Some p →
        ((w : Bytes) → step_to (parts_of_kind (kind_at base it) w) s ≡ Some (At (pos index))) →
        IsPart (inner.Pointer base space) index s
    element_after base space t there it is p here any step =
        let at = following base t there it is in
        ElementPart p (ap (option_and_then (λ it. pointed_part space it (Some index))) at ∙ here)
        (ap (option_and_then (λ it. pointed_part space it None)) at ∙ any)
        (λ w. ap (λ o. step_to (parts_of_kind (option_map_or (kind_at base) o NoKind) w) s) at ∙ step w)

    numbered : (whole : Parts) → (step_to whole (ElementAt index) ≡ Some (At (pos index))) →
        Some (ElementAt index) ≡ Some s → step_to whole s ≡ Some (At (pos index))
    numbered whole step selected = ap (step_to whole) (sym (same_Some _ s selected)) ∙ step

    component_within : (count : ℕ) → nat_lt index count ≡ true → step_to_component count index ≡ Some (At (pos index))
    component_within count within = ap (λ b. cond b (Some (At (pos index))) None) within

    element_within : (o : Option ℕ) → option_map_or (λ count. nat_lt index count) o true ≡ true →
        step_to_element o index ≡ Some (At (pos index))
    element_within None within = refl
    element_within (Some count) within = component_within count within

    component : (count : ℕ) → nat_lt index count ≡ true → (o : Option Bytes) → slice_get component_letters index ≡ o →
        Some (option_map_or MemberNamed o (ElementAt index)) ≡ Some s → (w : Bytes) →
        step_to (Components count w) s ≡ Some (At (pos index))
    component count within None at selected w = numbered (Components count w) (component_within count within) selected
    component count within (Some letter) at selected w =
        ap (step_to (Components count w)) (sym (same_Some _ s selected)) ∙ letter_step count index within letter at

    pointee_part : (base : ℕ) (space : AddressSpace) (t : Type_) → slice_get m.types base ≡ Some t →
        (it : TypeInner) → t.inner ≡ it →
        own_selector context (Some base) it index ≡ Some s → option_map_or (λ count. nat_lt index count)
        (value_part_count it) true ≡ true → IsPart (inner.Pointer base space) index s
    pointee_part base space t there (inner.Vector n scalar) is selected within =
        element_after base space t there (inner.Vector n scalar) is
        (Value (inner.ValuePointer None scalar space)) refl refl
        (component (component_count n) within (slice_get component_letters index) refl selected)
    pointee_part base space t there (inner.Matrix columns rows scalar) is selected within =
        element_after base space t there (inner.Matrix columns rows scalar) is
        (Value (inner.ValuePointer (Some rows) scalar space)) refl refl
        (λ w. numbered (Elements (Some (component_count columns)) w)
        (component_within (component_count columns) within) selected)
    pointee_part base space t there (inner.Array item n stride) is selected within =
        element_after base space t there (inner.Array item n stride) is (Value (inner.Pointer item space)) refl refl
        (λ w. numbered (Elements (element_count n) w) (element_within (element_count n) within) selected)
    pointee_part base space t there (inner.BindingArray item n) is selected within =
        element_after base space t there (inner.BindingArray item n) is (Value (inner.Pointer item space)) refl refl
        (λ w. numbered (Elements (element_count n) w) (element_within (element_count n) within) selected)
    pointee_part base space t there (inner.Struct members span) is selected within =
        let lt : index < length members.items = ltb-true index (length members.items) within in
        let k = element members.items index lt in
        MemberPart (record {
          base = base;
          at = space;
          itself = refl;
          struct = t;
          there = there;
          members = members;
          span = span;
          struct_is = is;
          member = k.0;
          member_there = k.1;
          selected = sym (same_Some _ s selected);
        })
    pointee_part base space t there _ is selected within = absurd cc

    pub part_of : (it : TypeInner) → is_pointer it ≡ true → (whole : Option ℕ) → selector context whole it index
        ≡ Some s → is_part_number m.types it index ≡ true → IsPart it index s
    part_of (inner.Pointer base space) points whole selected within = by (slice_get m.types base) refl selected within
      where
        by : (o : Option Type_) → slice_get m.types base ≡ o →
            option_and_then (λ it. own_selector context (Some base) it index) (option_map (λ t. t.inner) o) ≡ Some s →
            option_map_or (λ count. nat_lt index count)
            (option_and_then value_part_count (option_map (λ t. t.inner) o)) true ≡ true →
            IsPart (inner.Pointer base space) index s
        by None there selected within = absurd cc
        by (Some t) there selected within = pointee_part base space t there t.inner refl selected within
    part_of (inner.ValuePointer (Some n) scalar space) points whole selected within =
        ElementPart (Value (inner.ValuePointer None scalar space)) refl refl
        (λ w. numbered (Components (component_count n) w) (component_within (component_count n) within) selected)
    part_of (inner.ValuePointer None scalar space) points whole selected within = absurd cc
    part_of _ points whole selected within = absurd cc

  -- the part that a member is
  pub member_is : (it : TypeInner) (index : ℕ) (s : Selector) (k : IsMember it index s) →
      part_type m.types it (Some index) ≡ Some (Value (inner.Pointer k.member.ty k.at))
  member_is it index s k =
      ap (λ it. part_type m.types it (Some index)) k.itself
      ∙ (ap (λ o. option_and_then (λ it. pointed_part k.at it (Some index)) (option_map (λ t. t.inner) o)) k.there
      ∙ (ap (λ it. pointed_part k.at it (Some index)) k.struct_is
      ∙ ap (λ o. option_map (λ ty. Value (inner.Pointer ty k.at)) (option_map (λ member. member.ty) o)) k.member_there))

-- ---- parts by their kinds
module _ (m : ir_module.Module) (info : ModuleInfo) (whole : Bytes) where
  -- the parts of what a pointer points to, to which a computed index leads
  pub record HasElements (it : TypeInner) (p : TypeResolution) : Type 0 where
    pub elements : are_elements (pointee_kind m.types it) ≡ true
    pub parts : pointee_parts m info whole it ≡ parts_of_kind (pointee_kind m.types it) (word_of_values m p)

  pub has_elements : (it : TypeInner) → is_pointer it ≡ true → (p : TypeResolution) → part_type m.types it None
      ≡ Some p → HasElements it p
  has_elements (inner.Pointer base at) points p is = by (inner_at m.types base) refl is
    where
      spelled : (k : PartKind) (r : TypeResolution) → Some r ≡ Some p → parts_of_kind k (word_of_values m r)
          ≡ parts_of_kind k (word_of_values m p)
      spelled k r is = ap (λ r. parts_of_kind k (word_of_values m r)) (same_Some r p is)

      of_type : (it : TypeInner) → pointed_part at it None ≡ Some p →
          (are_elements (kind_at base it) ≡ true)
          × (parts_at m info whole at base it ≡ parts_of_kind (kind_at base it) (word_of_values m p))
      of_type (inner.Vector n s) is = (refl, spelled (ComponentKind (component_count n)) _ is)
      of_type (inner.Matrix columns rows s) is = (refl, spelled (ElementKind (Some (component_count columns))) _ is)
      of_type (inner.Array item count stride) is = (refl, spelled (ElementKind (element_count count)) _ is)
      of_type (inner.BindingArray item count) is = (refl, spelled (ElementKind (element_count count)) _ is)
      of_type _ is = absurd cc

      by : (o : Option TypeInner) → inner_at m.types base ≡ o →
          option_and_then (λ it. pointed_part at it None) o ≡ Some p → HasElements (inner.Pointer base at) p
      by None there is = absurd cc
      by (Some it) there is =
          let known = of_type it is in
          record {
            elements = ap (λ o. are_elements (option_map_or (kind_at base) o NoKind)) there ∙ known.0;
            parts =
                ap (λ o. option_map_or (parts_at m info whole at base) o NoParts) there
                ∙ (known.1 ∙ sym
                (ap (λ o. parts_of_kind (option_map_or (kind_at base) o NoKind) (word_of_values m p)) there));
          }
  has_elements (inner.ValuePointer (Some n) s at) points p is = record {
    elements = refl;
    parts = ap (λ r. Components (component_count n) (word_of_values m r)) (same_Some _ p is);
  }
  has_elements (inner.ValuePointer None s at) points p is = absurd cc
  has_elements _ points p is = absurd cc
