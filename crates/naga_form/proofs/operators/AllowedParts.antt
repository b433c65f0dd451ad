-- What the types of operands that let an expression be formed say: a known index selects a part,
-- and a conversion is to a type that has a form.
use Rattle.std.proofs.Common.{◌≡◌, ℕ, Bool, true, false, List, Option, Some, None, refl, sym}
use Rattle.std.proofs.Common.{ap, ◌∙◌, suc, zero, subst, ◌<◌, ◌^◌}
use Rattle.std.specs.Prelude.{slice_get, [], nat_lt, length, map}
use Rattle.std.proofs.lemmas.Bool.{and_parts, ltb-true}
use Rattle.std.proofs.lemmas.Option.{same_Some, slice_get-map}
use Rattle.naga_ir.specs.declared.expression.SwizzleComponent.TheVariants as component
use Rattle.naga_ir.specs.declared.types.Type_.{Type_}
use Rattle.module_semantics.specs.AlikeTypes.{has_type_form}
use Rattle.module_semantics.specs.ExpressionForms.{converts, expression_has_own_form, known_passes}
use Rattle.module_semantics.specs.ExpressionForms.{loads_matrix}
use Rattle.module_semantics.specs.acceptance.InfoSizes.{resolution_is_fit}
use Rattle.module_semantics.specs.Names.{module_names, name_in}
use Rattle.module_semantics.specs.acceptance.OperandDemands.{operands_fit}
use Rattle.module_semantics.specs.TypeParts.{is_part_number, value_part_count}
use Rattle.module_semantics.specs.Undeclared.{whole_known, whole_of}
use Rattle.module_semantics.specs.Types.{type_names}
use Rattle.naga_info.specs.declared.info.TypeResolution.{TypeResolution}
use Rattle.naga_info.specs.declared.info.TypeResolution.TheVariants.{Handle, Value}
use Rattle.naga_naming.proofs.Refusal.{element}
use Rattle.naga_naming.specs.Reset.{members_of}
use Rattle.naga_naming.specs.declared.key.NameKey.TheVariants as key
use Rattle.naga_spelling.specs.Spelling.{is_struct}
use Rattle.wgsl_text.specs.Types.{TypeSpecifier}
use Rattle.wgsl_text.specs.Literals.{IsPlainNumber}
use Rattle.wgsl_text.specs.Words.{IsWord}
use Rattle.naga_form.proofs.operators.Letters.{letter_is_a_word}
use Rattle.naga_form.proofs.names.MemberNames.{member_is_word}
use Rattle.std.specs.Option.{option_and_then, option_map, option_map_or}
use Rattle.naga_info.specs.Resolution.{inner_of, handle_of}
use Rattle.naga_info.specs.declared.info.ExpressionInfo.{ExpressionInfo}
use Rattle.naga_info.specs.declared.info.ModuleInfo.{ModuleInfo}
use Rattle.naga_ir.specs.declared.expression.CooperativeData.{CooperativeData}
use Rattle.naga_ir.specs.declared.expression.Expression.TheVariants.{AccessIndex, As}
use Rattle.naga_ir.specs.declared.expression.Expression.TheVariants.{CooperativeLoad}
use Rattle.naga_ir.specs.declared.types.CooperativeRole.{CooperativeRole}
use Rattle.naga_ir.specs.declared.types.CooperativeSize.{CooperativeSize}
use Rattle.naga_ir.specs.declared.types.Scalar.{Scalar}
use Rattle.naga_ir.specs.declared.types.ScalarKind.{ScalarKind}
use Rattle.module_semantics.specs.Conversions.{conversion_target}
use Rattle.module_semantics.specs.ExpressionOperators.{ExpressionContext, pointee_scalar, type_known}
use Rattle.naga_form.proofs.types.SameValues.{IsFit}
use Rattle.naga_form.proofs.types.WrittenTypes.{tree_there}
use Rattle.naga_form.specs.Expressions.{scalar_pointed}
use Rattle.naga_form.specs.TypeTrees.{inner_tree}
use Rattle.naga_ir.specs.declared.module.Module.{Module}
use Rattle.naga_ir.specs.declared.types.TypeInner.{TypeInner}
use Rattle.naga_ir.specs.declared.types.TypeInner.TheVariants as inner
use Rattle.module_semantics.specs.ExpressionOperators.{has_parts, is_composite, type_with}
use Rattle.module_semantics.specs.ExpressionShapes.{ModuleDeclarations, component_letters, own_selector}
use Rattle.module_semantics.specs.ExpressionShapes.{part_selector, selector}
use Rattle.module_semantics.specs.ExpressionContexts.{declared, types_known}
use Rattle.shader_runs.specs.Value.{Selector, MemberNamed, ElementAt}

-- what has parts has one at each index
own_selected : (d : ModuleDeclarations) (whole : Option ℕ) (it : TypeInner) (index : ℕ) →
    is_composite it ≡ true → (x : Selector) × (own_selector d whole it index ≡ Some x)
own_selected d whole (inner.Vector size s) index is = (_, refl)
own_selected d whole (inner.Matrix columns rows s) index is = (_, refl)
own_selected d whole (inner.Array base size stride) index is = (_, refl)
own_selected d whole (inner.BindingArray base size) index is = (_, refl)
own_selected d whole (inner.Struct members span) index is = (_, refl)
own_selected d whole _ index is = absurd cc

inner_selected : (d : ModuleDeclarations) (whole : Option ℕ) (it : TypeInner) (index : ℕ) →
    has_parts d.context.types it ≡ true → (x : Selector) × (selector d whole it index ≡ Some x)
inner_selected d whole (inner.Pointer base space) index is = by (type_with d.context.types base) is
  where
    by : (o : Option TypeInner) → option_map_or is_composite o false ≡ true →
        (x : Selector) × (option_and_then (λ it. own_selector d (Some base) it index) o ≡ Some x)
    by (Some it) is = own_selected d (Some base) it index is
    by None is = absurd cc
inner_selected d whole (inner.ValuePointer (Some size) s space) index is = (_, refl)
inner_selected d whole (inner.ValuePointer None s space) index is = absurd cc
inner_selected d whole it index is = own_selected d whole it index is

-- the word or the number of a part is of the grammar
abbrev pub IsWellSelected : Selector → Type 0
IsWellSelected (MemberNamed word) = IsWord word
IsWellSelected (ElementAt index) = IsPlainNumber index

component_well : (index : ℕ) → index < 2 ^ 32 →
    IsWellSelected
    (option_map_or MemberNamed (slice_get component_letters index) (ElementAt index))
component_well zero lt = letter_is_a_word component.X
component_well (suc zero) lt = letter_is_a_word component.Y
component_well (suc (suc zero)) lt = letter_is_a_word component.Z
component_well (suc (suc (suc zero))) lt = letter_is_a_word component.W
component_well (suc (suc (suc (suc index)))) lt = lt

-- a part is named so where a struct's member is
own_well : (d : ModuleDeclarations) (whole : Option ℕ) (it : TypeInner) (index : ℕ) →
    (is_struct it ≡ true → IsWord (option_map_or (λ h. d.member h index) whole [])) →
    index < 2 ^ 32 → (x : Selector) → own_selector d whole it index ≡ Some x → IsWellSelected x
own_well d whole (inner.Vector size s) index named lt x e =
    subst IsWellSelected (same_Some _ x e) (component_well index lt)
own_well d whole (inner.Matrix columns rows s) index named lt x e =
    subst IsWellSelected (same_Some _ x e) lt
own_well d whole (inner.Array base size stride) index named lt x e =
    subst IsWellSelected (same_Some _ x e) lt
own_well d whole (inner.BindingArray base size) index named lt x e =
    subst IsWellSelected (same_Some _ x e) lt
own_well d whole (inner.Struct members span) index named lt x e =
    subst IsWellSelected (same_Some _ x e) (named refl)
own_well d whole _ index named lt x e = absurd cc

-- no type that is known is a struct by itself
pub no_own_struct : (m : Module) (own it : TypeInner) → IsFit m (Value own) → own ≡ it →
    is_struct it ≡ true → ⊥
no_own_struct m own it fit same is =
    by it is (sym (ap (λ it. resolution_is_fit (Value it)) same) ∙ fit.0)
  where
    by : (it : TypeInner) → is_struct it ≡ true → resolution_is_fit (Value it) ≡ true → ⊥
    by (inner.Struct members span) is fits = absurd cc
    by _ is fits = absurd cc

-- The members of the struct of which a part is taken are named by words: of one that is known, or of
-- one that is pointed to.
abbrev MembersAreWords : ModuleDeclarations → TypeResolution → (it : TypeInner) → (index : ℕ) → Type 0
MembersAreWords d r it index =
    (h : ℕ) (t : Type_) → slice_get d.context.types h ≡ Some t → is_struct t.inner ≡ true →
    whole_of r it ≡ Some h → IsWord (d.member h index)

inner_well : (m : Module) (d : ModuleDeclarations) → d.context.types ≡ m.types → (r : TypeResolution) →
    IsFit m r → (it : TypeInner) (index : ℕ) → inner_of r d.context.types ≡ Some it →
    MembersAreWords d r it index → index < 2 ^ 32 →
    (x : Selector) → selector d (handle_of r) it index ≡ Some x → IsWellSelected x
inner_well m d same r fit (inner.Pointer base space) index is words lt x e =
    by (slice_get d.context.types base) refl e
  where
    by : (o : Option Type_) → slice_get d.context.types base ≡ o →
        option_and_then (λ it. own_selector d (Some base) it index) (option_map (λ t. t.inner) o) ≡
        Some x →
        IsWellSelected x
    by (Some t) at e = own_well d (Some base) t.inner index (λ is. words base t at is refl) lt x e
    by None at e = absurd cc
inner_well m d same r fit (inner.ValuePointer (Some size) s at) index is words lt x e =
    subst IsWellSelected (same_Some _ x e) lt
inner_well m d same r fit (inner.ValuePointer None s at) index is words lt x e = absurd cc
inner_well m d same (Handle h) fit (inner.Struct members span) index is words lt x e =
    own_well d (Some h) (inner.Struct members span) index
    (λ struct. by (slice_get d.context.types h) refl is) lt x e
  where
    by : (o : Option Type_) → slice_get d.context.types h ≡ o →
        option_map (λ t. t.inner) o ≡ Some (inner.Struct members span) → IsWord (d.member h index)
    by (Some t) at is = words h t at (ap is_struct (same_Some t.inner _ is)) refl
    by None at is = absurd cc
inner_well m d same (Value own) fit (inner.Struct members span) index is words lt x e =
    absurd (no_own_struct m own (inner.Struct members span) fit (same_Some own _ is) refl)
inner_well m d same r fit it index is words lt x e =
    own_well d (handle_of r) it index (λ struct. absurd cc) lt x e

-- what is known of an operand whose type passes a test
pub record KnownOperand (m : Module) (es : List ExpressionInfo) (test : TypeInner → Bool) (h : ℕ) : Type 0 where
  pub known : ExpressionInfo
  pub there : slice_get es h ≡ Some known
  pub type : TypeInner
  pub is : inner_of known.ty m.types ≡ Some type
  pub passes : test type ≡ true

pub known_operand : (m : Module) (es : List ExpressionInfo) (test : TypeInner → Bool) (h : ℕ) →
    known_passes m.types es test h ≡ true → KnownOperand m es test h
known_operand m es test h may = by (slice_get es h) refl may
  where
    inside : (k : ExpressionInfo) → slice_get es h ≡ Some k → (o : Option TypeInner) →
        inner_of k.ty m.types ≡ o → option_map_or test o false ≡ true → KnownOperand m es test h
    inside k there (Some it) is passes =
        record { known = k; there = there; type = it; is = is; passes = passes }
    inside k there None is passes = absurd cc

    by : (o : Option ExpressionInfo) → slice_get es h ≡ o →
        option_map_or (λ k. option_map_or test (inner_of k.ty m.types) false) o false ≡ true →
        KnownOperand m es test h
    by (Some k) there may = inside k there (inner_of k.ty m.types) refl may
    by None there may = absurd cc

-- the base of a part that is formed
abbrev pub KnownBase : Module → List ExpressionInfo → ℕ → Type 0
KnownBase m es base = KnownOperand m es (has_parts m.types) base

pub known_base : (m : Module) (es : List ExpressionInfo) (base index : ℕ) →
    expression_has_own_form m es (AccessIndex base index) ≡ true → KnownBase m es base
known_base m es base index may =
    known_operand m es (has_parts m.types) base
    (and_parts (known_passes m.types es (has_parts m.types) base) _ may).0

-- ---- members
-- the type of which a part is taken is one of the module's, or what one points to
whole_inner : (types : List Type_) (r : TypeResolution) (it : TypeInner) →
    inner_of r types ≡ Some it → (h : ℕ) (t : Type_) → slice_get types h ≡ Some t →
    handle_of r ≡ Some h → t.inner ≡ it
whole_inner types (Handle k) it is h t at whole =
    same_Some t.inner it
    (sym (ap (option_map (λ t. t.inner)) (ap (slice_get types) (same_Some k h whole) ∙ at)) ∙ is)
whole_inner types (Value own) it is h t at whole = absurd cc

-- an index below the number of a struct's parts is that of a member
struct_within : (it : TypeInner) (index : ℕ) → is_struct it ≡ true →
    option_map_or (λ count. nat_lt index count) (value_part_count it) true ≡ true →
    index < length (members_of it)
struct_within (inner.Struct members span) index is part = ltb-true index (length members.items) part
struct_within _ index is part = absurd cc

-- so it is of the struct of which a part is taken where an expression's index is in range
pub member_within : (types : List Type_) (r : TypeResolution) (it : TypeInner) (index : ℕ) →
    inner_of r types ≡ Some it → is_part_number types it index ≡ true →
    (h : ℕ) (t : Type_) → slice_get types h ≡ Some t → is_struct t.inner ≡ true →
    whole_of r it ≡ Some h → index < length (members_of t.inner)
member_within types r (inner.Pointer base space) index is part h t at struct whole =
    let there = ap (slice_get types) (same_Some base h whole) ∙ at in
    struct_within t.inner index struct
    (sym (ap
    (λ o. option_map_or (λ count. nat_lt index count)
    (option_and_then value_part_count (option_map (λ t. t.inner) o)) true) there) ∙ part)
member_within types r (inner.Struct members span) index is part h t at struct whole =
    let same = whole_inner types r (inner.Struct members span) is h t at whole in
    subst (λ it. index < length (members_of it)) (sym same)
    (struct_within (inner.Struct members span) index refl part)
member_within types r it index is part h t at struct whole =
    let none : is_struct it ≡ true = sym (ap is_struct (whole_inner types r it is h t at whole)) ∙ struct in
    absurd cc

-- and it is named by a word
member_well : (m : Module) (h index : ℕ) (t : Type_) → slice_get m.types h ≡ Some t →
    index < length (members_of t.inner) →
    IsWord (name_in (module_names m) (key.StructMember h index))
member_well m h index t at lt =
    let member = element (members_of t.inner) index lt in
    member_is_word m h t at index member.0 member.1

-- what a conversion that is formed takes, and what it gives, which has a form
pub record Conversion (m : Module) (a : ExpressionContext) (operand : ℕ) (kind : ScalarKind)
    (convert : Option ℕ) : Type 0 where
  pub from : TypeInner
  pub known : type_known a operand ≡ Some from
  pub to : TypeInner
  pub target : conversion_target from kind convert ≡ Some to
  pub formed : has_type_form m.types (Value to) ≡ true
  pub tree : TypeSpecifier
  pub is : inner_tree (type_names m) to ≡ Some tree

-- the scalars of the matrix that a cooperative load that is formed loads, whose type has a form
pub record LoadedMatrix (m : Module) (a : ExpressionContext) (columns rows : CooperativeSize)
    (role : CooperativeRole) (pointer : ℕ) : Type 0 where
  pub scalar : Scalar
  pub known : scalar_pointed a pointer ≡ Some scalar
  pub formed : has_type_form m.types (Value (inner.CooperativeMatrix columns rows scalar role)) ≡ true
  pub tree : TypeSpecifier
  pub is : inner_tree (type_names m) (inner.CooperativeMatrix columns rows scalar role) ≡ Some tree

-- what it gives is a scalar, a vector or a matrix, which is fit
pub target_fit : (m : Module) (from to : TypeInner) (kind : ScalarKind) (convert : Option ℕ) →
    conversion_target from kind convert ≡ Some to → IsFit m (Value to)
target_fit m (inner.Scalar s) to kind convert is = subst (λ it. IsFit m (Value it)) (same_Some _ to is) (refl, tt, refl)
target_fit m (inner.Vector size s) to kind convert is = subst (λ it. IsFit m (Value it)) (same_Some _ to is)
    (refl, tt, refl)
target_fit m (inner.Matrix columns rows s) to kind convert is =
    subst (λ it. IsFit m (Value it)) (same_Some _ to is) (refl, tt, refl)
target_fit m _ to kind convert is = absurd cc

module _ (m : Module) (info : ModuleInfo) (es : List ExpressionInfo) where
  abbrev d : ModuleDeclarations
  d = declared m info (types_known es)

  pub type_known_is : (h : ℕ) (k : ExpressionInfo) → slice_get es h ≡ Some k →
      type_known d.context h ≡ inner_of k.ty m.types
  type_known_is h k at =
      ap (option_and_then (λ r. inner_of r m.types))
      (slice_get-map (λ k. k.ty) es h ∙ ap (option_map (λ k. k.ty)) at)

  pub conversion : (operand : ℕ) (kind : ScalarKind) (convert : Option ℕ) →
      expression_has_own_form m es (As operand kind convert) ≡ true →
      Conversion m d.context operand kind convert
  conversion operand kind convert may =
      let k = known_operand m es (converts m.types kind convert) operand may in
      by k.type (type_known_is operand k.known k.there ∙ k.is)
      (conversion_target k.type kind convert) refl k.passes
    where
      by : (it : TypeInner) → type_known d.context operand ≡ Some it → (o : Option TypeInner) →
          conversion_target it kind convert ≡ o →
          option_map_or (λ new. has_type_form m.types (Value new)) o false ≡ true →
          Conversion m d.context operand kind convert
      by it known (Some new) target formed =
          let t = tree_there (type_names m) (Value new) formed in
          record {
            from = it;
            known = known;
            to = new;
            target = target;
            formed = formed;
            tree = t.0;
            is = t.1;
          }
      by it known None target formed = absurd cc

  pub loaded_matrix : (columns rows : CooperativeSize) (role : CooperativeRole)
      (place : CooperativeData) →
      expression_has_own_form m es (CooperativeLoad columns rows role place) ≡ true →
      LoadedMatrix m d.context columns rows role place.pointer
  loaded_matrix columns rows role place may =
      let k = known_operand m es (loads_matrix m.types columns rows role) place.pointer may in
      by (pointee_scalar m.types k.type)
      (ap (option_and_then (pointee_scalar m.types))
      (type_known_is place.pointer k.known k.there ∙ k.is))
      k.passes
    where
      by : (o : Option Scalar) → scalar_pointed d.context place.pointer ≡ o →
          option_map_or
          (λ s. has_type_form m.types (Value (inner.CooperativeMatrix columns rows s role))) o false ≡
          true →
          LoadedMatrix m d.context columns rows role place.pointer
      by (Some s) known formed =
          let t = tree_there (type_names m) (Value (inner.CooperativeMatrix columns rows s role)) formed in
          record { scalar = s; known = known; formed = formed; tree = t.0; is = t.1 }
      by None known formed = absurd cc

  pub selector_is : (base index : ℕ) → (b : KnownBase m es base) →
      part_selector d base index ≡ selector d (handle_of b.known.ty) b.type index
  selector_is base index b =
      ap
      (option_and_then
      (λ r. option_and_then (λ it. selector d (handle_of r) it index) (inner_of r m.types)))
      (slice_get-map (λ k. k.ty) es base ∙ ap (option_map (λ k. k.ty)) b.there)
      ∙ ap (option_and_then (λ it. selector d (handle_of b.known.ty) it index)) b.is

  -- its index selects a part
  pub selected : (base index : ℕ) → expression_has_own_form m es (AccessIndex base index) ≡ true →
      (x : Selector) × (part_selector d base index ≡ Some x)
  selected base index may =
      let b = known_base m es base index may in
      let x = inner_selected d (handle_of b.known.ty) b.type index b.passes in
      (x.0, selector_is base index b ∙ x.1)

  -- the type of which the part is taken
  pub whole_is : (base : ℕ) (b : KnownBase m es base) →
      whole_known m.types es base ≡ whole_of b.known.ty b.type
  whole_is base b =
      ap (option_and_then (λ k. option_and_then (whole_of k.ty) (inner_of k.ty m.types))) b.there
      ∙ ap (option_and_then (whole_of b.known.ty)) b.is

  -- its index is in range
  part_is_there : (base index : ℕ) → (b : KnownBase m es base) →
      operands_fit m.types (map (λ k. k.ty) es) (AccessIndex base index) ≡ true →
      is_part_number m.types b.type index ≡ true
  part_is_there base index b part =
      sym (ap (λ o. option_map_or (λ it. is_part_number m.types it index) o false)
      (type_known_is base b.known b.there ∙ b.is)) ∙ part

  -- by a word or a number of the grammar
  pub selected_well : (base index : ℕ) → expression_has_own_form m es (AccessIndex base index) ≡ true →
      operands_fit m.types (map (λ k. k.ty) es) (AccessIndex base index) ≡ true →
      ((h : ℕ) (k : ExpressionInfo) → slice_get es h ≡ Some k → IsFit m k.ty) → index < 2 ^ 32 →
      (x : Selector) → part_selector d base index ≡ Some x → IsWellSelected x
  selected_well base index may part fits lt x e =
      let b = known_base m es base index may in
      inner_well m d refl b.known.ty (fits base b.known b.there) b.type index b.is
      (λ h t at is whole.
      member_well m h index t at
      (member_within m.types b.known.ty b.type index b.is (part_is_there base index b part) h t at is
      whole))
      lt x (sym (selector_is base index b) ∙ e)
