-- Parts of structs, which are members by their names, and parts of what is no struct.
-- Serves 45 contracts, `component` among them.
use Rattle.std.proofs.Common.{◌≡◌, ℕ, Bool, true, false, Option, Some, None, refl, sym, ap, ◌∙◌}
use Rattle.std.proofs.Common.{slice_get}
use Rattle.std.specs.Prelude.{if◌then◌else◌}
use Rattle.std.specs.Option.{option_and_then, option_map}
use Rattle.std.proofs.lemmas.Option.{same_Some}
use Rattle.naga_info.specs.Resolution.{handle_of, inner_of}
use Rattle.naga_info.specs.declared.info.TypeResolution.{TypeResolution}
use Rattle.naga_info.specs.declared.info.TypeResolution.TheVariants.{Handle, Value}
use Rattle.naga_ir.specs.declared.module.Module.{Module}
use Rattle.naga_ir.specs.declared.types.Type_.{Type_}
use Rattle.naga_ir.specs.declared.types.TypeInner.{TypeInner}
use Rattle.naga_ir.specs.declared.types.TypeInner.TheVariants as inner
use Rattle.naga_spelling.specs.Spelling.{is_struct}
use Rattle.module_semantics.specs.ExpressionOperators.{type_with}
use Rattle.module_semantics.specs.ExpressionShapes.{ModuleDeclarations, own_selector, selector}
use Rattle.module_semantics.specs.Undeclared.{whole_of}
use Rattle.naga_form.proofs.operators.AllowedParts.{no_own_struct}
use Rattle.naga_form.proofs.types.SameValues.{IsFit}
use Rattle.naga_wgsl_fns.specs.Expressions.{struct_at}
use Rattle.shader_runs.specs.Value.{MemberNamed}

-- a part of a struct is a member
struct_selected : (d : ModuleDeclarations) (k index : ℕ) (it : TypeInner) → is_struct it ≡ true →
    selector d (Some k) it index ≡ Some (MemberNamed (d.member k index))
struct_selected d k index (inner.Struct members span) is = refl
struct_selected d k index _ is = absurd cc

own_member : (d : ModuleDeclarations) (k index : ℕ) (it : TypeInner) → is_struct it ≡ true →
    own_selector d (Some k) it index ≡ Some (MemberNamed (d.member k index))
own_member d k index (inner.Struct members span) is = refl
own_member d k index _ is = absurd cc

module _ (m : Module) where
  -- a struct is at its handle
  pub record IsStructAt (k h : ℕ) : Type 0 where
    pub type : Type_
    pub there : slice_get m.types k ≡ Some type
    pub is : is_struct type.inner ≡ true
    pub same : k ≡ h

  pub found_struct : (k h : ℕ) → struct_at m.types k ≡ Some h → IsStructAt k h
  found_struct k h found = by (slice_get m.types k) refl found
    where
      inside : (ty : Type_) → slice_get m.types k ≡ Some ty → (b : Bool) → is_struct ty.inner ≡ b →
          (if b then Some k else None) ≡ Some h → IsStructAt k h
      inside ty at true is found =
          record { type = ty; there = at; is = is; same = same_Some k h found }
      inside ty at false is found = absurd cc

      by : (o : Option Type_) → slice_get m.types k ≡ o →
          option_and_then (λ ty. if is_struct ty.inner then Some k else None) o ≡ Some h →
          IsStructAt k h
      by (Some ty) at found = inside ty at (is_struct ty.inner) refl found
      by None at found = absurd cc

  -- and where none is at a handle, the type there is none
  pub found_none : (k : ℕ) (ty : Type_) → slice_get m.types k ≡ Some ty →
      struct_at m.types k ≡ None → is_struct ty.inner ≡ false
  found_none k ty at none =
      by (is_struct ty.inner)
      (sym (ap (option_and_then (λ ty. if is_struct ty.inner then Some k else None)) at) ∙ none)
    where
      by : (b : Bool) → (if b then Some k else None) ≡ None → b ≡ false
      by true e = absurd cc
      by false e = refl

  at_handle : (k : ℕ) (it : TypeInner) → inner_of (Handle k) m.types ≡ Some it →
      (ty : Type_) × (slice_get m.types k ≡ Some ty) × (ty.inner ≡ it)
  at_handle k it is = by (slice_get m.types k) refl is
    where
      by : (o : Option Type_) → slice_get m.types k ≡ o → option_map (λ ty. ty.inner) o ≡ Some it →
          (ty : Type_) × (slice_get m.types k ≡ Some ty) × (ty.inner ≡ it)
      by (Some ty) at is = (ty, at, same_Some ty.inner it is)
      by None at is = absurd cc

  -- the struct of which a part is taken has it as a member
  pub member_selected : (d : ModuleDeclarations) → d.context.types ≡ m.types → (r : TypeResolution)
      (it : TypeInner) (index h : ℕ) → inner_of r m.types ≡ Some it →
      option_and_then (struct_at m.types) (whole_of r it) ≡ Some h →
      selector d (handle_of r) it index ≡ Some (MemberNamed (d.member h index))
  member_selected d same r (inner.Pointer base space) index h is found =
      let k = found_struct base h found in
      ap (λ types. option_and_then (λ it. own_selector d (Some base) it index) (type_with types base))
      same
      ∙ ap
      (λ o. option_and_then (λ it. own_selector d (Some base) it index)
      (option_map (λ (ty : Type_). ty.inner) o)) k.there
      ∙ own_member d base index k.type.inner k.is
      ∙ ap (λ k. Some (MemberNamed (d.member k index))) k.same
  member_selected d same (Value own) it index h is found = absurd cc
  member_selected d same (Handle k) it index h is found =
      let ty = at_handle k it is in
      let s = found_struct k h found in
      let one = same_Some s.type ty.0 (sym s.there ∙ ty.1) in
      struct_selected d k index it
      (sym (ap is_struct ty.2) ∙ (sym (ap (λ (ty : Type_). is_struct ty.inner) one) ∙ s.is))
      ∙ ap (λ k. Some (MemberNamed (d.member k index))) s.same

  -- where there is none, what has the part is no struct
  pub no_struct : (r : TypeResolution) (it : TypeInner) → IsFit m r → inner_of r m.types ≡ Some it →
      option_and_then (struct_at m.types) (whole_of r it) ≡ None → is_struct it ≡ false
  no_struct (Handle k) (inner.Struct members span) fit is none =
      let ty = at_handle k (inner.Struct members span) is in
      sym (ap is_struct ty.2) ∙ found_none k ty.0 ty.1 none
  no_struct (Value own) (inner.Struct members span) fit is none =
      absurd (no_own_struct m own (inner.Struct members span) fit (same_Some own _ is) refl)
  no_struct r it fit is none = refl
