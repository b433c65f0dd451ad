-- Which types are read from their text, and which types are alike.
--
-- Throughout, n are the names of structs and overrides, h is the handle of a type t, o that of an
-- override, r what an expression has for a type; a and b are two such.
use Rattle.std.specs.Prelude.{◌≡◌, ℕ, ◌<◌, ◌^◌, Bool, true, List, [], ◌∷◌, ⊤, Some, None, slice_get}
use Rattle.std.specs.Option.{is_some}
use Rattle.std.specs.Int.NonZero.{non_zero_u32_get}
use Rattle.naga_info.specs.declared.info.TypeResolution.{TypeResolution}
use Rattle.naga_info.specs.declared.info.TypeResolution.TheVariants as resolution
use Rattle.naga_info.specs.Resolution.{inner_of}
use Rattle.naga_ir.specs.declared.types.ArraySize.{ArraySize}
use Rattle.naga_ir.specs.declared.types.ArraySize.TheVariants as size
use Rattle.naga_ir.specs.declared.types.Type_.{Type_}
use Rattle.naga_ir.specs.declared.types.TypeInner.{TypeInner}
use Rattle.naga_ir.specs.declared.types.TypeInner.TheVariants as inner
use Rattle.wgsl_text.specs.Types.{TypeSpecifier}
use Rattle.wgsl_text.specs.Words.{IsIdentifier}
use Rattle.naga_spelling.specs.Spelling.{is_struct}
use Rattle.naga_form.specs.TypeTrees.{resolution_tree}
use Rattle.naga_spelling.specs.Contexts.{Names}

-- Does the type have a form in WGSL? A struct without a handle has none.
abbrev pub is_readable : Names → TypeResolution → Bool
is_readable n r = is_some (resolution_tree n r)

-- a length that is a number of 32 bits, or one of so many overrides
abbrev pub LengthIsWithin : (overrides : ℕ) → ArraySize → Type 0
LengthIsWithin overrides (size.Constant number) = non_zero_u32_get number < 2 ^ 32
LengthIsWithin overrides (size.Pending override_handle) = override_handle < overrides
LengthIsWithin overrides size.Dynamic = ⊤

-- a type by itself whose length, if it has one, is such a number or such an override
abbrev pub InnerIsWithin : (overrides : ℕ) → TypeInner → Type 0
InnerIsWithin overrides (inner.Array base size stride) = LengthIsWithin overrides size
InnerIsWithin overrides (inner.BindingArray base size) = LengthIsWithin overrides size
InnerIsWithin overrides _ = ⊤

-- Each struct and each of so many overrides has an identifier
-- for a name, and lengths are such numbers or overrides.
pub record AreNamed (n : Names) (count : ℕ) : Type 0 where
  pub structs : (h : ℕ) (t : Type_) → slice_get n.types h ≡ Some t → is_struct t.inner ≡ true →
      IsIdentifier (n.struct_name h)
  pub overrides : (o : ℕ) → o < count → IsIdentifier (n.override_name o)
  pub lengths : (h : ℕ) (t : Type_) → slice_get n.types h ≡ Some t → InnerIsWithin count t.inner

-- the same of an expression's type; one of the module's is looked after by `AreNamed`
abbrev pub ResolutionIsWithin : (overrides : ℕ) → TypeResolution → Type 0
ResolutionIsWithin overrides (resolution.Handle h) = ⊤
ResolutionIsWithin overrides (resolution.Value it) = InnerIsWithin overrides it

-- names that tell handles apart: a word of one number, the handle. A text of the handle would tell
-- apart only numbers below 2 ^ 64
abbrev pub handle_names : List Type_ → Names
handle_names types =
    record { types = types; struct_name = λ h. h ∷ []; override_name = λ h. h ∷ [] }

-- Types are alike that are spelled alike, where each struct and each override stands for its
-- handle. A type without a form is a type of its own.
pub data AreAlike (types : List Type_) : TypeResolution → TypeResolution → Type 0 where
  SpelledAlike : {a b : TypeResolution} (t : TypeSpecifier) →
      resolution_tree (handle_names types) a ≡ Some t →
      resolution_tree (handle_names types) b ≡ Some t → AreAlike types a b
  Unsupported : {a b : TypeResolution} →
      resolution_tree (handle_names types) a ≡ None →
      resolution_tree (handle_names types) b ≡ None →
      inner_of a types ≡ inner_of b types → AreAlike types a b
