-- What a type is spelled as: its text, part by part, in a context that says how structs and
-- overrides are named and whether what has no form is refused or shown in braces.
--
-- Throughout, c is the context, f gives the parts of the type at a handle, and t is the type there.
use Rattle.std.specs.Prelude.{◌≡◌, ℕ, zero, suc, nat_lt, ◌≤◌, ◌<◌, ◌+◌, codes, slice_get}
use Rattle.std.specs.Prelude.{Bool, true, false, if◌then◌else◌, IsTrue, Option, Some, None}
use Rattle.std.specs.Prelude.{List, [], ◌∷◌, ◌++◌, length}
use Rattle.std.specs.Int.NonZero.{non_zero_u32_get}
use Rattle.naga_ir.specs.declared.types.Type_.{Type_}
use Rattle.naga_ir.specs.declared.types.TypeInner.{TypeInner}
use Rattle.naga_ir.specs.declared.types.TypeInner.TheVariants as inner
use Rattle.naga_ir.specs.declared.types.ArraySize.{ArraySize}
use Rattle.naga_ir.specs.declared.types.ArraySize.TheVariants as size
use Rattle.naga_info.specs.declared.info.TypeResolution.{TypeResolution}
use Rattle.naga_info.specs.declared.info.TypeResolution.TheVariants.{Handle, Value}
use Rattle.std.specs.Option.{is_none}
use Rattle.wgsl_words.specs.Words.{space_word, space_access_word}
use Rattle.naga_spelling.specs.Segments.{Segment, Word, Missing}
use Rattle.naga_spelling.specs.Words.{cooperative_word, matrix_word, matrix_role_tail, sampler_word}
use Rattle.naga_spelling.specs.Words.{acceleration_structure_text, ray_query_text}
use Rattle.naga_spelling.specs.Values.{image_segments, length_of_number, scalar_segments}
use Rattle.naga_spelling.specs.Values.{template_segments}
use Rattle.naga_spelling.specs.Values.{pointer_in, value_segments, value_pointer_segments}
use Rattle.naga_spelling.specs.Values.{vector_segments}

-- how a context spells what is its own
pub record Context : Type 0 where
  -- the types, by handle
  pub types : List Type_
  -- the name of the struct at a handle
  pub name : ℕ → List ℕ
  -- the overrides that it knows, and how it spells them
  pub knows : ℕ → Bool
  pub override_segments : ℕ → List Segment
  -- how it spells a struct without a handle
  pub unnamed_segments : List Segment
  -- Is what has no form refused? Otherwise it is shown in braces.
  pub refuses : Bool

-- a pointer; where its space has no word, what it points to alone
abbrev pub pointer_segments : Option (List ℕ) → Option (List ℕ) → List Segment → List Segment
pointer_segments None access pointee = pointee
pointer_segments (Some space) access pointee = pointer_in space access pointee

abbrev pub length_of_override : List Segment → List Segment
length_of_override name = Word (codes ", ") ∷ (name ++ (Word (codes ">") ∷ []))

-- the length of an array, with the bracket that closes it
abbrev pub length_segments : Context → ArraySize → List Segment
length_segments c (size.Constant number) = length_of_number (non_zero_u32_get number)
length_segments c (size.Pending override_handle) =
    length_of_override (c.override_segments override_handle)
length_segments c size.Dynamic = Word (codes ">") ∷ []

-- an array of this word, by its length
abbrev pub array_segments : Context → List ℕ → List Segment → ArraySize → List Segment
array_segments c word element size =
    Word word ∷ Word (codes "<") ∷ (element ++ length_segments c size)

-- a type by itself, with the spellings of the types that it names
abbrev pub inner_segments_by : Context → (ℕ → List Segment) → TypeInner → List Segment
inner_segments_by c f (inner.Scalar scalar) = scalar_segments c.refuses scalar
inner_segments_by c f (inner.Vector size scalar) = vector_segments c.refuses size scalar
inner_segments_by c f (inner.Matrix columns rows scalar) =
    template_segments (matrix_word columns rows) (scalar_segments c.refuses scalar) (codes ">")
inner_segments_by c f (inner.CooperativeMatrix columns rows scalar role) =
    template_segments (cooperative_word columns rows) (scalar_segments c.refuses scalar)
    (matrix_role_tail role)
inner_segments_by c f (inner.Atomic scalar) =
    template_segments (codes "atomic") (scalar_segments c.refuses scalar) (codes ">")
inner_segments_by c f (inner.Pointer base space) =
    pointer_segments (space_word space) (space_access_word space) (f base)
inner_segments_by c f (inner.ValuePointer size scalar space) =
    value_pointer_segments c.refuses (space_word space) (space_access_word space)
    (value_segments c.refuses size scalar)
inner_segments_by c f (inner.Array base size stride) =
    array_segments c (codes "array") (f base) size
inner_segments_by c f (inner.Struct members span) = c.unnamed_segments
inner_segments_by c f (inner.Image dim arrayed class) = image_segments c.refuses dim arrayed class
inner_segments_by c f (inner.Sampler comparison) = Word (sampler_word comparison) ∷ []
inner_segments_by c f (inner.AccelerationStructure vertex_return) =
    Word (acceleration_structure_text vertex_return) ∷ []
inner_segments_by c f (inner.RayQuery vertex_return) = Word (ray_query_text vertex_return) ∷ []
inner_segments_by c f (inner.BindingArray base size) =
    array_segments c (codes "binding_array") (f base) size

abbrev pub is_struct : TypeInner → Bool
is_struct (inner.Struct members span) = true
is_struct _ = false

-- the type at a handle: a struct by its name
abbrev pub named_segments_by : Context → (ℕ → List Segment) → ℕ → TypeInner → List Segment
named_segments_by c f handle it =
    if is_struct it then Word (c.name handle) ∷ [] else inner_segments_by c f it

abbrev pub found_segments_by : Context → (ℕ → List Segment) → ℕ → Option Type_ → List Segment
found_segments_by c f handle None = Missing ∷ []
found_segments_by c f handle (Some t) = named_segments_by c f handle t.inner

-- the type at a handle, at most so many levels deep
abbrev pub segments_within : ℕ → Context → ℕ → List Segment
segments_within zero c handle = Missing ∷ []
segments_within (suc levels) c handle =
    found_segments_by c (segments_within levels c) handle (slice_get c.types handle)

-- the spelling of the type at a handle, whose parts stand before it
unfoldable pub type_segments : Context → ℕ → List Segment
type_segments c handle = segments_within (suc handle) c handle

-- the spelling of a type by itself
abbrev pub inner_segments : Context → TypeInner → List Segment
inner_segments c it = inner_segments_by c (type_segments c) it

-- one past the handle of the type that a type names, or 0
abbrev pub end_of_base : TypeInner → ℕ
end_of_base (inner.Pointer base space) = base + 1
end_of_base (inner.Array base size stride) = base + 1
end_of_base (inner.BindingArray base size) = base + 1
end_of_base _ = 0

abbrev pub knows_size : Context → ArraySize → Bool
knows_size c (size.Pending override_handle) = c.knows override_handle
knows_size c _ = true

-- Does the context know the override of its length?
abbrev pub knows_override : Context → TypeInner → Bool
knows_override c (inner.Array base size stride) = knows_size c size
knows_override c (inner.BindingArray base size) = knows_size c size
knows_override c _ = true

-- a value pointer in a space without a word
abbrev pub is_unsupported_pointer : TypeInner → Bool
is_unsupported_pointer (inner.ValuePointer size scalar space) = is_none (space_word space)
is_unsupported_pointer _ = false

-- the type of an expression: one of the context's, or one by itself
abbrev pub resolution_segments : Context → TypeResolution → List Segment
resolution_segments c (Handle handle) = type_segments c handle
resolution_segments c (Value it) = inner_segments c it

-- What a type by itself names is known to the context.
pub record Fits (c : Context) (it : TypeInner) : Type 0 where
  pub in_range : end_of_base it ≤ length c.types
  pub knows : IsTrue (knows_override c it)

abbrev pub FitsResolution : Context → TypeResolution → Type 0
FitsResolution c (Handle handle) = handle < length c.types
FitsResolution c (Value it) = Fits c it

-- A type's parts stand before it, and the context knows the overrides of their lengths.
pub record IsInOrder (c : Context) : Type 0 where
  pub before :
      (handle : ℕ) (t : Type_) → slice_get c.types handle ≡ Some t → end_of_base t.inner ≤ handle
  pub known : (handle : ℕ) (t : Type_) → slice_get c.types handle ≡ Some t →
      IsTrue (knows_override c t.inner)

-- Is the override of the length one of so many?
abbrev pub size_within : ℕ → ArraySize → Bool
size_within overrides (size.Pending override_handle) = nat_lt override_handle overrides
size_within overrides _ = true

abbrev pub length_within : ℕ → TypeInner → Bool
length_within overrides (inner.Array base size stride) = size_within overrides size
length_within overrides (inner.BindingArray base size) = size_within overrides size
length_within overrides _ = true

-- A type names types before the first so many and overrides of so many.
pub record StandsAfter (types overrides : ℕ) (it : TypeInner) : Type 0 where
  pub before : end_of_base it ≤ types
  pub known : IsTrue (length_within overrides it)
