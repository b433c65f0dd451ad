-- What a type is read as, where it has a form: a
-- syntax tree, by the names of structs and overrides.
--
-- Throughout, n are the names of structs and overrides, f gives the tree of the type at a handle, t
-- is the type there, and s the tree of a scalar.
use Rattle.std.specs.Prelude.{ℕ, zero, suc, Bool, true, false, if◌then◌else◌, List, Option, Some}
use Rattle.std.specs.Prelude.{None, codes, slice_get}
use Rattle.std.specs.Option.{option_map}
use Rattle.std.specs.Int.NonZero.{non_zero_u32_get}
use Rattle.wgsl_text.specs.Types.{TypeSpecifier, Named, Template, NoTemplateArguments, TypeArgument}
use Rattle.wgsl_text.specs.Types.{SizeArgument}
use Rattle.wgsl_text.specs.Types.{of_one, of_two, pointer_tree}
use Rattle.naga_info.specs.declared.info.TypeResolution.{TypeResolution}
use Rattle.naga_info.specs.declared.info.TypeResolution.TheVariants.{Handle, Value}
use Rattle.naga_ir.specs.declared.types.Type_.{Type_}
use Rattle.naga_ir.specs.declared.types.TypeInner.{TypeInner}
use Rattle.naga_ir.specs.declared.types.TypeInner.TheVariants as inner
use Rattle.naga_ir.specs.declared.types.ArraySize.{ArraySize}
use Rattle.naga_ir.specs.declared.types.ArraySize.TheVariants as size
use Rattle.naga_ir.specs.declared.types.VectorSize.{VectorSize}
use Rattle.naga_ir.specs.declared.types.Scalar.{Scalar}
use Rattle.naga_ir.specs.declared.image.ImageClass.{ImageClass}
use Rattle.naga_ir.specs.declared.image.ImageClass.TheVariants as class
use Rattle.naga_ir.specs.declared.image.ImageDimension.{ImageDimension}
use Rattle.wgsl_words.specs.Words.{scalar_word, space_word, space_access_word, image_access_word}
use Rattle.wgsl_words.specs.Words.{matrix_role_word, format_word}
use Rattle.naga_spelling.specs.Words.{vector_word, matrix_word, cooperative_word, image_word}
use Rattle.naga_spelling.specs.Words.{sampler_word}
use Rattle.naga_spelling.specs.Contexts.{Names}
use Rattle.naga_spelling.specs.Spelling.{is_struct}

abbrev pub scalar_tree : Scalar → Option TypeSpecifier
scalar_tree scalar = option_map Named (scalar_word scalar)

abbrev pub vector_tree : VectorSize → Scalar → Option TypeSpecifier
vector_tree size scalar = option_map (of_one (vector_word size)) (scalar_tree scalar)

abbrev pub value_tree : Option VectorSize → Scalar → Option TypeSpecifier
value_tree None scalar = scalar_tree scalar
value_tree (Some size) scalar = vector_tree size scalar

abbrev pub pointer_tree_in :
    Option (List ℕ) → Option (List ℕ) → Option TypeSpecifier → Option TypeSpecifier
pointer_tree_in None access pointee = pointee
pointer_tree_in (Some space) access pointee = option_map (pointer_tree space access) pointee

abbrev pub value_pointer_tree_in :
    Option (List ℕ) → Option (List ℕ) → Option TypeSpecifier → Option TypeSpecifier
value_pointer_tree_in None access value = None
value_pointer_tree_in (Some space) access value = option_map (pointer_tree space access) value

abbrev pub array_tree : Names → List ℕ → ArraySize → TypeSpecifier → TypeSpecifier
array_tree n word (size.Constant number) element =
    Template word
    (TypeArgument element (SizeArgument (non_zero_u32_get number) NoTemplateArguments))
array_tree n word (size.Pending override_handle) element =
    of_two word element (Named (n.override_name override_handle))
array_tree n word size.Dynamic element = of_one word element

abbrev pub image_tree : ImageDimension → Bool → ImageClass → Option TypeSpecifier
image_tree dim arrayed (class.Sampled kind multi) =
    option_map (of_one (image_word (codes "texture_") multi dim arrayed))
    (scalar_tree (record { kind = kind; width = 4 }))
image_tree dim arrayed (class.Depth multi) =
    Some (Named (image_word (codes "texture_depth_") multi dim arrayed))
image_tree dim arrayed class.External = Some (Named (codes "texture_external"))
image_tree dim arrayed (class.Storage format access) =
    let word = image_word (codes "texture_storage_") false dim arrayed in
    Some (of_two word (Named (format_word format)) (Named (image_access_word access)))

-- a word, with `vertex_return` or without
abbrev pub ray_tree : List ℕ → Bool → TypeSpecifier
ray_tree word true = of_one word (Named (codes "vertex_return"))
ray_tree word false = Named word

-- a type by itself, with the trees of the types that it names
abbrev pub inner_tree_by : Names → (ℕ → Option TypeSpecifier) → TypeInner → Option TypeSpecifier
inner_tree_by n f (inner.Scalar scalar) = scalar_tree scalar
inner_tree_by n f (inner.Vector size scalar) = vector_tree size scalar
inner_tree_by n f (inner.Matrix columns rows scalar) =
    option_map (of_one (matrix_word columns rows)) (scalar_tree scalar)
inner_tree_by n f (inner.CooperativeMatrix columns rows scalar role) =
    option_map (λ s. of_two (cooperative_word columns rows) s (Named (matrix_role_word role)))
    (scalar_tree scalar)
inner_tree_by n f (inner.Atomic scalar) = option_map (of_one (codes "atomic")) (scalar_tree scalar)
inner_tree_by n f (inner.Pointer base space) =
    pointer_tree_in (space_word space) (space_access_word space) (f base)
inner_tree_by n f (inner.ValuePointer size scalar space) =
    value_pointer_tree_in (space_word space) (space_access_word space) (value_tree size scalar)
inner_tree_by n f (inner.Array base size stride) =
    option_map (array_tree n (codes "array") size) (f base)
inner_tree_by n f (inner.Struct members span) = None
inner_tree_by n f (inner.Image dim arrayed class) = image_tree dim arrayed class
inner_tree_by n f (inner.Sampler comparison) = Some (Named (sampler_word comparison))
inner_tree_by n f (inner.AccelerationStructure vertex_return) =
    Some (ray_tree (codes "acceleration_structure") vertex_return)
inner_tree_by n f (inner.RayQuery vertex_return) = Some (ray_tree (codes "ray_query") vertex_return)
inner_tree_by n f (inner.BindingArray base size) =
    option_map (array_tree n (codes "binding_array") size) (f base)

-- the type at a handle: a struct by its name
abbrev pub named_tree_by : Names → (ℕ → Option TypeSpecifier) → ℕ → TypeInner → Option TypeSpecifier
named_tree_by n f handle it =
    if is_struct it then Some (Named (n.struct_name handle)) else inner_tree_by n f it

abbrev pub found_tree_by :
    Names → (ℕ → Option TypeSpecifier) → ℕ → Option Type_ → Option TypeSpecifier
found_tree_by n f handle None = None
found_tree_by n f handle (Some t) = named_tree_by n f handle t.inner

-- the type at a handle, at most so many levels deep
abbrev pub tree_within : ℕ → Names → ℕ → Option TypeSpecifier
tree_within zero n handle = None
tree_within (suc levels) n handle =
    found_tree_by n (tree_within levels n) handle (slice_get n.types handle)

-- the tree of the type at a handle, whose parts stand before it; `None` where it has no form
unfoldable pub type_tree : Names → ℕ → Option TypeSpecifier
type_tree n handle = tree_within (suc handle) n handle

-- the tree of a type by itself; a struct by itself has no name and no form
abbrev pub inner_tree : Names → TypeInner → Option TypeSpecifier
inner_tree n it = inner_tree_by n (type_tree n) it

-- the type of an expression: one of the module's, or one by itself
abbrev pub resolution_tree : Names → TypeResolution → Option TypeSpecifier
resolution_tree n (Handle handle) = type_tree n handle
resolution_tree n (Value it) = inner_tree n it
