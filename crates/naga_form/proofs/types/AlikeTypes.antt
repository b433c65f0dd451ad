-- The numbers that tell a type with a form, and the tree that it is read as, tell the same: each can
-- be read off the other. So types are alike by their numbers that are alike by their trees.
use Rattle.std.proofs.Common.{◌≡◌, ℕ, zero, suc, Bool, true, false, List, [], ◌∷◌, refl, sym, ap}
use Rattle.std.proofs.Common.{◌∙◌, codes, Option, Some, None, slice_get, get_or, if◌then◌else◌}
use Rattle.std.specs.Prelude.{unwrap_or}
use Rattle.std.specs.Option.{option_map, is_some}
use Rattle.naga_ir.specs.declared.image.StorageFormat.{StorageFormat}
use Rattle.naga_ir.specs.declared.image.StorageFormat.TheVariants as format
use Rattle.naga_ir.specs.declared.image.ImageClass.{ImageClass}
use Rattle.naga_ir.specs.declared.image.ImageClass.TheVariants as class
use Rattle.naga_ir.specs.declared.image.ImageDimension.{ImageDimension}
use Rattle.naga_ir.specs.declared.types.AddressSpace.{AddressSpace}
use Rattle.naga_ir.specs.declared.types.AddressSpace.TheVariants as space
use Rattle.naga_ir.specs.declared.types.ArraySize.{ArraySize}
use Rattle.naga_ir.specs.declared.types.ArraySize.TheVariants as size
use Rattle.naga_ir.specs.declared.types.Scalar.{Scalar}
use Rattle.naga_ir.specs.declared.types.Type_.{Type_}
use Rattle.naga_ir.specs.declared.types.TypeInner.{TypeInner}
use Rattle.naga_ir.specs.declared.types.TypeInner.TheVariants as inner
use Rattle.naga_ir.specs.declared.types.VectorSize.{VectorSize}
use Rattle.naga_info.specs.declared.info.TypeResolution.{TypeResolution}
use Rattle.naga_info.specs.declared.info.TypeResolution.TheVariants.{Handle, Value}
use Rattle.wgsl_text.specs.Types.{TypeSpecifier, Named, Template, NoTemplateArguments, TypeArgument}
use Rattle.wgsl_text.specs.Types.{SizeArgument, of_one, of_two, pointer_tree}
use Rattle.wgsl_words.specs.Words.{scalar_word, scalar_word_of, space_word, space_access_word}
use Rattle.wgsl_words.specs.Words.{format_word, matrix_role_word, has, atomic_bit, store_bit, load_bit}
use Rattle.naga_spelling.specs.Words.{vector_word, matrix_word, cooperative_word, image_word}
use Rattle.naga_spelling.specs.Words.{sampler_word}
use Rattle.naga_spelling.specs.Spelling.{is_struct}
use Rattle.module_semantics.specs.TypeIdentity.{level, kind_number, space_number}
use Rattle.module_semantics.proofs.TypeIdentity.{truth_of, truth_distinguished, kind_of}
use Rattle.module_semantics.proofs.TypeIdentity.{kind_distinguished, vector_of, vector_distinguished}
use Rattle.module_semantics.proofs.TypeIdentity.{cooperative_of, cooperative_distinguished, role_of}
use Rattle.module_semantics.proofs.TypeIdentity.{role_distinguished, dimension_of}
use Rattle.module_semantics.proofs.TypeIdentity.{dimension_distinguished, formats}
use Rattle.module_semantics.proofs.TypeIdentity.{format_distinguished}
use Rattle.module_semantics.specs.AlikeTypes.{over_scalar, value_key, access_number, pointer_key}
use Rattle.module_semantics.specs.AlikeTypes.{value_pointer_key, array_key, image_key, inner_key_by}
use Rattle.module_semantics.specs.AlikeTypes.{found_key_by, key_within, handle_key, type_key}
use Rattle.naga_form.specs.TypeTrees.{value_tree, pointer_tree_in, array_tree}
use Rattle.naga_form.specs.TypeTrees.{value_pointer_tree_in, image_tree, ray_tree, inner_tree_by}
use Rattle.naga_form.specs.TypeTrees.{found_tree_by, tree_within, type_tree, resolution_tree}
use Rattle.naga_spelling.specs.Contexts.{Names}

-- ---- from numbers to trees
scalar_read : (kind width : ℕ) → TypeSpecifier
scalar_read k n = Named (unwrap_or (scalar_word_of (kind_of k) n) [])

abbrev space_read : ℕ → Option (List ℕ)
space_read n =
    get_or (Some (codes "function") ∷ Some (codes "private") ∷ Some (codes "workgroup") ∷ Some (codes "uniform")
    ∷ Some (codes "storage") ∷ None ∷
    Some (codes "immediate") ∷ Some (codes "task_payload") ∷ Some (codes "ray_payload")
    ∷ Some (codes "incoming_ray_payload") ∷ []) n None

abbrev buffer_access_read : ℕ → Option (List ℕ)
buffer_access_read n = get_or (None ∷ Some (codes "read_write") ∷ Some (codes "atomic") ∷ []) n None

abbrev pointer_read : Option (List ℕ) → (access : Option (List ℕ)) → TypeSpecifier → TypeSpecifier
pointer_read None access pointee = pointee
pointer_read (Some word) access pointee = pointer_tree word access pointee

abbrev array_read : (under : Names) → List ℕ → (length number : ℕ) → TypeSpecifier → TypeSpecifier
array_read under word l n element =
    get_or (Template word (TypeArgument element (SizeArgument n NoTemplateArguments)) ∷ of_two word element
    (Named (under.override_name n)) ∷ []) l (of_one word element)

abbrev access_read : ℕ → List ℕ
access_read n = get_or (codes "write" ∷ codes "read" ∷ codes "read_write" ∷ codes "atomic" ∷ []) n []

abbrev format_read : ℕ → StorageFormat
format_read n = get_or formats n format.R8Unorm

image_read : ImageDimension → (arrayed : Bool) → (class first second : ℕ) → TypeSpecifier
image_read dim arrayed c d e =
    get_or (
    of_one (image_word (codes "texture_") (truth_of e) dim arrayed) (scalar_read d 4) ∷
    Named (image_word (codes "texture_depth_") (truth_of d) dim arrayed) ∷
    of_two (image_word (codes "texture_storage_") false dim arrayed) (Named (format_word (format_read d)))
    (Named (access_read e)) ∷
    []
    ) c (Named (codes "texture_external"))

-- a level, above what it is over
pub level_read : (under : Names) → (tag a b c d e : ℕ) → TypeSpecifier → TypeSpecifier
level_read under tag a b c d e more =
    get_or (
    scalar_read a b ∷
    of_one (vector_word (vector_of c)) (scalar_read a b) ∷
    of_one (matrix_word (vector_of c) (vector_of d)) (scalar_read a b) ∷
    of_two (cooperative_word (cooperative_of c) (cooperative_of d)) (scalar_read a b)
    (Named (matrix_role_word (role_of e))) ∷
    of_one (codes "atomic") (scalar_read a b) ∷
    pointer_read (space_read a) (buffer_access_read b) more ∷
    array_read under (codes "array") a b more ∷
    array_read under (codes "binding_array") a b more ∷
    Named (under.struct_name a) ∷
    image_read (dimension_of a) (truth_of b) c d e ∷
    Named (sampler_word (truth_of a)) ∷
    ray_tree (codes "acceleration_structure") (truth_of a) ∷
    ray_tree (codes "ray_query") (truth_of a) ∷
    []
    ) tag (Named [])

abbrev pub key_read : Names → List ℕ → TypeSpecifier
key_read under (tag ∷ a ∷ b ∷ c ∷ d ∷ e ∷ more) = level_read under tag a b c d e (key_read under more)
key_read under _ = Named []

-- no level begins with the number of a type without a form
pub other_read : (under : Names) → (code : List ℕ) → key_read under (32 ∷ code) ≡ Named []
unfolding level_read
other_read under [] = refl
other_read under (a ∷ []) = refl
other_read under (a ∷ b ∷ []) = refl
other_read under (a ∷ b ∷ c ∷ []) = refl
other_read under (a ∷ b ∷ c ∷ d ∷ []) = refl
other_read under (a ∷ b ∷ c ∷ d ∷ e ∷ more) = refl

space_is_read : (at : AddressSpace) → space_read (space_number at) ≡ space_word at
space_is_read space.Function = refl
space_is_read _ = refl

buffer_is_read : (a s : Bool) → buffer_access_read (if a then 2 else (if s then 1 else 0))
    ≡ (if a then Some (codes "atomic") else (if s then Some (codes "read_write") else None))
buffer_is_read true s = refl
buffer_is_read false true = refl
buffer_is_read false false = refl

access_number_is_read : (at : AddressSpace) → buffer_access_read (access_number at) ≡ space_access_word at
access_number_is_read (space.Storage access) = buffer_is_read (has atomic_bit access) (has store_bit access)
access_number_is_read _ = refl

image_access_is_read : (a l s : Bool) →
    access_read (if a then 3 else (if l then (if s then 2 else 1) else 0)) ≡
    (if a then codes "atomic" else (if l then (if s then codes "read_write" else codes "read")
    else codes "write"))
image_access_is_read true l s = refl
image_access_is_read false true true = refl
image_access_is_read false true false = refl
image_access_is_read false false s = refl

-- a scalar's word, and a type over the scalar
scalar_is_read : (s : Scalar) → scalar_read (kind_number s.kind) s.width ≡ Named (unwrap_or (scalar_word s) [])
unfolding scalar_read
scalar_is_read s = λ i. Named (unwrap_or (scalar_word_of (kind_distinguished s.kind i) s.width) [])

over_is_read : (under : Names) →
    (word : Option (List ℕ)) (over : TypeSpecifier → TypeSpecifier) (it : List ℕ) →
    key_read under it ≡ over (Named (unwrap_or word [])) →
    option_map over (option_map Named word) ≡ option_map (key_read under)
    (if is_some word then Some it else None)
over_is_read under None over it e = refl
over_is_read under (Some word) over it e = ap Some (sym e)

scalar_key_is_read : (under : Names) → (s : Scalar) → option_map Named (scalar_word s)
    ≡ option_map (key_read under) (over_scalar 0 s 0 0 0)
unfolding level_read
scalar_key_is_read under s = by (scalar_word s) (scalar_is_read s)
  where
    by : (word : Option (List ℕ)) →
        scalar_read (kind_number s.kind) s.width ≡ Named (unwrap_or word []) →
        option_map Named word ≡ option_map (key_read under)
        (if is_some word then Some (level 0 (kind_number s.kind) s.width 0 0 0) else None)
    by None e = refl
    by (Some word) e = ap Some (sym e)

value_key_is_read : (under : Names) → (n : Option VectorSize) (s : Scalar) → value_tree n s
    ≡ option_map (key_read under) (value_key n s)
unfolding level_read
value_key_is_read under None s = scalar_key_is_read under s
value_key_is_read under (Some n) s = over_is_read under (scalar_word s) (of_one (vector_word n)) _
    (λ i. of_one (vector_word (vector_distinguished n i)) (scalar_is_read s i))

pointer_is_read : (under : Names) →
    (at : AddressSpace) (o : Option TypeSpecifier) (p : Option (List ℕ)) →
    o ≡ option_map (key_read under) p → pointer_tree_in (space_word at) (space_access_word at) o ≡
    option_map (key_read under) (pointer_key at p)
unfolding level_read
pointer_is_read under at o p e = ap (pointer_tree_in (space_word at) (space_access_word at)) e ∙ by p
  where
    chosen : (word access : Option (List ℕ)) (t : TypeSpecifier) → pointer_tree_in word access (Some t)
        ≡ Some (pointer_read word access t)
    chosen None access t = refl
    chosen (Some word) access t = refl

    nothing : (word access : Option (List ℕ)) → pointer_tree_in word access None ≡ None
    nothing None access = refl
    nothing (Some word) access = refl

    by : (p : Option (List ℕ)) → pointer_tree_in (space_word at) (space_access_word at)
        (option_map (key_read under) p) ≡ option_map (key_read under) (pointer_key at p)
    by None = nothing (space_word at) (space_access_word at)
    by (Some it) =
        chosen (space_word at) (space_access_word at) (key_read under it) ∙
        (λ i. Some (pointer_read (sym (space_is_read at) i) (sym (access_number_is_read at) i) (key_read under it)))

value_pointer_is_read : (under : Names) →
    (at : AddressSpace) (o : Option TypeSpecifier) (p : Option (List ℕ)) →
    o ≡ option_map (key_read under) p →
    value_pointer_tree_in (space_word at) (space_access_word at) o ≡ option_map (key_read under)
    (value_pointer_key at p)
value_pointer_is_read under space.Handle o p e = refl
value_pointer_is_read under space.Function o p e = pointer_is_read under space.Function o p e
value_pointer_is_read under space.Private o p e = pointer_is_read under space.Private o p e
value_pointer_is_read under space.WorkGroup o p e = pointer_is_read under space.WorkGroup o p e
value_pointer_is_read under space.Uniform o p e = pointer_is_read under space.Uniform o p e
value_pointer_is_read under (space.Storage access) o p e = pointer_is_read under (space.Storage access) o p e
value_pointer_is_read under space.Immediate o p e = pointer_is_read under space.Immediate o p e
value_pointer_is_read under space.TaskPayload o p e = pointer_is_read under space.TaskPayload o p e
value_pointer_is_read under space.RayPayload o p e = pointer_is_read under space.RayPayload o p e
value_pointer_is_read under space.IncomingRayPayload o p e = pointer_is_read under space.IncomingRayPayload o p e

array_is_read : (under : Names) → (n : ArraySize) (o : Option TypeSpecifier) (p : Option (List ℕ)) →
    o ≡ option_map (key_read under) p → option_map (array_tree under (codes "array") n) o ≡
    option_map (key_read under) (array_key 6 n p)
unfolding level_read
array_is_read under n o p e = ap (option_map (array_tree under (codes "array") n)) e ∙ by n p
  where
    by : (n : ArraySize) (p : Option (List ℕ)) → option_map (array_tree under (codes "array") n)
        (option_map (key_read under) p) ≡ option_map (key_read under) (array_key 6 n p)
    by (size.Constant number) None = refl
    by (size.Constant number) (Some it) = refl
    by (size.Pending o) None = refl
    by (size.Pending o) (Some it) = refl
    by size.Dynamic None = refl
    by size.Dynamic (Some it) = refl

binding_array_is_read : (under : Names) →
    (n : ArraySize) (o : Option TypeSpecifier) (p : Option (List ℕ)) →
    o ≡ option_map (key_read under) p → option_map (array_tree under (codes "binding_array") n) o ≡
    option_map (key_read under) (array_key 7 n p)
unfolding level_read
binding_array_is_read under n o p e = ap (option_map (array_tree under (codes "binding_array") n)) e ∙ by n p
  where
    by : (n : ArraySize) (p : Option (List ℕ)) → option_map (array_tree under (codes "binding_array") n)
        (option_map (key_read under) p) ≡ option_map (key_read under) (array_key 7 n p)
    by (size.Constant number) None = refl
    by (size.Constant number) (Some it) = refl
    by (size.Pending o) None = refl
    by (size.Pending o) (Some it) = refl
    by size.Dynamic None = refl
    by size.Dynamic (Some it) = refl

image_is_read : (under : Names) → (dim : ImageDimension) (arrayed : Bool) (c : ImageClass) →
    image_tree dim arrayed c ≡ option_map (key_read under) (image_key dim arrayed c)
unfolding level_read image_read
image_is_read under dim arrayed (class.Sampled k multi) =
    let s : Scalar = record { kind = k; width = 4 } in
    over_is_read under (scalar_word s) (of_one (image_word (codes "texture_") multi dim arrayed)) _
    (λ i. of_one (image_word (codes "texture_") (truth_distinguished multi i) (dimension_distinguished dim i)
    (truth_distinguished arrayed i)) (scalar_is_read s i))
image_is_read under dim arrayed (class.Depth multi) =
    λ i. Some (Named (image_word (codes "texture_depth_") (sym (truth_distinguished multi) i)
    (sym (dimension_distinguished dim) i) (sym (truth_distinguished arrayed) i)))
image_is_read under dim arrayed class.External = refl
image_is_read under dim arrayed (class.Storage f access) =
    let access_distinguished = image_access_is_read (has atomic_bit access) (has load_bit access)
    (has store_bit access) in
    λ i. Some (of_two
    (image_word (codes "texture_storage_") false (sym (dimension_distinguished dim) i)
    (sym (truth_distinguished arrayed) i))
    (Named (format_word (sym (format_distinguished f) i))) (Named (sym access_distinguished i)))

module _ (under : Names) where
  inner_is_read : (f : ℕ → Option (List ℕ)) (g : ℕ → Option TypeSpecifier) →
      ((h : ℕ) → g h ≡ option_map (key_read under) (f h)) →
      (it : TypeInner) → inner_tree_by under g it ≡ option_map (key_read under) (inner_key_by f it)
  unfolding level_read
  inner_is_read f g same (inner.Scalar s) = scalar_key_is_read under s
  inner_is_read f g same (inner.Vector n s) = value_key_is_read under (Some n) s
  inner_is_read f g same (inner.Matrix columns rows s) =
      over_is_read under (scalar_word s) (of_one (matrix_word columns rows)) _
      (λ i. of_one (matrix_word (vector_distinguished columns i) (vector_distinguished rows i))
      (scalar_is_read s i))
  inner_is_read f g same (inner.CooperativeMatrix columns rows s role) =
      over_is_read under (scalar_word s) (λ t. of_two (cooperative_word columns rows) t
      (Named (matrix_role_word role))) _
      (λ i. of_two (cooperative_word (cooperative_distinguished columns i) (cooperative_distinguished rows i))
      (scalar_is_read s i) (Named (matrix_role_word (role_distinguished role i))))
  inner_is_read f g same (inner.Atomic s) = over_is_read under (scalar_word s) (of_one (codes "atomic")) _
      (λ i. of_one (codes "atomic") (scalar_is_read s i))
  inner_is_read f g same (inner.Pointer base at) = pointer_is_read under at (g base) (f base) (same base)
  inner_is_read f g same (inner.ValuePointer n s at) = value_pointer_is_read under at (value_tree n s)
      (value_key n s) (value_key_is_read under n s)
  inner_is_read f g same (inner.Array base n stride) = array_is_read under n (g base) (f base) (same base)
  inner_is_read f g same (inner.BindingArray base n) = binding_array_is_read under n (g base) (f base) (same base)
  inner_is_read f g same (inner.Struct members span) = refl
  inner_is_read f g same (inner.Image dim arrayed c) = image_is_read under dim arrayed c
  inner_is_read f g same (inner.Sampler comparison) =
      λ i. Some (Named (sampler_word (sym (truth_distinguished comparison) i)))
  inner_is_read f g same (inner.AccelerationStructure b) =
      λ i. Some (ray_tree (codes "acceleration_structure") (sym (truth_distinguished b) i))
  inner_is_read f g same (inner.RayQuery b) = λ i. Some (ray_tree (codes "ray_query") (sym (truth_distinguished b) i))

  found_is_read : (f : ℕ → Option (List ℕ)) (g : ℕ → Option TypeSpecifier) →
      ((h : ℕ) → g h ≡ option_map (key_read under) (f h)) → (h : ℕ) (o : Option Type_) →
      found_tree_by under g h o ≡ option_map (key_read under) (found_key_by f h o)
  unfolding level_read
  found_is_read f g same h None = refl
  found_is_read f g same h (Some t) = by (is_struct t.inner) _ _ (inner_is_read f g same t.inner)
    where
      by : (b : Bool) (x : Option TypeSpecifier) (y : Option (List ℕ)) →
          x ≡ option_map (key_read under) y →
          (if b then Some (Named (under.struct_name h)) else x) ≡ option_map (key_read under)
          (if b then Some (level 8 h 0 0 0 0) else y)
      by true x y e = refl
      by false x y e = e

  within_is_read : (levels h : ℕ) → tree_within levels under h ≡ option_map (key_read under)
      (key_within levels under.types h)
  within_is_read zero h = refl
  within_is_read (suc levels) h = found_is_read (key_within levels under.types) (tree_within levels under)
      (within_is_read levels) h (slice_get under.types h)

  handle_is_read : (h : ℕ) → type_tree under h ≡ option_map (key_read under) (handle_key under.types h)
  unfolding type_tree handle_key
  handle_is_read h = within_is_read (suc h) h

  -- a type's tree can be read off its numbers
  pub key_is_read : (r : TypeResolution) → resolution_tree under r ≡ option_map (key_read under)
      (type_key under.types r)
  key_is_read (Handle h) = handle_is_read h
  key_is_read (Value it) = inner_is_read (handle_key under.types) (type_tree under) handle_is_read it
