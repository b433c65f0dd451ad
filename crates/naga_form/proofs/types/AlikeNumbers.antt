-- The numbers that tell a type with a form can be read off the tree that it is read as, where no
-- type is a pointer in the space of handles.
use Rattle.std.proofs.Common.{◌≡◌, ℕ, zero, suc, Bool, true, false, List, [], ◌∷◌, ◌++◌, map, refl}
use Rattle.std.proofs.Common.{sym, ap, ◌∙◌, codes, Option, Some, None, slice_get, get_or}
use Rattle.std.proofs.Common.{if◌then◌else◌, ◌==◌, true≢false, eqb-true, ◌||◌}
use Rattle.std.proofs.lemmas.Bool.{and_parts, not-true}
use Rattle.std.proofs.lemmas.Option.{same_Some}
use Rattle.std.specs.Int.NonZero.{non_zero_u32_get}
use Rattle.std.specs.Option.{option_map, is_some}
use Rattle.std.specs.Str.{bytes_eq}
use denote.Enum.Declared.{tag_of}
use Rattle.naga_ir.specs.contracts.image.StorageFormat.{the_type as format_names}
use Rattle.naga_ir.specs.declared.image.StorageFormat.{StorageFormat}
use Rattle.naga_ir.specs.declared.image.StorageFormat.TheVariants as format
use Rattle.naga_ir.specs.declared.image.ImageClass.{ImageClass}
use Rattle.naga_ir.specs.declared.image.ImageClass.TheVariants as class
use Rattle.naga_ir.specs.declared.image.ImageDimension.{ImageDimension}
use Rattle.naga_ir.specs.declared.image.ImageDimension.TheVariants.{D1, D2, D3, Cube}
use Rattle.naga_ir.specs.declared.types.AddressSpace.{AddressSpace}
use Rattle.naga_ir.specs.declared.types.AddressSpace.TheVariants as space
use Rattle.naga_ir.specs.declared.types.ArraySize.{ArraySize}
use Rattle.naga_ir.specs.declared.types.ArraySize.TheVariants as size
use Rattle.naga_ir.specs.declared.types.CooperativeSize.{CooperativeSize}
use Rattle.naga_ir.specs.declared.types.CooperativeSize.TheVariants.{Eight, Sixteen}
use Rattle.naga_ir.specs.declared.types.CooperativeRole.{CooperativeRole}
use Rattle.naga_ir.specs.declared.types.CooperativeRole.TheVariants.{A}
use Rattle.naga_ir.specs.declared.types.Scalar.{Scalar}
use Rattle.naga_ir.specs.declared.types.ScalarKind.{ScalarKind}
use Rattle.naga_ir.specs.declared.types.ScalarKind.TheVariants as kind
use Rattle.naga_ir.specs.declared.types.Type_.{Type_}
use Rattle.naga_ir.specs.declared.types.TypeInner.{TypeInner}
use Rattle.naga_ir.specs.declared.types.TypeInner.TheVariants as inner
use Rattle.naga_ir.specs.declared.types.VectorSize.{VectorSize}
use Rattle.naga_ir.specs.declared.types.VectorSize.TheVariants.{Bi, Tri, Quad}
use Rattle.naga_info.specs.declared.info.TypeResolution.{TypeResolution}
use Rattle.naga_info.specs.declared.info.TypeResolution.TheVariants.{Handle, Value}
use Rattle.wgsl_text.specs.Types.{TypeSpecifier, TemplateArguments, Named, Template}
use Rattle.wgsl_text.specs.Types.{NoTemplateArguments, TypeArgument, SizeArgument, of_one, of_two}
use Rattle.wgsl_text.specs.Types.{pointer_tree}
use Rattle.wgsl_words.specs.Words.{scalar_word, scalar_word_of, space_word, space_access_word}
use Rattle.wgsl_words.specs.Words.{image_access_word, format_word, matrix_role_word, has, atomic_bit}
use Rattle.wgsl_words.specs.Words.{store_bit, load_bit}
use Rattle.naga_spelling.specs.Words.{vector_word, matrix_word, cooperative_word, image_word}
use Rattle.naga_spelling.specs.Words.{sampler_word}
use Rattle.naga_spelling.specs.Spelling.{is_struct}
use Rattle.module_semantics.specs.acceptance.InfoSizes.{is_handle_pointer, is_handle_space}
use Rattle.module_semantics.specs.acceptance.InfoSizes.{resolution_is_fit}
use Rattle.module_semantics.specs.TypeIdentity.{level, kind_number, component_count}
use Rattle.module_semantics.specs.TypeIdentity.{cooperative_number, matrix_role_number, dimension_number}
use Rattle.module_semantics.specs.TypeIdentity.{truth_number}
use Rattle.module_semantics.proofs.TypeIdentity.{formats}
use Rattle.module_semantics.specs.AlikeTypes.{value_key, scalar_key, pointer_key, value_pointer_key}
use Rattle.module_semantics.specs.AlikeTypes.{array_key, image_key, inner_key_by, found_key_by}
use Rattle.module_semantics.specs.AlikeTypes.{key_within, handle_key, type_key}
use Rattle.naga_form.specs.TypeTrees.{scalar_tree, value_tree, pointer_tree_in, array_tree}
use Rattle.naga_form.specs.TypeTrees.{value_pointer_tree_in, image_tree, ray_tree, inner_tree_by}
use Rattle.naga_form.specs.TypeTrees.{found_tree_by, tree_within, type_tree, resolution_tree}
use Rattle.naga_form.specs.Readable.{handle_names}
use Rattle.naga_spelling.specs.Contexts.{Names}
use Rattle.std.specs.List.{list_all}
use Rattle.std.proofs.lemmas.Slice.Eq.{bytes_eq-Decides}
use Rattle.wgsl_text.specs.Words.{IsIdentifier, is_builtin, is_reserved}

-- ---- words without parts: types, and what else stands in a type
abbrev first_row : {X : Type 0} → X → List (List ℕ × X) → List ℕ → X
first_row {X = X} other [] w = other
first_row {X = X} other (row ∷ rows) w =
    elim (bytes_eq w row.0) as (λ b. X) [ true ↦ row.1 | false ↦ first_row other rows w ]

abbrev format_row : StorageFormat → List ℕ × List ℕ
format_row f = (format_word f, level 23 (tag_of format_names f) 0 0 0 0)

abbrev depth_row : (multi : Bool) → ImageDimension → (arrayed : Bool) → List ℕ × List ℕ
depth_row multi dim arrayed = (
  image_word (codes "texture_depth_") multi dim arrayed,
  level 9 (dimension_number dim) (truth_number arrayed) 1 (truth_number multi) 0,
)

abbrev word_rows : List (List ℕ × List ℕ)
word_rows =
    (codes "bool", level 0 3 1 0 0 0) ∷
    (codes "i16", level 0 0 2 0 0 0) ∷
    (codes "i32", level 0 0 4 0 0 0) ∷
    (codes "i64", level 0 0 8 0 0 0) ∷
    (codes "u16", level 0 1 2 0 0 0) ∷
    (codes "u32", level 0 1 4 0 0 0) ∷
    (codes "u64", level 0 1 8 0 0 0) ∷
    (codes "f16", level 0 2 2 0 0 0) ∷
    (codes "f32", level 0 2 4 0 0 0) ∷
    (codes "f64", level 0 2 8 0 0 0) ∷
    (codes "texture_external", level 9 0 0 3 0 0) ∷
    (codes "sampler", level 10 0 0 0 0 0) ∷
    (codes "sampler_comparison", level 10 1 0 0 0 0) ∷
    (codes "acceleration_structure", level 11 0 0 0 0 0) ∷
    (codes "ray_query", level 12 0 0 0 0 0) ∷
    (codes "write", level 21 0 0 0 0 0) ∷
    (codes "read", level 21 1 0 0 0 0) ∷
    (codes "read_write", level 21 2 1 0 0 0) ∷
    (codes "atomic", level 21 3 2 0 0 0) ∷
    (codes "function", level 22 0 0 0 0 0) ∷
    (codes "private", level 22 1 0 0 0 0) ∷
    (codes "workgroup", level 22 2 0 0 0 0) ∷
    (codes "uniform", level 22 3 0 0 0 0) ∷
    (codes "storage", level 22 4 0 0 0 0) ∷
    (codes "immediate", level 22 6 0 0 0 0) ∷
    (codes "task_payload", level 22 7 0 0 0 0) ∷
    (codes "ray_payload", level 22 8 0 0 0 0) ∷
    (codes "incoming_ray_payload", level 22 9 0 0 0 0) ∷
    depth_row false D1 false ∷
    depth_row false D1 true ∷
    depth_row false D2 false ∷
    depth_row false D2 true ∷
    depth_row false D3 false ∷
    depth_row false D3 true ∷
    depth_row false Cube false ∷
    depth_row false Cube true ∷
    depth_row true D1 false ∷
    depth_row true D1 true ∷
    depth_row true D2 false ∷
    depth_row true D2 true ∷
    depth_row true D3 false ∷
    depth_row true D3 true ∷
    depth_row true Cube false ∷
    depth_row true Cube true ∷
    map format_row formats

-- the numbers of a word. What has no row is a struct's or an override's, of which `distinguished`
-- tells the handle
pub word_numbers : (distinguished : List ℕ → ℕ) → List ℕ → List ℕ
word_numbers distinguished [] = []
word_numbers distinguished (h ∷ []) = level 8 (distinguished (h ∷ [])) 0 0 0 0
word_numbers distinguished (x ∷ y ∷ w) =
    first_row (level 8 (distinguished (x ∷ y ∷ w)) 0 0 0 0) word_rows (x ∷ y ∷ w)

-- a word that has no row
no_row : {X : Type 0} (is : List ℕ → Bool) (other : X) (rows : List (List ℕ × X)) (w : List ℕ) →
    list_all (λ row. is row.0) rows ≡ true → is w ≡ false → first_row other rows w ≡ other
no_row is other [] w all not_so = refl
no_row {X = X} is other (row ∷ rows) w all not_so =
    let parts = and_parts (is row.0) (list_all (λ row. is row.0) rows) all in
    by parts.0 (no_row is other rows w parts.1 not_so) (bytes_eq w row.0) refl
  where
    by : is row.0 ≡ true → first_row other rows w ≡ other → (b : Bool) → bytes_eq w row.0 ≡ b →
        elim b as (λ b. X) [ true ↦ row.1 | false ↦ first_row other rows w ] ≡ other
    by taken more true at = absurd (true≢false (sym taken ∙ (ap is (sym ((bytes_eq-Decides w row.0).0 at)) ∙ not_so)))
    by taken more false at = more

abbrev is_taken : List ℕ → Bool
is_taken w = is_builtin w || is_reserved w

rows_are_taken : list_all (λ row. is_taken row.0) word_rows ≡ true
unfolding is_builtin is_reserved
rows_are_taken = refl

-- an identifier has no row
pub named_numbers : (distinguished : List ℕ → ℕ) (w : List ℕ) → IsIdentifier w → word_numbers distinguished w
    ≡ level 8 (distinguished w) 0 0 0 0
unfolding word_numbers
named_numbers distinguished [] is = absurd (true≢false (sym is.word.text))
named_numbers distinguished (h ∷ []) is = refl
named_numbers distinguished (x ∷ y ∷ w) is =
    no_row is_taken (level 8 (distinguished (x ∷ y ∷ w)) 0 0 0 0) word_rows (x ∷ y ∷ w) rows_are_taken
    (λ i. is.own i || is.word.free i)

-- ---- words with parts
-- how the numbers of the parts make those of the whole
pub data Filling : Type 0 where
  NoTemplate PointerTo : Filling
  OverScalar : (tag third fourth : ℕ) → Filling
  OverRole : (columns rows : ℕ) → Filling
  SampledImage : (dim arrayed multi : ℕ) → Filling
  StorageImage : (dim arrayed : ℕ) → Filling
  ArrayOf : (tag : ℕ) → Filling
  WithReturn : (tag : ℕ) → Filling

abbrev vector_row : VectorSize → List ℕ × Filling
vector_row n = (vector_word n, OverScalar 1 (component_count n) 0)

abbrev matrix_row : (columns rows : VectorSize) → List ℕ × Filling
matrix_row c r = (matrix_word c r, OverScalar 2 (component_count c) (component_count r))

abbrev cooperative_row : (columns rows : CooperativeSize) → List ℕ × Filling
cooperative_row c r = (cooperative_word c r, OverRole (cooperative_number c) (cooperative_number r))

abbrev sampled_row : (multi : Bool) → ImageDimension → (arrayed : Bool) → List ℕ × Filling
sampled_row multi dim arrayed = (
  image_word (codes "texture_") multi dim arrayed,
  SampledImage (dimension_number dim) (truth_number arrayed) (truth_number multi),
)

abbrev storage_row : ImageDimension → (arrayed : Bool) → List ℕ × Filling
storage_row dim arrayed = (
  image_word (codes "texture_storage_") false dim arrayed,
  StorageImage (dimension_number dim) (truth_number arrayed),
)

abbrev template_rows : List (List ℕ × Filling)
template_rows =
    vector_row Bi ∷
    vector_row Tri ∷
    vector_row Quad ∷
    matrix_row Bi Bi ∷
    matrix_row Bi Tri ∷
    matrix_row Bi Quad ∷
    matrix_row Tri Bi ∷
    matrix_row Tri Tri ∷
    matrix_row Tri Quad ∷
    matrix_row Quad Bi ∷
    matrix_row Quad Tri ∷
    matrix_row Quad Quad ∷
    cooperative_row Eight Eight ∷
    cooperative_row Eight Sixteen ∷
    cooperative_row Sixteen Eight ∷
    cooperative_row Sixteen Sixteen ∷
    (codes "atomic", OverScalar 4 0 0) ∷
    (codes "ptr", PointerTo) ∷
    (codes "array", ArrayOf 6) ∷
    (codes "binding_array", ArrayOf 7) ∷
    (codes "acceleration_structure", WithReturn 11) ∷
    (codes "ray_query", WithReturn 12) ∷
    sampled_row false D1 false ∷
    sampled_row false D1 true ∷
    sampled_row false D2 false ∷
    sampled_row false D2 true ∷
    sampled_row false D3 false ∷
    sampled_row false D3 true ∷
    sampled_row false Cube false ∷
    sampled_row false Cube true ∷
    sampled_row true D1 false ∷
    sampled_row true D1 true ∷
    sampled_row true D2 false ∷
    sampled_row true D2 true ∷
    sampled_row true D3 false ∷
    sampled_row true D3 true ∷
    sampled_row true Cube false ∷
    sampled_row true Cube true ∷
    storage_row D1 false ∷
    storage_row D1 true ∷
    storage_row D2 false ∷
    storage_row D2 true ∷
    storage_row D3 false ∷
    storage_row D3 true ∷
    storage_row Cube false ∷
    storage_row Cube true ∷
    []

pub filling_of : List ℕ → Filling
filling_of w = first_row NoTemplate template_rows w

abbrev number_at : List (List ℕ) → (part place : ℕ) → ℕ
number_at parts i j = get_or (get_or parts i []) j 0

-- the letter of a role, which stands in the second part
abbrev letter_in : TemplateArguments → ℕ
letter_in (TypeArgument t (TypeArgument (Named (c ∷ w)) more)) = c
letter_in _ = 0

abbrev role_at : ℕ → ℕ
role_at n = if n == 65 then 0 else (if n == 66 then 1 else 2)

abbrev length_tag : ℕ → ℕ
length_tag n = if n == 30 then 0 else (if n == 8 then 1 else 2)

abbrev filled : Filling → (letter : ℕ) → (parts : List (List ℕ)) → List ℕ
filled NoTemplate letter parts = []
filled PointerTo letter parts = level 5 (number_at parts 0 1) (number_at parts 2 2) 0 0 0 ++ get_or parts 1 []
filled (OverScalar tag third fourth) letter parts = level tag (number_at parts 0 1) (number_at parts 0 2) third fourth 0
filled (OverRole c r) letter parts = level 3 (number_at parts 0 1) (number_at parts 0 2) c r (role_at letter)
filled (SampledImage dim arrayed multi) letter parts = level 9 dim arrayed 0 (number_at parts 0 1) multi
filled (StorageImage dim arrayed) letter parts = level 9 dim arrayed 2 (number_at parts 0 1) (number_at parts 1 1)
filled (ArrayOf tag) letter parts = level tag (length_tag (number_at parts 1 0)) (number_at parts 1 1) 0 0 0
    ++ get_or parts 0 []
filled (WithReturn tag) letter parts = level tag 1 0 0 0 0

abbrev mutual
  pub tree_numbers : (distinguished : List ℕ → ℕ) → TypeSpecifier → List ℕ
  tree_numbers distinguished (Named w) = word_numbers distinguished w
  tree_numbers distinguished (Template w parts) =
      filled (filling_of w) (letter_in parts) (parts_numbers distinguished parts)

  parts_numbers : (distinguished : List ℕ → ℕ) → TemplateArguments → List (List ℕ)
  parts_numbers distinguished NoTemplateArguments = []
  parts_numbers distinguished (TypeArgument t more) =
      tree_numbers distinguished t ∷ parts_numbers distinguished more
  parts_numbers distinguished (SizeArgument n more) =
      level 30 n 0 0 0 0 ∷ parts_numbers distinguished more

pub no_numbers : (distinguished : List ℕ → ℕ) → tree_numbers distinguished (Named []) ≡ []
unfolding word_numbers
no_numbers distinguished = refl

-- a length that is an override is told by the override's name
abbrev pub LengthIsDistinguished : (distinguished : List ℕ → ℕ) → Names → ArraySize → Type 0
LengthIsDistinguished distinguished under (size.Pending o) = word_numbers distinguished (under.override_name o)
    ≡ level 8 o 0 0 0 0
LengthIsDistinguished distinguished under _ = Unit {0}

abbrev pub InnerIsDistinguished : (distinguished : List ℕ → ℕ) → Names → TypeInner → Type 0
InnerIsDistinguished distinguished under (inner.Array base n stride) =
    LengthIsDistinguished distinguished under n
InnerIsDistinguished distinguished under (inner.BindingArray base n) =
    LengthIsDistinguished distinguished under n
InnerIsDistinguished distinguished under _ = Unit {0}

abbrev pub ResolutionIsDistinguished : (distinguished : List ℕ → ℕ) → Names → TypeResolution →
    Type 0
ResolutionIsDistinguished distinguished under (Handle h) = Unit {0}
ResolutionIsDistinguished distinguished under (Value it) =
    InnerIsDistinguished distinguished under it

-- the words of structs and of overrides tell their handles
pub record AreDistinguished (distinguished : List ℕ → ℕ) (under : Names) : Type 0 where
  pub structs : (h : ℕ) (t : Type_) → slice_get under.types h ≡ Some t → is_struct t.inner ≡ true →
      word_numbers distinguished (under.struct_name h) ≡ level 8 h 0 0 0 0
  pub lengths : (h : ℕ) (t : Type_) → slice_get under.types h ≡ Some t →
      InnerIsDistinguished distinguished under t.inner

abbrev length_part : Names → ℕ → TemplateArguments
length_part under o = TypeArgument (Named (under.override_name o)) NoTemplateArguments

module _ (distinguished : List ℕ → ℕ) where
  -- ---- each word's row
  format_numbers : (f : StorageFormat) → word_numbers distinguished (format_word f)
      ≡ level 23 (tag_of format_names f) 0 0 0 0
  unfolding word_numbers
  format_numbers format.R8Unorm = refl
  format_numbers _ = refl

  vector_filling : (n : VectorSize) → filling_of (vector_word n) ≡ OverScalar 1 (component_count n) 0
  unfolding filling_of
  vector_filling Bi = refl
  vector_filling _ = refl

  matrix_filling : (c r : VectorSize) → filling_of (matrix_word c r) ≡ OverScalar 2 (component_count c)
      (component_count r)
  unfolding filling_of
  matrix_filling Bi Bi = refl
  matrix_filling Bi Tri = refl
  matrix_filling Bi Quad = refl
  matrix_filling Tri Bi = refl
  matrix_filling Tri Tri = refl
  matrix_filling Tri Quad = refl
  matrix_filling Quad Bi = refl
  matrix_filling Quad Tri = refl
  matrix_filling Quad Quad = refl

  cooperative_filling : (c r : CooperativeSize) → filling_of (cooperative_word c r)
      ≡ OverRole (cooperative_number c) (cooperative_number r)
  unfolding filling_of
  cooperative_filling Eight Eight = refl
  cooperative_filling Eight Sixteen = refl
  cooperative_filling Sixteen Eight = refl
  cooperative_filling Sixteen Sixteen = refl

  sampled_filling : (multi : Bool) (dim : ImageDimension) (arrayed : Bool) →
      filling_of (image_word (codes "texture_") multi dim arrayed) ≡ SampledImage
      (dimension_number dim) (truth_number arrayed) (truth_number multi)
  unfolding filling_of
  sampled_filling false D1 false = refl
  sampled_filling false D1 true = refl
  sampled_filling false D2 false = refl
  sampled_filling false D2 true = refl
  sampled_filling false D3 false = refl
  sampled_filling false D3 true = refl
  sampled_filling false Cube false = refl
  sampled_filling false Cube true = refl
  sampled_filling true D1 false = refl
  sampled_filling true D1 true = refl
  sampled_filling true D2 false = refl
  sampled_filling true D2 true = refl
  sampled_filling true D3 false = refl
  sampled_filling true D3 true = refl
  sampled_filling true Cube false = refl
  sampled_filling true Cube true = refl

  storage_filling : (dim : ImageDimension) (arrayed : Bool) →
      filling_of (image_word (codes "texture_storage_") false dim arrayed) ≡ StorageImage (dimension_number dim)
      (truth_number arrayed)
  unfolding filling_of
  storage_filling D1 false = refl
  storage_filling D1 true = refl
  storage_filling D2 false = refl
  storage_filling D2 true = refl
  storage_filling D3 false = refl
  storage_filling D3 true = refl
  storage_filling Cube false = refl
  storage_filling Cube true = refl

  depth_numbers : (multi : Bool) (dim : ImageDimension) (arrayed : Bool) →
      word_numbers distinguished (image_word (codes "texture_depth_") multi dim arrayed) ≡ level 9
      (dimension_number dim) (truth_number arrayed) 1 (truth_number multi) 0
  unfolding word_numbers
  depth_numbers false D1 false = refl
  depth_numbers false D1 true = refl
  depth_numbers false D2 false = refl
  depth_numbers false D2 true = refl
  depth_numbers false D3 false = refl
  depth_numbers false D3 true = refl
  depth_numbers false Cube false = refl
  depth_numbers false Cube true = refl
  depth_numbers true D1 false = refl
  depth_numbers true D1 true = refl
  depth_numbers true D2 false = refl
  depth_numbers true D2 true = refl
  depth_numbers true D3 false = refl
  depth_numbers true D3 true = refl
  depth_numbers true Cube false = refl
  depth_numbers true Cube true = refl

  abbrev role_parts : CooperativeRole → TemplateArguments
  role_parts r = TypeArgument (Named []) (TypeArgument (Named (matrix_role_word r)) NoTemplateArguments)

  role_numbers : (r : CooperativeRole) → role_at (letter_in (role_parts r)) ≡ matrix_role_number r
  role_numbers A = refl
  role_numbers _ = refl

  image_access_numbers : (a l s : Bool) →
      get_or (word_numbers distinguished
      (if a then codes "atomic" else (if l then (if s then codes "read_write" else codes "read")
      else codes "write"))) 1 0 ≡ (if a then 3 else (if l then (if s then 2 else 1) else 0))
  unfolding word_numbers
  image_access_numbers true l s = refl
  image_access_numbers false true true = refl
  image_access_numbers false true false = refl
  image_access_numbers false false s = refl

  -- a scalar of that kind and width
  abbrev IsScalarNumbers : (kind width : ℕ) → List ℕ → Type 0
  IsScalarNumbers k n w = word_numbers distinguished w ≡ level 0 k n 0 0 0

  scalar_choice : (k n m : ℕ) (u : List ℕ) (others : Option (List ℕ)) (w : List ℕ) →
      IsScalarNumbers k m u → (others ≡ Some w → IsScalarNumbers k n w) →
      (if n == m then Some u else others) ≡ Some w → IsScalarNumbers k n w
  scalar_choice k n m u others w one more e = by (n == m) refl e
    where
      by : (b : Bool) → (n == m) ≡ b → (if b then Some u else others) ≡ Some w → IsScalarNumbers k n w
      by true at e =
          let width : n ≡ m = eqb-true n m at in
          let word : u ≡ w = same_Some u w e in
          ap (word_numbers distinguished) (sym word) ∙ one ∙ ap (λ x. level 0 k x 0 0 0) (sym width)
      by false at e = more e

  scalar_numbers : (k : ScalarKind) (n : ℕ) (w : List ℕ) → scalar_word_of k n ≡ Some w →
      IsScalarNumbers (kind_number k) n w
  unfolding word_numbers
  scalar_numbers kind.Bool n w e = scalar_choice 3 n 1 (codes "bool") None w refl (λ e. absurd (cc)) e
  scalar_numbers kind.Sint n w e = scalar_choice 0 n 2 (codes "i16") _ w refl
      (scalar_choice 0 n 4 (codes "i32") _ w refl (scalar_choice 0 n 8 (codes "i64") None w refl (λ e. absurd (cc)))) e
  scalar_numbers kind.Uint n w e = scalar_choice 1 n 2 (codes "u16") _ w refl
      (scalar_choice 1 n 4 (codes "u32") _ w refl (scalar_choice 1 n 8 (codes "u64") None w refl (λ e. absurd (cc)))) e
  scalar_numbers kind.Float n w e = scalar_choice 2 n 2 (codes "f16") _ w refl
      (scalar_choice 2 n 4 (codes "f32") _ w refl (scalar_choice 2 n 8 (codes "f64") None w refl (λ e. absurd (cc)))) e
  scalar_numbers kind.AbstractInt n w e = absurd (cc)
  scalar_numbers kind.AbstractFloat n w e = absurd (cc)

  -- ---- each type
  over_is_distinguished : (word : Option (List ℕ)) (over : TypeSpecifier → TypeSpecifier)
      (it : List ℕ) →
      ((w : List ℕ) → word ≡ Some w → tree_numbers distinguished (over (Named w)) ≡ it) →
      (if is_some word then Some it else None) ≡ option_map (tree_numbers distinguished)
      (option_map over (option_map Named word))
  over_is_distinguished None over it e = refl
  over_is_distinguished (Some w) over it e = ap Some (sym (e w refl))

  scalar_is_distinguished : (s : Scalar) → scalar_key s ≡ option_map (tree_numbers distinguished)
      (scalar_tree s)
  scalar_is_distinguished s = by (scalar_word s) (scalar_numbers s.kind s.width)
    where
      by : (word : Option (List ℕ)) →
          ((w : List ℕ) → word ≡ Some w → IsScalarNumbers (kind_number s.kind) s.width w) →
          (if is_some word then Some (level 0 (kind_number s.kind) s.width 0 0 0) else None) ≡
          option_map (tree_numbers distinguished) (option_map Named word)
      by None e = refl
      by (Some w) e = ap Some (sym (e w refl))

  -- a type over a scalar, by its word's row
  scalar_part : (word : List ℕ) (filling : Filling) → filling_of word ≡ filling →
      (s : Scalar) (w : List ℕ) → scalar_word s ≡ Some w →
      tree_numbers distinguished (of_one word (Named w)) ≡ filled filling 0
      (level 0 (kind_number s.kind) s.width 0 0 0 ∷ [])
  scalar_part word filling row s w e = λ i. filled (row i) 0 (scalar_numbers s.kind s.width w e i ∷ [])

  value_is_distinguished : (n : Option VectorSize) (s : Scalar) →
      value_key n s ≡ option_map (tree_numbers distinguished) (value_tree n s)
  value_is_distinguished None s = scalar_is_distinguished s
  value_is_distinguished (Some n) s = over_is_distinguished (scalar_word s) (of_one (vector_word n)) _
      (scalar_part (vector_word n) _ (vector_filling n) s)

  buffer_is_distinguished : (a s : Bool) (t : TypeSpecifier) →
      level 5 4 (if a then 2 else (if s then 1 else 0)) 0 0 0 ++ tree_numbers distinguished t ≡
      tree_numbers distinguished
      (pointer_tree (codes "storage")
      (if a then Some (codes "atomic") else (if s then Some (codes "read_write") else None)) t)
  unfolding word_numbers filling_of
  buffer_is_distinguished true s t = refl
  buffer_is_distinguished false true t = refl
  buffer_is_distinguished false false t = refl

  pointer_is_distinguished : (at : AddressSpace) → is_handle_space at ≡ false →
      (p : Option (List ℕ)) (o : Option TypeSpecifier) →
      p ≡ option_map (tree_numbers distinguished) o →
      pointer_key at p ≡ option_map (tree_numbers distinguished)
      (pointer_tree_in (space_word at) (space_access_word at) o)
  unfolding word_numbers filling_of
  pointer_is_distinguished at named p o e = ap (pointer_key at) e ∙ by o
    where
      nothing : (word access : Option (List ℕ)) → None ≡ option_map (tree_numbers distinguished)
          (pointer_tree_in word access None)
      nothing None access = refl
      nothing (Some word) access = refl

      pointee : (at : AddressSpace) → is_handle_space at ≡ false → (t : TypeSpecifier) →
          pointer_key at (Some (tree_numbers distinguished t)) ≡ option_map
          (tree_numbers distinguished)
          (pointer_tree_in (space_word at) (space_access_word at) (Some t))
      pointee (space.Storage access) named t =
          ap Some (buffer_is_distinguished (has atomic_bit access) (has store_bit access) t)
      pointee space.Handle named t = absurd (true≢false named)
      pointee _ named t = refl

      by : (o : Option TypeSpecifier) → pointer_key at (option_map (tree_numbers distinguished) o)
          ≡ option_map (tree_numbers distinguished) (pointer_tree_in (space_word at) (space_access_word at) o)
      by None = nothing (space_word at) (space_access_word at)
      by (Some t) = pointee at named t

  value_pointer_is_distinguished : (at : AddressSpace) (p : Option (List ℕ))
      (o : Option TypeSpecifier) → p ≡ option_map (tree_numbers distinguished) o →
      value_pointer_key at p ≡ option_map (tree_numbers distinguished)
      (value_pointer_tree_in (space_word at) (space_access_word at) o)
  value_pointer_is_distinguished space.Handle p o e = refl
  value_pointer_is_distinguished space.Function p o e =
      pointer_is_distinguished space.Function refl p o e
  value_pointer_is_distinguished space.Private p o e =
      pointer_is_distinguished space.Private refl p o e
  value_pointer_is_distinguished space.WorkGroup p o e =
      pointer_is_distinguished space.WorkGroup refl p o e
  value_pointer_is_distinguished space.Uniform p o e =
      pointer_is_distinguished space.Uniform refl p o e
  value_pointer_is_distinguished (space.Storage access) p o e =
      pointer_is_distinguished (space.Storage access) refl p o e
  value_pointer_is_distinguished space.Immediate p o e =
      pointer_is_distinguished space.Immediate refl p o e
  value_pointer_is_distinguished space.TaskPayload p o e =
      pointer_is_distinguished space.TaskPayload refl p o e
  value_pointer_is_distinguished space.RayPayload p o e =
      pointer_is_distinguished space.RayPayload refl p o e
  value_pointer_is_distinguished space.IncomingRayPayload p o e =
      pointer_is_distinguished space.IncomingRayPayload refl p o e

  array_is_distinguished : (under : Names) (word : List ℕ) (tag : ℕ) →
      filling_of word ≡ ArrayOf tag →
      (n : ArraySize) → LengthIsDistinguished distinguished under n →
      (p : Option (List ℕ)) (o : Option TypeSpecifier) →
      p ≡ option_map (tree_numbers distinguished) o →
      array_key tag n p ≡ option_map (tree_numbers distinguished)
      (option_map (array_tree under word n) o)
  unfolding word_numbers
  array_is_distinguished under word tag row n is p o e = ap (array_key tag n) e ∙ by n is o
    where
      by : (n : ArraySize) → LengthIsDistinguished distinguished under n →
          (o : Option TypeSpecifier) → array_key tag n (option_map (tree_numbers distinguished) o) ≡
          option_map (tree_numbers distinguished) (option_map (array_tree under word n) o)
      by (size.Constant number) is None = refl
      by (size.Pending handle) is None = refl
      by size.Dynamic is None = refl
      by (size.Constant number) is (Some t) =
          λ i. Some (filled (sym row i) 0 (parts_numbers distinguished
          (TypeArgument t (SizeArgument (non_zero_u32_get number) NoTemplateArguments))))
      by (size.Pending handle) is (Some t) =
          (λ i. Some (level tag (length_tag (get_or (sym is i) 0 0)) (get_or (sym is i) 1 0) 0 0 0
          ++ tree_numbers distinguished t))
          ∙ (λ i. Some (filled (sym row i) (letter_in (TypeArgument t (length_part under handle)))
          (parts_numbers distinguished (TypeArgument t (length_part under handle)))))
      by size.Dynamic is (Some t) =
          λ i. Some (filled (sym row i) 0 (parts_numbers distinguished (TypeArgument t NoTemplateArguments)))

  image_is_distinguished : (dim : ImageDimension) (arrayed : Bool) (c : ImageClass) → image_key dim arrayed c
      ≡ option_map (tree_numbers distinguished) (image_tree dim arrayed c)
  unfolding word_numbers
  image_is_distinguished dim arrayed (class.Sampled k multi) =
      let s : Scalar = record { kind = k; width = 4 } in
      let word = image_word (codes "texture_") multi dim arrayed in
      over_is_distinguished (scalar_word s) (of_one word) _ (scalar_part word _ (sampled_filling multi dim arrayed) s)
  image_is_distinguished dim arrayed (class.Depth multi) =
      ap Some (sym (depth_numbers multi dim arrayed))
  image_is_distinguished dim arrayed class.External = refl
  image_is_distinguished dim arrayed (class.Storage f access) =
      let access_distinguished = image_access_numbers (has atomic_bit access) (has load_bit access)
      (has store_bit access) in
      sym ((λ i. Some
      (filled (storage_filling dim arrayed i)
      (letter_in (TypeArgument (Named [])
      (TypeArgument (Named (image_access_word access)) NoTemplateArguments)))
      (format_numbers f i ∷ word_numbers distinguished (image_access_word access) ∷ []))) ∙
      ap (λ x. Some (level 9 (dimension_number dim) (truth_number arrayed) 2 (tag_of format_names f) x))
      access_distinguished)

  sampler_is_distinguished : (b : Bool) → Some (level 10 (truth_number b) 0 0 0 0)
      ≡ Some (word_numbers distinguished (sampler_word b))
  unfolding word_numbers
  sampler_is_distinguished true = refl
  sampler_is_distinguished false = refl

  structure_is_distinguished : (b : Bool) → Some (level 11 (truth_number b) 0 0 0 0)
      ≡ Some (tree_numbers distinguished (ray_tree (codes "acceleration_structure") b))
  unfolding word_numbers filling_of
  structure_is_distinguished true = refl
  structure_is_distinguished false = refl

  query_is_distinguished : (b : Bool) → Some (level 12 (truth_number b) 0 0 0 0)
      ≡ Some (tree_numbers distinguished (ray_tree (codes "ray_query") b))
  unfolding word_numbers filling_of
  query_is_distinguished true = refl
  query_is_distinguished false = refl

  module _ (under : Names) where
    inner_is_distinguished : (f : ℕ → Option (List ℕ)) (g : ℕ → Option TypeSpecifier) →
        ((h : ℕ) → f h ≡ option_map (tree_numbers distinguished) (g h)) →
        (it : TypeInner) → InnerIsDistinguished distinguished under it →
        is_handle_pointer it ≡ false → inner_key_by f it ≡ option_map (tree_numbers distinguished)
        (inner_tree_by under g it)
    unfolding filling_of
    inner_is_distinguished f g same (inner.Scalar s) is named = scalar_is_distinguished s
    inner_is_distinguished f g same (inner.Vector n s) is named = value_is_distinguished (Some n) s
    inner_is_distinguished f g same (inner.Matrix c r s) is named =
        over_is_distinguished (scalar_word s) (of_one (matrix_word c r)) _
        (scalar_part (matrix_word c r) _ (matrix_filling c r) s)
    inner_is_distinguished f g same (inner.CooperativeMatrix c r s role) is named =
        over_is_distinguished (scalar_word s) (λ t. of_two (cooperative_word c r) t (Named (matrix_role_word role))) _
        (λ w e. (λ i. filled (cooperative_filling c r i) (letter_in (role_parts role))
        (scalar_numbers s.kind s.width w e i ∷ word_numbers distinguished (matrix_role_word role) ∷ [])) ∙
        ap (λ x. level 3 (kind_number s.kind) s.width (cooperative_number c) (cooperative_number r) x)
        (role_numbers role))
    inner_is_distinguished f g same (inner.Atomic s) is named =
        over_is_distinguished (scalar_word s) (of_one (codes "atomic")) _ (scalar_part (codes "atomic") _ refl s)
    inner_is_distinguished f g same (inner.Pointer base at) is named =
        pointer_is_distinguished at named (f base) (g base) (same base)
    inner_is_distinguished f g same (inner.ValuePointer n s at) is named =
        value_pointer_is_distinguished at (value_key n s) (value_tree n s) (value_is_distinguished n s)
    inner_is_distinguished f g same (inner.Array base n stride) is named =
        array_is_distinguished under (codes "array") 6 refl n is (f base) (g base) (same base)
    inner_is_distinguished f g same (inner.BindingArray base n) is named =
        array_is_distinguished under (codes "binding_array") 7 refl n is (f base) (g base) (same base)
    inner_is_distinguished f g same (inner.Struct members span) is named = refl
    inner_is_distinguished f g same (inner.Image dim arrayed c) is named =
        image_is_distinguished dim arrayed c
    inner_is_distinguished f g same (inner.Sampler comparison) is named =
        sampler_is_distinguished comparison
    inner_is_distinguished f g same (inner.AccelerationStructure b) is named =
        structure_is_distinguished b
    inner_is_distinguished f g same (inner.RayQuery b) is named = query_is_distinguished b

    module _ (are : AreDistinguished distinguished under)
        (named : (h : ℕ) (t : Type_) → slice_get under.types h ≡ Some t → is_handle_pointer t.inner ≡ false) where
      found_is_distinguished : (f : ℕ → Option (List ℕ)) (g : ℕ → Option TypeSpecifier) →
          ((h : ℕ) → f h ≡ option_map (tree_numbers distinguished) (g h)) →
          (h : ℕ) (o : Option Type_) → slice_get under.types h ≡ o →
          found_key_by f h o ≡ option_map (tree_numbers distinguished) (found_tree_by under g h o)
      unfolding word_numbers
      found_is_distinguished f g same h None at = refl
      found_is_distinguished f g same h (Some t) at =
          by (is_struct t.inner) refl _ _ (inner_is_distinguished f g same t.inner (are.lengths h t at) (named h t at))
        where
          by : (b : Bool) → is_struct t.inner ≡ b →
              (x : Option (List ℕ)) (y : Option TypeSpecifier) →
              x ≡ option_map (tree_numbers distinguished) y →
              (if b then Some (level 8 h 0 0 0 0) else x) ≡ option_map (tree_numbers distinguished)
              (if b then Some (Named (under.struct_name h)) else y)
          by true is x y e = ap Some (sym (are.structs h t at is))
          by false is x y e = e

      within_is_distinguished : (levels h : ℕ) → key_within levels under.types h
          ≡ option_map (tree_numbers distinguished) (tree_within levels under h)
      within_is_distinguished zero h = refl
      within_is_distinguished (suc levels) h = found_is_distinguished (key_within levels under.types)
          (tree_within levels under) (within_is_distinguished levels) h (slice_get under.types h) refl

      handle_is_distinguished : (h : ℕ) → handle_key under.types h ≡ option_map (tree_numbers distinguished)
          (type_tree under h)
      unfolding type_tree handle_key
      handle_is_distinguished h = within_is_distinguished (suc h) h

      -- a type's numbers can be read off its tree
      pub key_is_distinguished : (r : TypeResolution) →
          ResolutionIsDistinguished distinguished under r → resolution_is_fit r ≡ true →
          type_key under.types r ≡ option_map (tree_numbers distinguished) (resolution_tree under r)
      key_is_distinguished (Handle h) is fit = handle_is_distinguished h
      key_is_distinguished (Value it) is fit = inner_is_distinguished (handle_key under.types)
          (type_tree under) handle_is_distinguished it is (not-true (is_handle_pointer it) (and_parts _ _ fit).1)

-- ---- names that are handles
abbrev pub own_handle : List ℕ → ℕ
own_handle w = get_or w 0 0

module _ (types : List Type_) where
  length_is : (n : ArraySize) → LengthIsDistinguished own_handle (handle_names types) n
  unfolding word_numbers
  length_is (size.Pending o) = refl
  length_is _ = tt

  inner_is : (it : TypeInner) → InnerIsDistinguished own_handle (handle_names types) it
  inner_is (inner.Array base n stride) = length_is n
  inner_is (inner.BindingArray base n) = length_is n
  inner_is _ = tt

  struct_is : (h : ℕ) → word_numbers own_handle (h ∷ []) ≡ level 8 h 0 0 0 0
  unfolding word_numbers
  struct_is h = refl

  pub handles_are_distinguished : AreDistinguished own_handle (handle_names types)
  handles_are_distinguished = record { structs = λ h t at is. struct_is h; lengths = λ h t at. inner_is t.inner }

  pub resolution_is_distinguished : (r : TypeResolution) →
      ResolutionIsDistinguished own_handle (handle_names types) r
  resolution_is_distinguished (Handle h) = tt
  resolution_is_distinguished (Value it) = inner_is it
